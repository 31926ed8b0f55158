use Rattle.std.proofs.Common.{[]}
use Rattle.view_shell.proofs.lines.watch.Goals as goal

pub returns-clause-printed : goal.returns-clause-printed
returns-clause-printed g c v topics replica =
    rw (topics, replica) (rw (c.in_ok-subscribe.ensures.ok, c.in-Ok-Ok.ensures, c.in-Ok-Ok.ensures') at c.finish.ensures.ok [] [])

pub returns-clause-err : goal.returns-clause-err
returns-clause-err g c v topics replica =
    rw (topics, replica) (rw (c.in_ok-subscribe.ensures.ok, c.in-Ok-Ok.ensures, c.in-Ok-Ok.ensures') at c.finish.ensures.err [] [])
