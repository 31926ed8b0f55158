use Rattle.replica.specs.View.{worlds_of}
use Rattle.view_shell.proofs.Keeping.{is_taken_keeps}
use Rattle.view_shell.proofs.Readiness.{knows_on}
use Rattle.view_shell.proofs.hearing.take.Goals as goal

pub returns-in-Ok-take-clause-knows : goal.returns-in-Ok-take-clause-knows
returns-in-Ok-take-clause-knows c knows =
    knows_on c.args.watcher.now c.take.new.self
    (is_taken_keeps (worlds_of c.args.watcher.now.replica) c.args.watcher.now.replica.plain c.in-Ok.frame c.take.new.self.plain c.take.result c.take.ensures.taken) c.take.ensures.session knows

pub returns-in-Err-clause-knows : goal.returns-in-Err-clause-knows
returns-in-Err-clause-knows c knows =
    knows_on c.args.watcher.now c.take.new.self
    (is_taken_keeps (worlds_of c.args.watcher.now.replica) c.args.watcher.now.replica.plain c.in-Ok.frame c.take.new.self.plain c.take.result c.take.ensures.taken) c.take.ensures.session knows
