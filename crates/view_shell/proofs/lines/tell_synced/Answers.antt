use Rattle.view_shell.proofs.lines.tell_synced.Goals as goal

pub returns-in-None-clause-printed : goal.returns-in-None-clause-printed
returns-in-None-clause-printed g c address lines = rw c.in-None.is (c.finish.ensures.ok address lines)

pub returns-in-None-clause-err : goal.returns-in-None-clause-err
returns-in-None-clause-err g c address lines = rw c.in-None.is (c.finish.ensures.err address lines)

pub returns-in-Some-clause-printed : goal.returns-in-Some-clause-printed
returns-in-Some-clause-printed g c address lines = rw c.in-Some.is (rw (c.from.ensures, c.from-in-Some.ensures) at c.finish_with.ensures.printed address lines)

pub returns-in-Some-clause-err : goal.returns-in-Some-clause-err
returns-in-Some-clause-err g c address lines = rw c.in-Some.is (rw (c.from.ensures, c.from-in-Some.ensures) at c.finish_with.ensures.err address lines)
