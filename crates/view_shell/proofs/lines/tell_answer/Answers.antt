use Rattle.view_shell.proofs.lines.tell_answer.Goals as goal

pub returns-in-Kept-clause-printed : goal.returns-in-Kept-clause-printed
returns-in-Kept-clause-printed g c address lines = rw c.in-Kept.is (c.finish_with.ensures.printed address lines)

pub returns-in-Kept-clause-err : goal.returns-in-Kept-clause-err
returns-in-Kept-clause-err g c address lines = rw c.in-Kept.is (c.finish_with.ensures.err address lines)

pub returns-in-Refused-clause-printed : goal.returns-in-Refused-clause-printed
returns-in-Refused-clause-printed g c address lines = rw c.in-Refused.is (rw c.from.ensures at c.finish_with-in-Refused.ensures.printed address lines)

pub returns-in-Refused-clause-err : goal.returns-in-Refused-clause-err
returns-in-Refused-clause-err g c address lines = rw c.in-Refused.is (rw c.from.ensures at c.finish_with-in-Refused.ensures.err address lines)
