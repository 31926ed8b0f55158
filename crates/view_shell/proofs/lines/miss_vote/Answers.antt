use Rattle.view_shell.proofs.lines.miss_vote.Goals as goal

pub returns-clause-printed : goal.returns-clause-printed
returns-clause-printed g c address lines = rw (c.from.ensures, c.seen-seen.ensures.seen) at c.finish_with.ensures.printed address lines

pub returns-clause-err : goal.returns-clause-err
returns-clause-err g c address lines = rw (c.from.ensures, c.seen-seen.ensures.seen) at c.finish_with.ensures.err address lines
