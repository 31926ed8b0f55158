use Rattle.croquet.proofs.reflecting.tell_end.Goals as goal

pub returns-then-unkept : goal.returns-then-unkept
returns-then-unkept g c = rw c.if-unkept.true c.tell.ensures

pub returns-in-Some : goal.returns-in-Some
returns-in-Some g c = rw c.if-unkept.false (rw c.in-Some.is c.tell_stop.ensures)
