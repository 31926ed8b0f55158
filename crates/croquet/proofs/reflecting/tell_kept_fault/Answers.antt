use Rattle.croquet.proofs.reflecting.tell_kept_fault.Goals as goal

pub returns-in-Unkept : goal.returns-in-Unkept
returns-in-Unkept g c = rw c.in-Unkept.is c.tell-in-Unkept.ensures
