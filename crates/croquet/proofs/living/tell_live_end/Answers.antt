use Rattle.croquet.proofs.living.tell_live_end.Goals as goal

pub returns-in-ReadFault : goal.returns-in-ReadFault
returns-in-ReadFault g c = rw c.in-ReadFault.is c.tell.ensures
