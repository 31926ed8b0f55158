use Rattle.session_lock.proofs.lock.SharedSession+T.offer.Goals as goal

pub returns-in-Err-WantOfMemory-clause-call : goal.returns-in-Err-WantOfMemory-clause-call
returns-in-Err-WantOfMemory-clause-call g c = rw c.in-Err-WantOfMemory.field-0-is at c.in-Err-WantOfMemory.ensures.call
