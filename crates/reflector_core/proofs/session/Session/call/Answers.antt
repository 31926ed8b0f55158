use Rattle.reflector_core.proofs.session.Session.call.Goals as goal

pub returns-in-Err-WantOfMemory-clause-room : goal.returns-in-Err-WantOfMemory-clause-room
returns-in-Err-WantOfMemory-clause-room c =
    let found = rw c.in-Err-WantOfMemory.field-0-is at c.in-Err-WantOfMemory.ensures.prepared in
    record { prepared = λ is. absurd (found is); used = c.call_kept.ensures.used }
