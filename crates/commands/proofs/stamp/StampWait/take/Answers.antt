use Rattle.std.proofs.Common.{subst, List, ℕ}
use Rattle.command_stamp.specs.Script.{script_of}
use Rattle.reflector_core.specs.Stored.{session_of}
use Rattle.commands.specs.Verdict.{Free, OfLog, OfScript, Only, stamp_verdict}
use Rattle.commands.proofs.stamp.StampWait.take.Goals as goal

pub returns-in-Script-clause-leads : goal.returns-in-Script-clause-leads
returns-in-Script-clause-leads c verdict comes =
    rw c.in-Script.is
    (subst (λ (bytes : List ℕ). Free (OfScript c.in-Script.from c.in-Script.log (script_of bytes)) verdict) c.bytes-in-Script.ensures (c.stamp.ensures.leads verdict comes))

pub returns-clause-leads : goal.returns-clause-leads
returns-clause-leads c verdict comes =
    let wait = c.in-Log.wait in
    rw c.in-Log.is
    (subst (λ (bytes : List ℕ). Free (OfLog (λ source. Only (stamp_verdict (session_of source.stored) wait.log wait.requests)) bytes) verdict) c.bytes-in-Log.ensures
    (c.take_log.ensures.leads verdict comes))
