use Rattle.std.proofs.Common.{subst, List, ℕ}
use Rattle.model_solved.specs.Founding.{checked_tree}
use Rattle.commands.specs.Verdict.{Free, OfLog, OfRecorded}
use Rattle.commands.proofs.recording.ReplayWait.take.Goals as goal

pub returns-in-Log-clause-leads : goal.returns-in-Log-clause-leads
returns-in-Log-clause-leads c verdict comes =
    let wait = c.in-Log.wait in
    rw c.in-Log.is
    (subst (λ (bytes : List ℕ). Free (OfLog (OfRecorded wait.request wait.text (checked_tree wait.program)) bytes) verdict) c.bytes-in-Log.ensures (c.take_log.ensures.leads verdict comes))
