use Rattle.std.proofs.Common.{subst, List, ℕ}
use Rattle.model_solved.specs.Founding.{checked_tree}
use Rattle.commands.specs.Verdict.{Free, OfLog, OfTracedLog}
use Rattle.commands.proofs.tracing.TraceWait.take.Goals as goal

pub returns-in-Log-clause-leads : goal.returns-in-Log-clause-leads
returns-in-Log-clause-leads c verdict comes =
    let wait = c.in-Log.wait in
    rw c.in-Log.is
    (subst (λ (bytes : List ℕ). Free (OfLog (OfTracedLog wait.request wait.text (checked_tree wait.program)) bytes) verdict) c.bytes-in-Log.ensures (c.take_log.ensures.leads verdict comes))
