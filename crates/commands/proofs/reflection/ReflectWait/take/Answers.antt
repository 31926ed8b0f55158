use Rattle.std.proofs.Common.{subst, List, ℕ}
use Rattle.commands.specs.Keeping.{OfFoundingLog}
use Rattle.commands.specs.Verdict.{Free, OfLog, OfReflected}
use Rattle.commands.specs.Work.{plain_keeping}
use Rattle.commands.proofs.reflection.ReflectWait.take.Goals as goal

pub returns-in-Log-clause-leads : goal.returns-in-Log-clause-leads
returns-in-Log-clause-leads c verdict comes =
    let wait = c.in-Log.wait in
    rw c.in-Log.is
    (subst (λ (bytes : List ℕ). Free (OfLog (OfReflected wait.request wait.id.0) bytes) verdict) c.bytes-in-Log-2.ensures (c.take_log.ensures.leads verdict comes))

pub returns-in-Founding-clause-leads : goal.returns-in-Founding-clause-leads
returns-in-Founding-clause-leads c verdict comes =
    rw c.in-Founding.is
    (subst (λ (bytes : List ℕ). Free (OfLog (OfFoundingLog (plain_keeping c.in-Founding.wait.keeping)) bytes) verdict) c.bytes-in-Founding-2.ensures (c.take_founding.ensures.leads verdict comes))
