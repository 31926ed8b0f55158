use Rattle.std.proofs.Common.{subst, List, ℕ}
use Rattle.model_solved.specs.Founding.{checked_tree, founding_of}
use Rattle.command_inspect.specs.Queries.{queries_of}
use Rattle.commands.specs.Verdict.{Free, OfInspectedLog, OfLog, OfQueries}
use Rattle.commands.proofs.inspection.InspectWait.take.Goals as goal

pub returns-in-Log-clause-leads : goal.returns-in-Log-clause-leads
returns-in-Log-clause-leads c verdict comes =
    let wait = c.in-Log.wait in
    rw c.in-Log.is
    (subst (λ (bytes : List ℕ). Free (OfLog (OfInspectedLog wait.request wait.text (checked_tree wait.program)) bytes) verdict) c.bytes-in-Log.ensures (c.take_log.ensures.leads verdict comes))

pub returns-in-Queries-clause-leads : goal.returns-in-Queries-clause-leads
returns-in-Queries-clause-leads c verdict comes =
    let line = c.in-Queries.wait.line in
    rw c.in-Queries.is
    (subst (λ (bytes : List ℕ). Free (OfQueries (founding_of line.program) line.id line.entries (queries_of bytes)) verdict) c.bytes-in-Queries-2.ensures
    (c.take_queries.ensures.leads verdict comes))
