use Rattle.std.proofs.Common.{subst, List, ℕ}
use Rattle.model_solved.specs.Founding.{checked_tree}
use Rattle.view_script.specs.ViewScript.{view_script_of}
use Rattle.commands.specs.Verdict.{Free, OfViewScript}
use Rattle.commands.proofs.visit.JoinWait.take.Goals as goal

pub returns-in-Script-clause-leads : goal.returns-in-Script-clause-leads
returns-in-Script-clause-leads c verdict comes =
    let wait = c.in-Script.wait in
    rw c.in-Script.is
    (subst (λ (bytes : List ℕ). Free (OfViewScript wait.request wait.text (checked_tree wait.program) (view_script_of bytes)) verdict) c.bytes-in-Script.ensures
    (c.take_script.ensures.leads verdict comes))
