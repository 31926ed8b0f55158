use Rattle.std.proofs.Common.{[], ◌∷◌, ◌++◌}
use Rattle.model_solved.specs.Founding.{checked_tree}
use Rattle.commands.specs.Verdict.{OfHostPrograms}
use Rattle.commands.proofs.ProgramLaws.{of_program}
use Rattle.commands.proofs.hosting.take_program.Goals as goal

pub returns-in-Ok-clause-leads : goal.returns-in-Ok-clause-leads
returns-in-Ok-clause-leads c verdict comes =
    let wait = c.args.wait in
    of_program (λ tree. OfHostPrograms wait.request wait.config (wait.read ++ record { name = wait.program; text = c.args.text } ∷ []) wait.later.items) c.args.text (checked_tree c.in-Ok.field-0) verdict
    (rw c.bytes.ensures at c.in-Ok.ensures) (c.read_on.ensures.leads verdict comes)
