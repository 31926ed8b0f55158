use Rattle.std.proofs.Common.{List, subst}
use Rattle.commands.specs.declared.hosting.ReadProgram.{ReadProgram}
use Rattle.commands.specs.Verdict.{Free, OfHostPrograms}
use Rattle.commands.proofs.hosting.read_on.Goals as goal

pub returns-in-Ok-clause-leads : goal.returns-in-Ok-clause-leads
returns-in-Ok-clause-leads c verdict comes =
    subst (λ (read : List ReadProgram). Free (OfHostPrograms c.args.wait.request c.args.wait.config read c.args.wait.later.items) verdict) c.in-Ok.ensures.ok (c.next_program.ensures.leads verdict comes)
