use Rattle.model_solved.specs.Founding.{checked_tree}
use Rattle.commands.specs.Verdict.{OfLive}
use Rattle.commands.proofs.ProgramLaws.{of_program}
use Rattle.commands.proofs.live.take_program.Goals as goal

pub returns-in-Ok-clause-leads : goal.returns-in-Ok-clause-leads
returns-in-Ok-clause-leads c verdict comes =
    of_program (OfLive c.args.request c.args.text) c.args.text (checked_tree c.in-Ok.program) verdict (rw c.bytes.ensures at c.in-Ok.ensures) (c.take_address.ensures.leads verdict comes)
