use Rattle.std.proofs.Common.{inr}
use Rattle.model_solved.specs.Founding.{founding_of}
use Rattle.commands.proofs.InspectLaws.{kept, kept_too_many}
use Rattle.commands.proofs.inspection.keep.Goals as goal

pub returns-in-Ok-clause-leads : goal.returns-in-Ok-clause-leads
returns-in-Ok-clause-leads c verdict comes = inr (kept c.args.recording c.args.every c.args.queries c.in-Ok.line verdict c.in-Ok.ensures comes)

pub returns-in-Err-TooMany-clause-leads : goal.returns-in-Err-TooMany-clause-leads
returns-in-Err-TooMany-clause-leads c verdict comes =
    inr (kept_too_many c.args.every c.args.queries (founding_of c.args.recording.program) c.args.recording.id.0 c.args.recording.log.entries verdict (rw c.in-Err-TooMany.field-0-is at c.in-Err-TooMany.ensures) comes)
