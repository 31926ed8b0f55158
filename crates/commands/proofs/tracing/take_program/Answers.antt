use Rattle.std.proofs.Common.{inl, inr}
use Rattle.model_solved.specs.Founding.{checked_tree}
use Rattle.commands.proofs.tracing.take_program.Goals as goal

pub returns-in-Ok-clause-leads : goal.returns-in-Ok-clause-leads
returns-in-Ok-clause-leads c verdict comes = inr (inl (checked_tree c.in-Ok.program, (rw c.bytes.ensures at c.in-Ok.ensures), comes))
