use Rattle.std.proofs.Common.{inr, subst, ℕ, List, Option}
use Rattle.commands.specs.Verdict.{OfReady, reflection_of}
use Rattle.commands.proofs.reflection.reflect.Goals as goal

-- the name of the place is that of the request
pub returns-in-Ok-clause-leads : goal.returns-in-Ok-clause-leads
returns-in-Ok-clause-leads c verdict comes =
    inr (subst (λ (log : Option (List ℕ)). OfReady (record (reflection_of c.args.request c.args.id.0 c.args.opening.plain) { log = log }) verdict) c.in-Ok.ensures comes)
