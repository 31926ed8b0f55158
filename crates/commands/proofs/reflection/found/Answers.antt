use Rattle.std.proofs.Common.{subst, List, ℕ}
use Rattle.commands.specs.Verdict.{Free, OfServed}
use Rattle.commands.proofs.reflection.found.Goals as goal

pub returns-clause-leads : goal.returns-clause-leads
returns-clause-leads c verdict comes =
    subst (λ (id : List ℕ). Free (OfServed c.args.request id) verdict) (rw c.bytes.ensures at c.session_id-id.ensures) (c.open.ensures.leads verdict comes)
