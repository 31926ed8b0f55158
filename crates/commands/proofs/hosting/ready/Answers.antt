use Rattle.std.proofs.Common.{inr, subst}
use Rattle.commands.specs.Verdict.{OfHostReady, PlainHosting, hosting_of}
use Rattle.commands.proofs.hosting.ready.Goals as goal

-- the hosting is that of the request
pub returns-in-Ok-clause-leads : goal.returns-in-Ok-clause-leads
returns-in-Ok-clause-leads c verdict comes =
    inr (subst (λ (hosting : PlainHosting). OfHostReady hosting verdict) c.in-Ok.ensures.plain comes)
