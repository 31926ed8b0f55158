use Rattle.std.proofs.Common.{List, subst}
use Rattle.tea_base.specs.declared.entry.SessionId.{SessionId}
use Rattle.commands.specs.Verdict.{Free, OfHostIds}
use Rattle.commands.proofs.HostLaws.{hosted_ids}
use Rattle.commands.proofs.hosting.known.Goals as goal

pub answer_ids-requires-clause-ids : goal.answer_ids-requires-clause-ids
answer_ids-requires-clause-ids c = hosted_ids c.args.read.now c.args.config.now.sessions c.in-Ok.ids (rw c.as_slice.ensures at c.in-Ok.ensures) c.requires.few

pub returns-in-Ok-clause-leads : goal.returns-in-Ok-clause-leads
returns-in-Ok-clause-leads c verdict comes =
    subst (λ (ids : List SessionId). Free (OfHostIds c.args.request c.args.config.now.on_demand ids) verdict) (rw c.as_slice.ensures at c.in-Ok.ensures) (c.answer_ids.ensures.leads verdict comes)
