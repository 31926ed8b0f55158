use Rattle.std.proofs.Common.{rules}
use Rattle.std.specs.Prelude.{nat_eq, not}
use Rattle.std.proofs.lemmas.Fn.{filter_same}
use Rattle.pubsub.specs.declared.handler.Handler.{Handler}
use Rattle.pubsub.proofs.handler.remove_object.Goals as goal

pub returns : goal.returns
returns c = filter_same _ (λ (h : Handler). not (nat_eq h.object c.args.object)) _ (λ x b f' k. search rules) _ _ c.retain.ensures.filtered
