use Rattle.std.proofs.Common.{rules}
use Rattle.std.specs.Prelude.{not}
use Rattle.std.proofs.lemmas.Fn.{filter_same}
use Rattle.pubsub.specs.declared.handler.Handler.{Handler}
use Rattle.pubsub.specs.Index.{is_by}
use Rattle.pubsub.proofs.handler.remove_handler.Goals as goal

pub returns : goal.returns
returns c = filter_same _ (λ (h : Handler). not (is_by c.args.subscription.now h)) _ (λ x b f' k. search rules) _ _ c.retain.ensures.filtered
