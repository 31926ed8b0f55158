use Rattle.std.proofs.Common.{sym, ap, ◌∙◌}
use Rattle.pubsub.specs.Topics.{is_subscribed}
use Rattle.pubsub.proofs.Indexed.{is_subscribed-list_any}
use Rattle.pubsub.proofs.topics.Topics.holds.Goals as goal

pub returns : goal.returns
returns c = c.contains.ensures ∙ sym (is_subscribed-list_any c.args.s.now c.self.inside.held.keys) ∙ ap (is_subscribed c.args.s.now) c.self.view_is
