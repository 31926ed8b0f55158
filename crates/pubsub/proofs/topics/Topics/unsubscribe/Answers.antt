use Rattle.std.proofs.Common.{◌≡◌, ◌≤◌, ℕ, ◌-◌, true, sym, ap, subst, ◌∙◌}
use Rattle.pubsub.specs.Topics.{is_subscribed, without_subscription}
use Rattle.pubsub.specs.Held.{HoldsTopics}
use Rattle.pubsub.proofs.Indexed.{is_subscribed-list_any, light_held, weight_fits, left_by_key, one_fewer}
use Rattle.pubsub.proofs.topics.Topics.unsubscribe.Goals as goal

pub returns-then-not-shift_remove-clause-held : goal.returns-then-not-shift_remove-clause-held
returns-then-not-shift_remove-clause-held c =
    c.if-not-shift_remove.ensures.found ∙ sym (is_subscribed-list_any c.args.s.now c.self.inside.held.keys) ∙ ap (is_subscribed c.args.s.now) c.self.view_is

pub returns-then-not-shift_remove-clause-topics : goal.returns-then-not-shift_remove-clause-topics
returns-then-not-shift_remove-clause-topics c =
    let was = c.self.inside in
    left_by_key c.args.s.now was.held.keys c.shift_remove.new.self.keys was.index was.index was.weight c.self.invariant c.shift_remove.ensures.keys
    ∙ ap (without_subscription c.args.s.now) c.self.view_is

pub subscription_weight-requires : goal.subscription_weight-requires
subscription_weight-requires c =
    let there : is_subscribed c.args.s.now c.self.inside.held.keys ≡ true = is_subscribed-list_any c.args.s.now c.self.inside.held.keys ∙ sym c.if-not-shift_remove.ensures.found in
    light_held c.args.s.now c.self.inside.held.keys there c.self.invariant.topics.light

pub overflow_sub-self : goal.overflow_sub-self
overflow_sub-self c =
    let was = c.self.inside in
    let there : is_subscribed c.args.s.now was.held.keys ≡ true = is_subscribed-list_any c.args.s.now was.held.keys ∙ sym c.if-not-shift_remove.ensures.found in
    subst (λ (n : ℕ). n ≤ was.weight) (sym c.subscription_weight.ensures) (weight_fits c.args.s.now was.held.keys was.held.keys was.index was.index was.weight c.self.invariant there)

pub invariant_of-self-2 : goal.invariant_of-self-2
invariant_of-self-2 c =
    let was = c.self.inside in
    let s = c.args.s.now in
    let new = c.shift_remove.new.self.keys in
    let there : is_subscribed s was.held.keys ≡ true = is_subscribed-list_any s was.held.keys ∙ sym c.if-not-shift_remove.ensures.found in
    let left : new ≡ without_subscription s was.held.keys = left_by_key s was.held.keys new was.index c.remove.new.self was.weight c.self.invariant c.shift_remove.ensures.keys in
    subst (λ (n : ℕ). HoldsTopics new c.remove.new.self (was.weight - n)) (sym c.subscription_weight.ensures)
    (one_fewer s was.held.keys new was.index c.remove.new.self was.weight c.self.invariant there left c.remove.ensures.found (c.remove.ensures.tight c.self.invariant.tight))

pub returns-clause-held : goal.returns-clause-held
returns-clause-held c =
    c.if-not-shift_remove.ensures.found ∙ sym (is_subscribed-list_any c.args.s.now c.self.inside.held.keys) ∙ ap (is_subscribed c.args.s.now) c.self.view_is

pub returns-clause-topics : goal.returns-clause-topics
returns-clause-topics c =
    let was = c.self.inside in
    left_by_key c.args.s.now was.held.keys c.shift_remove.new.self.keys was.index was.index was.weight c.self.invariant c.shift_remove.ensures.keys
    ∙ ap (without_subscription c.args.s.now) c.self.view_is
