use Rattle.std.proofs.Common.{◌≡◌, ℕ, Bool, ◌+◌, ◌<◌, List, [], ◌∷◌, ◌++◌, false, cond, length, sym, ap, subst, ◌∙◌, arith}
use Rattle.std.specs.List.{list_any}
use Rattle.world_plain.specs.Valid.{most_subscriptions}
use Rattle.world_plain.specs.ValidTest.{same_subscription}
use Rattle.world_plain.specs.declared.message.Subscription.{Subscription}
use Rattle.pubsub.specs.Topics.{is_subscribed}
use Rattle.pubsub.specs.Held.{HoldsTopics}
use Rattle.pubsub.proofs.Subscriptions.{total_bound}
use Rattle.pubsub.proofs.Indexed.{is_subscribed-list_any, one_more}
use Rattle.pubsub.proofs.topics.Topics.hold.Goals as goal

pub overflow_add-self : goal.overflow_add-self
overflow_add-self c =
    let held = c.self.invariant in
    omega (arith, held.weighed, total_bound c.self.inside.held.keys held.topics.light, held.topics.few, c.subscription_weight.ensures, c.requires.light)

-- what insertion leaves behind what was held
pushed : (s : Subscription) (kept old : List Subscription) → kept ≡ old → is_subscribed s old ≡ false → cond (list_any (same_subscription s) kept) kept (kept ++ s ∷ []) ≡ old ++ s ∷ []
pushed s kept old same new =
    ap (λ (l : List Subscription). cond (list_any (same_subscription s) l) l (l ++ s ∷ [])) same
    ∙ ap (λ (b : Bool). cond b old (old ++ s ∷ [])) (sym (is_subscribed-list_any s old) ∙ new)

pub returns-clause-ok : goal.returns-clause-ok
returns-clause-ok c =
    let new : is_subscribed c.args.s c.args.self.now ≡ false = c.requires.new in
    (rw c.unwrap.ensures at c.insert.ensures.keys) ∙ pushed c.args.s c.reserve.new.self.keys c.args.self.now (c.in_ok-reserve.ensures.keys ∙ c.self.view_is) new

pub invariant_of-self-2 : goal.invariant_of-self-2
invariant_of-self-2 c =
    let was = c.self.inside in
    let new : is_subscribed c.args.s was.held.keys ≡ false = ap (is_subscribed c.args.s) c.self.view_is ∙ c.requires.new in
    let room : length was.held.keys < most_subscriptions = omega (arith, c.requires.few, ap length c.self.view_is) in
    let keys : c.insert.new.self.keys ≡ was.held.keys ++ c.args.s ∷ [] =
    (rw c.unwrap.ensures at c.insert.ensures.keys) ∙ pushed c.args.s c.reserve.new.self.keys was.held.keys c.in_ok-reserve.ensures.keys new in
    subst (λ (n : ℕ). HoldsTopics c.insert.new.self.keys c.add.new.self (was.weight + n)) (sym c.subscription_weight.ensures)
    (one_more c.args.s was.held.keys c.insert.new.self.keys was.index c.add.new.self was.weight c.self.invariant new room c.requires.light keys c.in_ok-add.ensures.ok (c.in_ok-add.ensures.tight c.self.invariant.tight))
