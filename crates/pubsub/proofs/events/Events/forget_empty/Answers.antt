use Rattle.std.proofs.Common.{◌≡◌, ◌<◌, false, List, [], length, sym, subst, ◌∙◌}
use Rattle.std.specs.Prelude.{None, bytes_eq, vec_items}
use Rattle.std.specs.HashMap.{get_by_text}
use Rattle.pubsub.specs.declared.handler.Handler.{Handler}
use Rattle.pubsub.specs.Index.{handlers_in}
use Rattle.pubsub.proofs.Lookups.{changed, either_same, no_items}
use Rattle.pubsub.proofs.Tight.{weaker, holds_changed, closed, not_empty, some_read}
use Rattle.pubsub.proofs.events.Events.forget_empty.Goals as goal

pub returns-then-is_empty-clause-found : goal.returns-then-is_empty-clause-found
returns-then-is_empty-clause-found c =
    let old = c.args.self.now in
    let none : handlers_in old c.args.event.now ≡ [] = sym c.find.ensures ∙ no_items c.find.result.now c.is_empty.result c.is_empty.ensures c.if-is_empty.true in
    λ e. changed vec_items c.args.event.now old.by_event c.swap_remove.new.self (λ (l : List Handler). l) None c.swap_remove.ensures.updates (sym none) e
    ∙ either_same (bytes_eq c.args.event.now e) (handlers_in old e)

pub returns-then-is_empty-clause-handled : goal.returns-then-is_empty-clause-handled
returns-then-is_empty-clause-handled c =
    let m = c.args.self.now.by_event in
    let bs = c.args.event.now in
    λ but.
    holds_changed (λ _ x. 0 < length (vec_items x)) bs m c.swap_remove.new.self None c.swap_remove.ensures.updates tt
    (λ e apart. weaker (get_by_text m e) (λ x. bytes_eq bs e ≡ false → 0 < length (vec_items x)) (λ x. 0 < length (vec_items x)) (λ x p. p apart) (but e))

pub returns-else-is_empty-clause-handled : goal.returns-else-is_empty-clause-handled
returns-else-is_empty-clause-handled c =
    let old = c.args.self.now in
    let bs = c.args.event.now in
    let some : 0 < length (handlers_in old bs) =
    subst (λ (l : List Handler). 0 < length l) c.find.ensures (not_empty c.find.result.now c.is_empty.result c.is_empty.ensures c.if-is_empty.false) in
    closed (λ e x. bytes_eq bs e ≡ false → 0 < length (vec_items x)) (λ x. 0 < length (vec_items x)) bs old.by_event (λ e x apart p. p apart)
    (some_read vec_items (get_by_text old.by_event bs) some)
