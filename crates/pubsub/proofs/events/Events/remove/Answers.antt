use Rattle.std.proofs.Common.{◌≡◌, ℕ, ◌<◌, false, cond, List, length, refl, sym, ap, subst, ◌∙◌}
use Rattle.std.specs.Prelude.{IfSome, bytes_eq, vec_items}
use Rattle.std.specs.HashMap.{get_by_text}
use Rattle.pubsub.specs.declared.events.Events.{Events}
use Rattle.pubsub.specs.Index.{handlers_in, without_handler, AreHandled, AreHandledBut}
use Rattle.pubsub.proofs.Lookups.{written, missed}
use Rattle.pubsub.proofs.Tight.{weaker, not_apart, holds_written}
use Rattle.pubsub.proofs.events.Events.remove.Goals.{in-Some, in_default}
use Rattle.pubsub.proofs.events.Events.remove.Goals as goal

pub returns-clause-found : goal.returns-clause-found
returns-clause-found c =
    let old = c.args.self.now in
    let bs = c.args.event.now in
    let less = without_handler c.args.subscription.now in
    let left : (e : List ℕ) → handlers_in c.match-get_mut.self e ≡ cond (bytes_eq bs e) (less (handlers_in old e)) (handlers_in old e) =
    elim c.match-get_mut.branch [
      | in-Some w ↦ λ e. ap (λ (t : Events). handlers_in t e) w.self-is
          ∙ written vec_items bs old.by_event (c.get_mut.follows.lender w.remove_handler.new.handlers) less w.in-Some.handlers.now w.remove_handler.new.handlers w.in-Some.ensures.value (c.get_mut.follows.holds w.remove_handler.new.handlers) w.remove_handler.ensures e
      | in_default w ↦ λ e. ap (λ (t : Events). handlers_in t e) w.self-is
          ∙ missed vec_items bs old.by_event c.get_mut.follows.lender-at-none less w.in_default.ensures.value c.get_mut.follows.holds-at-none refl e
    ] in
    λ e. c.forget_empty.ensures.found e ∙ left e

pub returns-clause-handled : goal.returns-clause-handled
returns-clause-handled c =
    let old = c.args.self.now in
    let m = old.by_event in
    let bs = c.args.event.now in
    let but : AreHandled old → AreHandledBut bs c.match-get_mut.self =
    λ handled.
    let each : (e : List ℕ) → IfSome (get_by_text m e) (λ x. bytes_eq bs e ≡ false → 0 < length (vec_items x)) =
    λ e. weaker (get_by_text m e) (λ x. 0 < length (vec_items x)) (λ x. bytes_eq bs e ≡ false → 0 < length (vec_items x)) (λ x p _. p) (handled e) in
    elim c.match-get_mut.branch [
      | in-Some w ↦
          let v = w.remove_handler.new.handlers in
          subst (λ (t : Events). AreHandledBut bs t) (sym w.self-is)
          (holds_written (λ e x. bytes_eq bs e ≡ false → 0 < length (vec_items x)) bs m (c.get_mut.follows.lender v) w.in-Some.handlers.now v w.in-Some.ensures.value (c.get_mut.follows.holds v) (λ apart. not_apart bs apart) (λ e apart. each e))
      | in_default w ↦
          subst (λ (t : Events). AreHandledBut bs t) (sym w.self-is)
          (λ e. subst (λ n. IfSome (get_by_text n e) (λ x. bytes_eq bs e ≡ false → 0 < length (vec_items x))) (sym c.get_mut.follows.holds-at-none) (each e))
    ] in
    λ handled. c.forget_empty.ensures.handled (but handled)
