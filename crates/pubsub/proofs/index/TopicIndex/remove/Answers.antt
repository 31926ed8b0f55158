use Rattle.std.proofs.Common.{◌≡◌, ℕ, false, cond, List, [], sym, ap, subst, ◌∙◌}
use Rattle.std.specs.Prelude.{IfSome, bytes_eq, encode_utf8_all}
use Rattle.std.specs.HashMap.{get_by_text}
use Rattle.pubsub.specs.declared.handler.Handler.{Handler}
use Rattle.pubsub.specs.declared.events.Events.{Events}
use Rattle.pubsub.specs.declared.index.TopicIndex.{TopicIndex}
use Rattle.pubsub.specs.Index.{handlers_in, handlers_at, handlers_found, without_handler, AreHandled, HasEvents, AreTight, IsTight, IsTightBut}
use Rattle.pubsub.proofs.Lookups.{written, missed, either_same}
use Rattle.pubsub.proofs.Tight.{weaker, not_apart, holds_at, holds_written}
use Rattle.pubsub.proofs.Names.{in_topic}
use Rattle.pubsub.proofs.index.TopicIndex.remove.Goals.{in-Some, in_default}
use Rattle.pubsub.proofs.index.TopicIndex.remove.Goals as goal

pub returns-clause-found : goal.returns-clause-found
returns-clause-found c =
    let old = c.args.self.now in
    let s = c.args.s.now in
    let scope_name = c.name-scope.result.now in
    let event_name = c.name-event.result.now in
    let left : (scope e : List ℕ) → handlers_at c.match-get_mut.self scope e ≡ cond (bytes_eq scope_name scope) (cond (bytes_eq event_name e) (without_handler s (handlers_at old scope e)) (handlers_at old scope e)) (handlers_at old scope e) =
    elim c.match-get_mut.branch [
      | in-Some w ↦ λ scope e. ap (λ (t : TopicIndex). handlers_at t scope e) w.self-is
          ∙ written (λ (v : Events). handlers_in v e) scope_name old.by_scope (c.get_mut.follows.lender w.remove.new.self) (λ (l : List Handler). cond (bytes_eq event_name e) (without_handler s l) l)
          w.in-Some.events.now w.remove.new.self w.in-Some.ensures.value (c.get_mut.follows.holds w.remove.new.self) (w.remove.ensures.found e) scope
      | in_default w ↦ λ scope e. ap (λ (t : TopicIndex). handlers_at t scope e) w.self-is
          ∙ missed (λ (v : Events). handlers_in v e) scope_name old.by_scope c.get_mut.follows.lender-at-none (λ (l : List Handler). cond (bytes_eq event_name e) (without_handler s l) l)
          w.in_default.ensures.value c.get_mut.follows.holds-at-none (either_same (bytes_eq event_name e) []) scope
    ] in
    λ scope event of_scope of_event.
    c.forget_empty.ensures.found (encode_utf8_all scope) (encode_utf8_all event)
    ∙ left (encode_utf8_all scope) (encode_utf8_all event)
    ∙ in_topic s scope_name event_name c.name-scope.ensures.bytes c.name-event.ensures.bytes c.name-scope.ensures.scalars c.name-event.ensures.scalars scope event of_scope of_event
    (without_handler s (handlers_found old scope event)) (handlers_found old scope event)

pub returns-clause-tight : goal.returns-clause-tight
returns-clause-tight c =
    let old = c.args.self.now in
    let m = old.by_scope in
    let bs = c.name-scope.result.now in
    let but : IsTight old → IsTightBut bs c.match-get_mut.self =
    λ tight.
    let each : (scope : List ℕ) → IfSome (get_by_text m scope) (λ (x : Events). AreHandled x × (bytes_eq bs scope ≡ false → HasEvents x)) =
    λ scope. weaker (get_by_text m scope) AreTight (λ x. AreHandled x × (bytes_eq bs scope ≡ false → HasEvents x)) (λ x p. (p.0, λ _. p.1)) (tight scope) in
    elim c.match-get_mut.branch [
      | in-Some w ↦
          let v = w.remove.new.self in
          let was = holds_at (λ _ x. AreTight x) bs m m w.in-Some.events.now w.in-Some.ensures.value tight in
          subst (λ (t : TopicIndex). IsTightBut bs t) (sym w.self-is)
          (holds_written (λ scope x. AreHandled x × (bytes_eq bs scope ≡ false → HasEvents x)) bs m (c.get_mut.follows.lender v) w.in-Some.events.now v w.in-Some.ensures.value (c.get_mut.follows.holds v)
          (w.remove.ensures.handled was.0, λ apart. not_apart bs apart) (λ scope apart. each scope))
      | in_default w ↦
          subst (λ (t : TopicIndex). IsTightBut bs t) (sym w.self-is)
          (λ scope. subst (λ n. IfSome (get_by_text n scope) (λ (x : Events). AreHandled x × (bytes_eq bs scope ≡ false → HasEvents x))) (sym c.get_mut.follows.holds-at-none) (each scope))
    ] in
    λ tight. c.forget_empty.ensures.tight (but tight)
