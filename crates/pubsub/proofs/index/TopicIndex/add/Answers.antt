use Rattle.std.proofs.Common.{cond, List, [], ◌∷◌, ◌++◌, ap, ◌∙◌}
use Rattle.std.specs.Prelude.{bytes_eq, encode_utf8_all}
use Rattle.pubsub.specs.declared.handler.Handler.{Handler}
use Rattle.pubsub.specs.declared.events.Events.{Events}
use Rattle.pubsub.specs.Topics.{is_to}
use Rattle.pubsub.specs.Index.{handlers_in, handlers_at, handlers_found, AreTight}
use Rattle.pubsub.proofs.Lookups.{written, inserted, either_same, on_err}
use Rattle.pubsub.proofs.Tight.{holds_at, holds_written, holds_inserted}
use Rattle.pubsub.proofs.Names.{in_topic}
use Rattle.pubsub.proofs.index.TopicIndex.add.Goals as goal

pub returns-in_err-add-clause-err : goal.returns-in_err-add-clause-err
returns-in_err-add-clause-err c =
    let old = c.args.self.now in
    let scope_name = c.name-scope.result.now in
    on_err c.from_residual-in_err-add.result _
    (λ scope e. written (λ (v : Events). handlers_in v e) scope_name old.by_scope (c.get_mut.follows.lender c.add.new.self) (λ (l : List Handler). l)
    c.in-Some.events.now c.add.new.self c.in-Some.ensures.value (c.get_mut.follows.holds c.add.new.self) (c.in_err-add.ensures.err e) scope
    ∙ either_same (bytes_eq scope_name scope) (handlers_at old scope e))

pub returns-in-Some-clause-ok : goal.returns-in-Some-clause-ok
returns-in-Some-clause-ok c =
    let old = c.args.self.now in
    let s = c.args.s.now in
    let h = c.in_ok-handler.handler in
    let scope_name = c.name-scope.result.now in
    let event_name = c.name-event.result.now in
    λ scope event of_scope of_event.
    let e = encode_utf8_all event in
    written (λ (v : Events). handlers_in v e) scope_name old.by_scope (c.get_mut.follows.lender c.add.new.self) (λ (l : List Handler). cond (bytes_eq event_name e) (l ++ h ∷ []) l)
    c.in-Some.events.now c.add.new.self c.in-Some.ensures.value (c.get_mut.follows.holds c.add.new.self) (c.in_ok-add.ensures.ok e) (encode_utf8_all scope)
    ∙ in_topic s scope_name event_name c.name-scope.ensures.bytes c.name-event.ensures.bytes c.name-scope.ensures.scalars c.name-event.ensures.scalars scope event of_scope of_event
    (handlers_found old scope event ++ h ∷ []) (handlers_found old scope event)
    ∙ ap (λ (g : Handler). cond (is_to scope event s) (handlers_found old scope event ++ g ∷ []) (handlers_found old scope event)) c.in_ok-handler.ensures

pub returns-clause-ok : goal.returns-clause-ok
returns-clause-ok c =
    let old = c.args.self.now in
    let s = c.args.s.now in
    let h = c.in_ok-handler.handler in
    let scope_name = c.name-scope.result.now in
    let event_name = c.name-event.result.now in
    λ scope event of_scope of_event.
    let e = encode_utf8_all event in
    inserted (λ (v : Events). handlers_in v e) scope_name old.by_scope c.insert.new.self (λ (l : List Handler). cond (bytes_eq event_name e) (l ++ h ∷ []) l)
    c.in_ok-key.key c.add-2.new.self c.get_mut.follows.lender-at-none c.in_ok-key.ensures.ok c.in_default.ensures.value c.get_mut.follows.holds-at-none c.in_ok-insert.ensures.updates
    (c.in_ok-add-2.ensures.ok e ∙ ap (λ (l : List Handler). cond (bytes_eq event_name e) (l ++ h ∷ []) l) (c.new-events.ensures.found e)) (encode_utf8_all scope)
    ∙ in_topic s scope_name event_name c.name-scope.ensures.bytes c.name-event.ensures.bytes c.name-scope.ensures.scalars c.name-event.ensures.scalars scope event of_scope of_event
    (handlers_found old scope event ++ h ∷ []) (handlers_found old scope event)
    ∙ ap (λ (g : Handler). cond (is_to scope event s) (handlers_found old scope event ++ g ∷ []) (handlers_found old scope event)) c.in_ok-handler.ensures

pub returns-in_err-add-clause-tight : goal.returns-in_err-add-clause-tight
returns-in_err-add-clause-tight c =
    let m = c.args.self.now.by_scope in
    let bs = c.name-scope.result.now in
    let v = c.add.new.self in
    λ tight.
    let was = holds_at (λ _ x. AreTight x) bs m m c.in-Some.events.now c.in-Some.ensures.value tight in
    holds_written (λ _ x. AreTight x) bs m (c.get_mut.follows.lender v) c.in-Some.events.now v c.in-Some.ensures.value (c.get_mut.follows.holds v) (c.in_err-add.ensures.still was) (λ scope apart. tight scope)

pub returns-in-Some-clause-tight : goal.returns-in-Some-clause-tight
returns-in-Some-clause-tight c =
    let m = c.args.self.now.by_scope in
    let bs = c.name-scope.result.now in
    let v = c.add.new.self in
    λ tight.
    let was = holds_at (λ _ x. AreTight x) bs m m c.in-Some.events.now c.in-Some.ensures.value tight in
    holds_written (λ _ x. AreTight x) bs m (c.get_mut.follows.lender v) c.in-Some.events.now v c.in-Some.ensures.value (c.get_mut.follows.holds v) (c.in_ok-add.ensures.tight was.0) (λ scope apart. tight scope)

pub returns-clause-tight : goal.returns-clause-tight
returns-clause-tight c =
    λ tight.
    holds_inserted (λ _ x. AreTight x) c.name-scope.result.now c.args.self.now.by_scope c.insert.new.self c.in_ok-key.key c.add-2.new.self c.get_mut.follows.lender-at-none
    c.in_ok-key.ensures.ok c.get_mut.follows.holds-at-none c.in_ok-insert.ensures.updates (c.in_ok-add-2.ensures.tight c.new-events.ensures.handled) tight
