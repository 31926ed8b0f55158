use Rattle.std.proofs.Common.{◌<◌, List, [], ◌∷◌, ◌++◌, length, sym, ap, ◌∙◌, arith}
use Rattle.std.specs.Prelude.{is_some, bytes_eq, vec_items}
use Rattle.std.proofs.lemmas.List.{length-append}
use Rattle.pubsub.specs.declared.handler.Handler.{Handler}
use Rattle.pubsub.specs.Index.{handlers_in}
use Rattle.pubsub.proofs.Lookups.{written, inserted, either_same, on_err}
use Rattle.pubsub.proofs.Tight.{holds_at, holds_written, holds_inserted, found_some}
use Rattle.pubsub.proofs.events.Events.add.Goals as goal

pub returns-in_err-push-clause-err : goal.returns-in_err-push-clause-err
returns-in_err-push-clause-err c =
    let old = c.args.self.now in
    let bs = c.args.event.now in
    let v = c.push.new.self in
    on_err c.from_residual.result _
    (λ e. written vec_items bs old.by_event (c.get_mut.follows.lender v) (λ (l : List Handler). l) c.in-Some.handlers.now v c.in-Some.ensures.value (c.get_mut.follows.holds v) c.in_err-push.ensures.items e
    ∙ either_same (bytes_eq bs e) (handlers_in old e))

pub returns-in-Some-clause-ok : goal.returns-in-Some-clause-ok
returns-in-Some-clause-ok c =
    let v = c.push.new.self in
    written vec_items c.args.event.now c.args.self.now.by_event (c.get_mut.follows.lender v) (λ (l : List Handler). l ++ c.args.handler ∷ []) c.in-Some.handlers.now v c.in-Some.ensures.value (c.get_mut.follows.holds v) c.in_ok-push.ensures.items

pub returns-clause-ok : goal.returns-clause-ok
returns-clause-ok c =
    inserted vec_items c.args.event.now c.args.self.now.by_event c.insert.new.self (λ (l : List Handler). l ++ c.args.handler ∷ []) c.in_ok-name.name c.push-2.new.self c.get_mut.follows.lender-at-none
    c.in_ok-name.ensures.ok c.in_default.ensures.value c.get_mut.follows.holds-at-none c.in_ok-insert.ensures.updates
    (c.in_ok-push-2.ensures.items ∙ ap (λ (l : List Handler). l ++ c.args.handler ∷ []) c.new-first.ensures.items)

pub returns-in_err-push-clause-still : goal.returns-in_err-push-clause-still
returns-in_err-push-clause-still c =
    let m = c.args.self.now.by_event in
    let bs = c.args.event.now in
    let v = c.push.new.self in
    let written_back = c.get_mut.follows.holds v in
    on_err c.from_residual.result _
    (λ old.
    let was : 0 < length (vec_items c.in-Some.handlers.now) = holds_at (λ _ x. 0 < length (vec_items x)) bs m m c.in-Some.handlers.now c.in-Some.ensures.value old.0 in
    let some : 0 < length (vec_items v) = omega (arith, was, ap length c.in_err-push.ensures.items) in (
      holds_written (λ _ x. 0 < length (vec_items x)) bs m (c.get_mut.follows.lender v) c.in-Some.handlers.now v c.in-Some.ensures.value written_back some (λ e apart. old.0 e),
      omega (arith, old.1, written_back.2),
    ))

pub returns-in-Some-clause-tight : goal.returns-in-Some-clause-tight
returns-in-Some-clause-tight c =
    let m = c.args.self.now.by_event in
    let bs = c.args.event.now in
    let v = c.push.new.self in
    let written_back = c.get_mut.follows.holds v in
    λ handled.
    let some : 0 < length (vec_items v) = omega (arith, ap length c.in_ok-push.ensures.items, length-append (vec_items c.in-Some.handlers.now) (c.args.handler ∷ [])) in (
      holds_written (λ _ x. 0 < length (vec_items x)) bs m (c.get_mut.follows.lender v) c.in-Some.handlers.now v c.in-Some.ensures.value written_back some (λ e apart. handled e),
      found_some _ _ v (written_back.3 (sym (ap is_some c.in-Some.ensures.value))).1,
    )

pub returns-clause-tight : goal.returns-clause-tight
returns-clause-tight c =
    let v = c.push-2.new.self in
    λ handled.
    let some : 0 < length (vec_items v) = omega (arith, ap length c.in_ok-push-2.ensures.items, length-append (vec_items c.new-first.result) (c.args.handler ∷ [])) in (
      holds_inserted (λ _ x. 0 < length (vec_items x)) c.args.event.now c.args.self.now.by_event c.insert.new.self c.in_ok-name.name v c.get_mut.follows.lender-at-none
          c.in_ok-name.ensures.ok c.get_mut.follows.holds-at-none c.in_ok-insert.ensures.updates some handled,
      found_some _ _ v c.in_ok-insert.ensures.updates.1,
    )
