use Rattle.std.proofs.Common.{◌≡◌, map, ◌++◌, ◌∷◌, [], ap, ◌∙◌, arith}
use Rattle.std.proofs.lemmas.Result.{err_from_is_err_and}
use Rattle.std.proofs.lemmas.List.{map_push}
use Rattle.byte_fields.proofs.Loops.{goes_on, is_done}
use Rattle.model_value.specs.Plain.{weight, values_weight}
use Rattle.model_value.specs.Reading.{value_at}
use Rattle.model_value.specs.View.{plain}
use Rattle.model_value.proofs.Totals.{values_weight-append}
use Rattle.model_value.proofs.Weighing.{weighed, weighed-fits, weighed-parts, stops}
use Rattle.model_value.proofs.reading.+value_in.Goals as goal

pub items_of-returns-in_err-item : goal.items_of-returns-in_err-item
items_of-returns-in_err-item t c =
    let p = err_from_is_err_and c.from_residual.result c.from_residual.ensures.1 in
    rw (p.1, p.2) (λ bad. stops (value_at c.args.levels) (map plain c.loop.items.items) c.args.room c.loop.left c.args.count c.loop.counter c.loop.rest.now _ c.loop.invariant.spent c.loop-test.true (c.in_err-item.ensures bad) c.loop.invariant.so_far)

pub items_of-loop-preserved : goal.items_of-loop-preserved
items_of-loop-preserved t c =
    let before = map plain c.loop.items.items in
    let item = plain c.in_ok-item.item in
    let e : map plain c.push.new.items.items ≡ before ++ item ∷ [] = rw c.in_ok-push.ensures.ok (map_push _ c.loop.items.items c.in_ok-item.item) in
    let parts = weighed-parts weight c.loop.left c.in_ok-item.behind (value_at c.args.levels c.loop.rest.now) item c.in_ok-item.after.now c.in_ok-item.ensures in
    record {
      so_far = rw e (goes_on (λ _. value_at c.args.levels) before c.args.count c.loop.counter c.loop.rest.now item c.in_ok-item.after.now _ c.loop-test.true parts.0 c.loop.invariant.so_far);
      spent = rw e (omega (arith, values_weight-append before (item ∷ []), parts.1, c.loop.invariant.spent));
    }

pub items_of-returns : goal.items_of-returns
items_of-returns t c =
    let before = map plain c.loop.items.items in
    ap (weighed values_weight c.args.room) (is_done (λ _. value_at c.args.levels) before c.args.count c.loop.counter c.loop.rest.now _ c.loop-test.false c.loop.invariant.so_far)
    ∙ weighed-fits values_weight c.args.room c.loop.left before c.loop.rest.now c.loop.invariant.spent
