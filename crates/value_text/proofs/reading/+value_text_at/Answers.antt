use Rattle.std.proofs.Common.{rules, ◌≡◌, ◌++◌, ◌∷◌, ◌-◌, ◌+◌, [], length, map}
use Rattle.std.proofs.lemmas.Result.{err_from_is_err_and}
use Rattle.std.proofs.lemmas.List.{map_push}
use Rattle.model_value.specs.View.{plain}
use Rattle.value_text.specs.Reading.{text_items_at, value_text_at}
use Rattle.value_text.proofs.Loops.{one_more, no_more, at_end, behind_nothing, behind_end, behind_comma, behind_other}
use Rattle.value_text.proofs.Rows.{value_text_at-word}
use Rattle.value_text.proofs.reading.+value_text_at.Goals as goal

pub text_items_at-returns-in_err-item : goal.text_items_at-returns-in_err-item
text_items_at-returns-in_err-item t c =
    let p = err_from_is_err_and c.from_residual.result c.from_residual.ensures.1 in
    rw (p.1, p.2) (λ bad. no_more (value_text_at c.args.levels) (map plain c.loop.items.items) (length c.args.bytes.now) c.loop.counter c.loop.rest.now _ c.loop-test.true (c.in_err-item.ensures bad) c.loop.invariant)

pub text_items_at-returns-in_default : goal.text_items_at-returns-in_default
text_items_at-returns-in_default t c =
    let before = map plain c.loop.items.items in
    let value = plain c.in_ok-item.item in
    let read = value_text_at c.args.levels in
    let step = one_more read before (length c.args.bytes.now) c.loop.counter c.loop.rest.now c.in_ok-item.behind.now value _ c.loop-test.true c.in_ok-item.ensures c.loop.invariant in
    λ _. behind_nothing (before ++ value ∷ []) (text_items_at read (before ++ value ∷ []) (length c.args.bytes.now - (c.loop.counter + 1))) c.in_ok-item.behind.now _ c.in_default.ensures.cases step

pub text_items_at-returns-in-93 : goal.text_items_at-returns-in-93
text_items_at-returns-in-93 t c =
    let before = map plain c.loop.items.items in
    let value = plain c.in_ok-item.item in
    let read = value_text_at c.args.levels in
    let e : map plain c.push.new.items.items ≡ before ++ value ∷ [] = rw c.in_ok-push.ensures.ok (map_push _ c.loop.items.items c.in_ok-item.item) in
    let step = one_more read before (length c.args.bytes.now) c.loop.counter c.loop.rest.now c.in_ok-item.behind.now value _ c.loop-test.true c.in_ok-item.ensures c.loop.invariant in
    rw e (behind_end (before ++ value ∷ []) (text_items_at read (before ++ value ∷ []) (length c.args.bytes.now - (c.loop.counter + 1))) c.in_ok-item.behind.now c.in-Some.first.now c.in-Some.after.now _ c.in-Some.ensures.cases.0 c.in-93.is step)

pub text_items_at-loop-preserved : goal.text_items_at-loop-preserved
text_items_at-loop-preserved t c =
    let before = map plain c.loop.items.items in
    let value = plain c.in_ok-item.item in
    let read = value_text_at c.args.levels in
    let e : map plain c.push.new.items.items ≡ before ++ value ∷ [] = rw c.in_ok-push.ensures.ok (map_push _ c.loop.items.items c.in_ok-item.item) in
    let step = one_more read before (length c.args.bytes.now) c.loop.counter c.loop.rest.now c.in_ok-item.behind.now value _ c.loop-test.true c.in_ok-item.ensures c.loop.invariant in
    rw e (behind_comma (before ++ value ∷ []) (text_items_at read (before ++ value ∷ []) (length c.args.bytes.now - (c.loop.counter + 1))) c.in_ok-item.behind.now c.in-Some.first.now c.in-Some.after.now _ c.in-Some.ensures.cases.0 c.in-44.is step)

pub text_items_at-returns-in_default-first : goal.text_items_at-returns-in_default-first
text_items_at-returns-in_default-first t c =
    let before = map plain c.loop.items.items in
    let value = plain c.in_ok-item.item in
    let read = value_text_at c.args.levels in
    let step = one_more read before (length c.args.bytes.now) c.loop.counter c.loop.rest.now c.in_ok-item.behind.now value _ c.loop-test.true c.in_ok-item.ensures c.loop.invariant in
    λ _. behind_other (before ++ value ∷ []) (text_items_at read (before ++ value ∷ []) (length c.args.bytes.now - (c.loop.counter + 1))) c.in_ok-item.behind.now c.in-Some.first.now c.in-Some.after.now _ c.in-Some.ensures.cases.0 (search rules) (search rules) step

pub text_items_at-returns : goal.text_items_at-returns
text_items_at-returns t c = λ _. at_end (value_text_at c.args.levels) (map plain c.loop.items.items) (length c.args.bytes.now) c.loop.counter c.loop.rest.now _ c.loop-test.false c.loop.invariant

pub value_text_at-returns-in_default-first : goal.value_text_at-returns-in_default-first
value_text_at-returns-in_default-first t c =
    rw (value_text_at-word c.args.levels c.args.bytes.now c.in-Some.first.now c.in-Some.behind.now c.in-Some.ensures.cases.0 (search rules) (search rules)) c.word_at.ensures
