use Rattle.std.proofs.Common.{map, ap, ◌∙◌, arith}
use Rattle.std.proofs.lemmas.Grind.{common_steps}
use Rattle.std.proofs.lemmas.List.{take_all}
use Rattle.model_value.proofs.Plains.{plain-Text}
use Rattle.serde_json.specs.View.{view}
use Rattle.persist_json.proofs.Readings.{read-text, view-String, AreValues-push, bare-push, AreReadAs-all}
use Rattle.persist_json.proofs.reading.+value_of.Goals as goal

pub value_of-returns-in_ok-copy-in-String-clause-read : goal.value_of-returns-in_ok-copy-in-String-clause-read
value_of-returns-in_ok-copy-in-String-clause-read t c =
    let seen = ap view c.in-String.is ∙ view-String c.in-String.text in
    let read = read-text c.as_str.result.now c.in_ok-copy-in-String.field-0 c.in_ok-copy-in-String.ensures.ok c.as_str.utf8 in
    rw (seen, plain-Text, ← c.as_str.ensures.value) read

pub values_of-loop-item-preserved : goal.values_of-loop-item-preserved
values_of-loop-item-preserved t c = record {
  same = grind (arith, common_steps);
  are = rw c.in_ok-push.ensures.ok (AreValues-push c.loop-item.values.items c.in_ok-value.value c.loop-item.invariant.are c.in_ok-value.ensures.read.is);
  bare = rw c.in_ok-push.ensures.ok (bare-push c.loop-item.values.items c.in_ok-value.value c.loop-item.invariant.bare c.in_ok-value.ensures.read.bare);
  left = grind (arith, common_steps);
}

pub values_of-returns-clause-read : goal.values_of-returns-clause-read
values_of-returns-clause-read t c =
    let l = c.loop-item in
    let all = take_all l.item-index c.args.items.now (omega arith) in
    AreReadAs-all c.args.items.now l.values.items (l.invariant.same ∙ ap (map view) all) l.invariant.are l.invariant.bare
