use Rattle.std.proofs.Common.{◌≡◌, ◌+◌, ◌++◌, ◌∙◌, List, [], ◌∷◌, ap, sym, subst, append_assoc, take, arith}
use Rattle.std.proofs.lemmas.List.{at_drop_more, take_more}
use Rattle.sha2.specs.Hashers.{Holds256}
use Rattle.model_value.specs.Plain.{weight_of_all}
use Rattle.model_value.specs.Spelling.{items_spelling, value_spelling}
use Rattle.model_value.specs.View.{plain, plains}
use Rattle.model_value.specs.declared.value.Value.{Value}
use Rattle.snapshot_codec.proofs.Hashed.{items_spelling-push}
use Rattle.snapshot_codec.proofs.values.+hash_value.Goals as goal

pub hash_items-loop-item-preserved : goal.hash_items-loop-item-preserved
hash_items-loop-item-preserved t c =
    let items = c.args.items.now in
    let k = c.loop-item.item-index in
    let v = c.item-item.result in
    let longer : take (k + 1) items ≡ take k items ++ v ∷ [] = take_more items k v c.loop-item-test.true ∙ ap (λ (x : Value). take k items ++ x ∷ []) (sym c.item-item.is) in
    let spelled : items_spelling (plains (take (k + 1) items)) ≡ items_spelling (plains (take k items)) ++ value_spelling (plain v) =
    ap (λ (vs : List Value). items_spelling (plains vs)) longer ∙ items_spelling-push (take k items) v in
    record {
      light = omega (arith, at_drop_more (λ (vs : List Value). weight_of_all (plains vs)) items k v c.loop-item-test.true, c.loop-item.invariant.light);
      hashed = λ m held.
          subst (Holds256 c.hash_value.new.hasher)
          (append_assoc m (items_spelling (plains (take k items))) (value_spelling (plain v)) ∙ ap (λ bytes. m ++ bytes) (sym spelled))
          (c.hash_value.ensures (m ++ items_spelling (plains (take k items))) (c.loop-item.invariant.hashed m held));
    }
