use Rattle.std.proofs.Common.{◌≡◌, ◌↔◌, ◌+◌, ℕ, get_or, IsTrue, Bool, List, sym, ap, ◌∙◌}
use Rattle.std.specs.Str.{bytes_eq}
use Rattle.std.proofs.lemmas.Bool.Decides.{same_from_decides}
use Rattle.std.proofs.lemmas.Slice.Eq.{bytes_eq-Decides}
use Rattle.std.proofs.lemmas.List.Sums.{count_by_more_yes, count_by_more_no}
use Rattle.drill.proofs.ending.agreeing.Goals.{then-is_bytes, else-is_bytes}
use Rattle.drill.proofs.ending.agreeing.Goals as goal

-- the test at this place is what the call told
test_at : (xs : List (List ℕ)) (bytes : List ℕ) (i : ℕ) (x : List ℕ) (told : Bool) → x ≡ get_or xs i x → IsTrue told ↔ (x ≡ bytes) → bytes_eq (get_or xs i x) bytes ≡ told
test_at xs bytes i x told at tells = ap (λ y. bytes_eq y bytes) (sym at) ∙ same_from_decides (bytes_eq x bytes) told (bytes_eq-Decides x bytes) tells

pub loop-snapshot-preserved : goal.loop-snapshot-preserved
loop-snapshot-preserved c =
    let xs = c.args.snapshots.now in
    let bytes = c.args.bytes.now in
    let i = c.loop-snapshot.snapshot-index in
    let same = test_at xs bytes i c.snapshot-item.result c.is_bytes.result c.snapshot-item.is c.is_bytes.ensures in
    elim c.if-is_bytes.branch [
      | then-is_bytes w ↦ w.agree-is ∙ ap (λ n. n + 1) c.loop-snapshot.invariant ∙ sym (count_by_more_yes (λ snapshot. bytes_eq snapshot bytes) xs i c.snapshot-item.result c.loop-snapshot-test.true (same ∙ w.if-is_bytes.true))
      | else-is_bytes w ↦ w.agree-is ∙ c.loop-snapshot.invariant ∙ sym (count_by_more_no (λ snapshot. bytes_eq snapshot bytes) xs i c.snapshot-item.result c.loop-snapshot-test.true (same ∙ w.if-is_bytes.false))
    ]
