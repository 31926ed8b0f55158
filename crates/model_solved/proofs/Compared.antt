-- Tests that compare names.
use Rattle.std.proofs.Common.{◌≡◌, ◌↔◌, Bool, IsTrue, sym}
use Rattle.std.specs.Bool.{one_answer}
use Rattle.std.specs.Str.{bytes_eq}
use Rattle.std.proofs.lemmas.Slice.Eq.{bytes_eq-Decides}
use Rattle.model_tree.specs.Tree.{Name}

-- a test for a name says whether it is that name, from either side
pub compared : (same : Bool) (x word : Name) → (IsTrue same ↔ x ≡ word) → same ≡ bytes_eq x word
compared same x word h = one_answer same (bytes_eq x word) h (bytes_eq-Decides x word)

pub compared_back : (same : Bool) (x word : Name) → (IsTrue same ↔ x ≡ word) → same ≡ bytes_eq word x
compared_back same x word h = one_answer same (bytes_eq word x) (λ e. sym (h.0 e), λ e. h.1 (sym e)) (bytes_eq-Decides word x)
