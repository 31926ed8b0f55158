-- Whether two values are the same is a test.
use Rattle.std.proofs.Common.{◌≡◌, Bool, true, false, ◌&&◌, refl, sym, ap, ap₂, ◌∙◌}
use Rattle.std.specs.Prelude.{IsTrue, ◌↔◌}
use Rattle.std.specs.Cmp.{signed_Decides}
use Rattle.std.proofs.lemmas.Bool.{false≢true}
use Rattle.std.proofs.lemmas.Bool.Decides.{Decides-eqb}
use Rattle.std.proofs.lemmas.Slice.Eq.{bytes_eq-Decides}
use Rattle.model_value.specs.Plain.{PlainValue, nil, bool, int, text, ref, list, PlainValues, no_items, item}
use Rattle.model_eval.specs.Operators.{same, all_same}

both : (a b : Bool) → (a && b) ≡ true → (a ≡ true) × (b ≡ true)
both true b e = (refl, e)
both false b e = absurd (false≢true e)

both_true : (a b : Bool) → a ≡ true → b ≡ true → (a && b) ≡ true
both_true true b e f = f
both_true false b e f = absurd (false≢true e)

mutual
  same-itself : (v : PlainValue) → same v v ≡ true
  same-itself nil = refl
  same-itself (bool true) = refl
  same-itself (bool false) = refl
  same-itself (int n) = (signed_Decides n n).1 refl
  same-itself (text s) = (bytes_eq-Decides s s).1 refl
  same-itself (ref n) = (Decides-eqb n n).1 refl
  same-itself (list vs) = all_same-itself vs

  all_same-itself : (vs : PlainValues) → all_same vs vs ≡ true
  all_same-itself no_items = refl
  all_same-itself (item v vs) = both_true (same v v) (all_same vs vs) (same-itself v) (all_same-itself vs)

mutual
  same-is : (v w : PlainValue) → same v w ≡ true → v ≡ w
  same-is nil nil e = refl
  same-is (bool true) (bool true) e = refl
  same-is (bool false) (bool false) e = refl
  same-is (bool true) (bool false) e = absurd (false≢true e)
  same-is (bool false) (bool true) e = absurd (false≢true e)
  same-is (int m) (int n) e = ap int ((signed_Decides m n).0 e)
  same-is (text s) (text t) e = ap text ((bytes_eq-Decides s t).0 e)
  same-is (ref m) (ref n) e = ap ref ((Decides-eqb m n).0 e)
  same-is (list vs) (list ws) e = ap list (all_same-is vs ws e)
  same-is _ _ e = absurd (false≢true e)

  all_same-is : (vs ws : PlainValues) → all_same vs ws ≡ true → vs ≡ ws
  all_same-is no_items no_items e = refl
  all_same-is (item v vs) (item w ws) e = let parts = both (same v w) (all_same vs ws) e in ap₂ item (same-is v w parts.0) (all_same-is vs ws parts.1)
  all_same-is _ _ e = absurd (false≢true e)

-- what tells whether two values are the same
pub told_same : (b : Bool) (v w : PlainValue) → (IsTrue b ↔ (v ≡ w)) → b ≡ same v w
told_same b v w h = told b (same v w) (λ e. h.1 (same-is v w e)) (λ t. ap (same v) (sym (h.0 t)) ∙ same-itself v)
  where
    told : (b c : Bool) → (c ≡ true → IsTrue b) → (IsTrue b → c ≡ true) → b ≡ c
    told true true f g = refl
    told false false f g = refl
    told true false f g = sym (g refl)
    told false true f g = absurd (false≢true (f refl))
