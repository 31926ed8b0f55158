-- Loops that take the items of a vector, one by one, and lists that go along with others.
use Rattle.std.proofs.Common.{◌≡◌, List, [], ◌∷◌, ◌++◌, length, All, Some, Option, sym, subst}
use Rattle.std.specs.List.{AllZip}
use Rattle.std.specs.Iterator.{Yields}
use Rattle.std.specs.Vec.Iter.{into_iter_items, into_iter_len, into_iter_steps}
use Rattle.std.proofs.lemmas.Iterator.Adapters.{YieldsList-from_vec}
use Rattle.std.proofs.lemmas.Iterator.Consumers.{YieldsList-turn}

module _ {A Z : Type 0} (start : _) (items : List A) (gives : into_iter_items {X = A} {Z = Z} start ≡ items) (as_long : into_iter_len {X = A} {Z = Z} start ≡ length items)
    (taken : List A) (now : _) (yields : Yields (into_iter_steps {X = A} {Z = Z}) start taken now) (next : _) where
  -- what is so of all items is so of the next one
  pub all_of_next : (P : A → Type 0) (r : Option A) (x : A) → All P items → r ≡ Some x → into_iter_steps {X = A} {Z = Z} now r next → P x
  all_of_next P r x all is steps =
      let turn = YieldsList-turn (YieldsList-from_vec items gives as_long) taken now yields r next x is steps in
      subst P (sym turn.1) (all (length taken) x turn.0)

pub zip_push : {A B : Type 0} (R : A → B → Type 0) (xs : List A) (ys : List B) (x : A) (y : B) → AllZip R xs ys → R x y → AllZip R (xs ++ x ∷ []) (ys ++ y ∷ [])
zip_push R [] [] x y all one = (one, tt)
zip_push R [] (z ∷ zs) x y all one = absurd all
zip_push R (w ∷ ws) [] x y all one = absurd all
zip_push R (w ∷ ws) (z ∷ zs) x y all one = (all.0, zip_push R ws zs x y all.1 one)
