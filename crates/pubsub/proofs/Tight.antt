-- Facts of what stands at each text: what a change at one text makes of them, and what `retain` leaves.
use Rattle.std.proofs.Common.{◌≡◌, ℕ, ◌<◌, Bool, true, false, cond, List, [], ◌∷◌, length, refl, sym, ap, subst, ◌∙◌, arith}
use Rattle.std.specs.Prelude.{Option, Some, None, is_some, IfSome, String, nat_eq, bytes_eq, string_bytes, string_eq}
use Rattle.std.specs.HashMap.{HashMap, get_by_text, UpdatesBy, WritesThrough}
use Rattle.std.specs.Map.{lookup}
use Rattle.std.specs.Map.Calls.{RetainsPairs}
use Rattle.std.specs.Option.{option_map_or}
use Rattle.std.proofs.lemmas.Bool.{false≢true}
use Rattle.std.proofs.lemmas.Map.Text.{hash_map_updates_text}
use Rattle.std.proofs.lemmas.Slice.Eq.{bytes_eq-Decides}

-- ---- a change at one text

pub weaker : {X : Type 0} (o : Option X) (P Q : X → Type 0) → ((x : X) → P x → Q x) → IfSome o P → IfSome o Q
weaker None P Q f is = tt
weaker (Some x) P Q f is = f x is

pub joined : {X : Type 0} (o : Option X) (P Q R : X → Type 0) → ((x : X) → P x → Q x → R x) → IfSome o P → IfSome o Q → IfSome o R
joined None P Q R f p q = tt
joined (Some x) P Q R f p q = f x p q

-- a text is not another than itself
pub not_apart : {A : Type 0} (bs : List ℕ) → bytes_eq bs bs ≡ false → A
not_apart bs e = absurd (false≢true (sym e ∙ (bytes_eq-Decides bs bs).1 refl))

module _ {Y X S : Type 0} (P : List ℕ → X → Type 0) (bs : List ℕ) (m n : HashMap (String Y) X S) where
  -- what holds of each value holds of the one at a text
  pub holds_at : (v : X) → Some v ≡ get_by_text m bs → ((cs : List ℕ) → IfSome (get_by_text m cs) (P cs)) → P bs v
  holds_at v there all = subst (λ (o : Option X). IfSome o (P bs)) (sym there) (all bs)

  at_text : (w : Option X) (cs : List ℕ) (b : Bool) → bytes_eq bs cs ≡ b → IfSome w (P bs) → (bytes_eq bs cs ≡ false → IfSome (get_by_text m cs) (P cs))
      → IfSome (cond b w (get_by_text m cs)) (P cs)
  at_text w cs true here is others = subst (λ (ds : List ℕ). IfSome w (P ds)) ((bytes_eq-Decides bs cs).0 here) is
  at_text w cs false here is others = others here

  -- w is put at the text, and the others stay
  pub holds_changed : (w : Option X) → UpdatesBy string_eq (λ k. bytes_eq bs (string_bytes k)) m n w → IfSome w (P bs)
      → ((cs : List ℕ) → bytes_eq bs cs ≡ false → IfSome (get_by_text m cs) (P cs))
      → (cs : List ℕ) → IfSome (get_by_text n cs) (P cs)
  holds_changed w updates is others cs =
      subst (λ (o : Option X). IfSome o (P cs)) (sym (hash_map_updates_text bs m n w updates cs)) (at_text w cs (bytes_eq bs cs) refl is (others cs))

module _ {Y X S : Type 0} (P : List ℕ → X → Type 0) (bs : List ℕ) (m n : HashMap (String Y) X S) where
  -- the value there was written through a borrow
  pub holds_written : (v w : X) → Some v ≡ get_by_text m bs → WritesThrough string_eq (λ k. bytes_eq bs (string_bytes k)) m w n → P bs w
      → ((cs : List ℕ) → bytes_eq bs cs ≡ false → IfSome (get_by_text m cs) (P cs))
      → (cs : List ℕ) → IfSome (get_by_text n cs) (P cs)
  holds_written v w there holds is others = holds_changed P bs m n (Some w) (holds.3 (sym (ap is_some there))) is others

  -- a value is put there where there was none
  pub holds_inserted : (key : String Y) (w : X) (same : HashMap (String Y) X S) → string_bytes key ≡ bs → same ≡ m
      → UpdatesBy string_eq (string_eq key) same n (Some w) → P bs w
      → ((cs : List ℕ) → IfSome (get_by_text m cs) (P cs))
      → (cs : List ℕ) → IfSome (get_by_text n cs) (P cs)
  holds_inserted key w same named is_same updates is all =
      let there = subst (λ (o : HashMap (String Y) X S). UpdatesBy string_eq (string_eq key) o n (Some w)) is_same updates in
      holds_changed P (string_bytes key) m n (Some w) there (subst (λ (ds : List ℕ). P ds w) (sym named) is) (λ cs apart. all cs)

-- what holds of the value at a text, and of each other, holds of each
module _ {Y X S : Type 0} (P : List ℕ → X → Type 0) (R : X → Type 0) (bs : List ℕ) (m : HashMap (String Y) X S) (at : (cs : List ℕ) (x : X) → bytes_eq bs cs ≡ false → P cs x → R x) where
  close_at : (cs : List ℕ) (b : Bool) → bytes_eq bs cs ≡ b → IfSome (get_by_text m bs) R → IfSome (get_by_text m cs) (P cs) → IfSome (get_by_text m cs) R
  close_at cs true here is others = subst (λ (ds : List ℕ). IfSome (get_by_text m ds) R) ((bytes_eq-Decides bs cs).0 here) is
  close_at cs false here is others = weaker (get_by_text m cs) (P cs) R (λ x p. at cs x here p) others

  pub closed : IfSome (get_by_text m bs) R → ((cs : List ℕ) → IfSome (get_by_text m cs) (P cs)) → (cs : List ℕ) → IfSome (get_by_text m cs) R
  closed is others cs = close_at cs (bytes_eq bs cs) refl is (others cs)

-- ---- `retain`

module _ {K X F : Type 0} (T : F → K → X → Bool → X → F → Type 0) (f : F) (test : K → Bool) (Q : X → Type 0)
    (says : (k : K) (v : X) (b : Bool) (w : X) (g : F) → T f k v b w g → (b ≡ true → Q w) × (g ≡ f)) where
  one_kept : (k : K) (w : X) (rest : List (K × X)) (b passes : Bool) → test k ≡ passes → (b ≡ true → Q w) → IfSome (lookup test rest) Q
      → IfSome (lookup test (cond b ((k, w) ∷ rest) rest)) Q
  one_kept k w rest true true here is others = subst (λ (p : Bool). IfSome (cond p (Some w) (lookup test rest)) Q) (sym here) (is refl)
  one_kept k w rest true false here is others = subst (λ (p : Bool). IfSome (cond p (Some w) (lookup test rest)) Q) (sym here) others
  one_kept k w rest false passes here is others = others

  -- where the closure keeps only what Q holds of, it holds of what is found
  pub holds_kept : (es kept : List (K × X)) → RetainsPairs T f es kept → IfSome (lookup test kept) Q
  holds_kept [] kept run = subst (λ (l : List (K × X)). IfSome (lookup test l) Q) (sym run) tt
  holds_kept (e ∷ es) kept run =
      let said = says e.0 e.1 run.0 run.1 run.2 run.4 in
      let others = holds_kept es run.3 (subst (λ (g : F). RetainsPairs T g es run.3) said.1 run.5) in
      subst (λ (l : List (K × X)). IfSome (lookup test l) Q) (sym run.6) (one_kept e.0 run.1 run.3 run.0 (test e.0) refl said.0 others)

-- ---- how many

-- where something is found, there are entries
pub found_some : {K X : Type 0} (test : K → Bool) (es : List (K × X)) (w : X) → lookup test es ≡ Some w → 0 < length es
found_some test [] w e = absurd (false≢true (ap is_some e))
found_some test (x ∷ es) w e = omega arith

pub not_empty : {A : Type 0} (xs : List A) (r : Bool) → r ≡ nat_eq (length xs) 0 → r ≡ false → 0 < length xs
not_empty [] r is e = absurd (false≢true (sym e ∙ is))
not_empty (x ∷ xs) r is e = omega arith

pub some_read : {X H : Type 0} (read : X → List H) (o : Option X) → 0 < length (option_map_or read o []) → IfSome o (λ x. 0 < length (read x))
some_read read None some = tt
some_read read (Some x) some = some
