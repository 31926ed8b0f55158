-- Look-ups by text: what a change at one text makes of them, and what `retain` leaves.
use Rattle.std.proofs.Common.{◌≡◌, ℕ, Bool, true, false, cond, List, [], ◌∷◌, refl, sym, ap, subst, ◌∙◌, arith}
use Rattle.std.specs.Prelude.{Option, Some, None, is_some, Result, Ok, Err, OnErr, String, ◌&&◌, length, nat_eq, bytes_eq, string_bytes, string_eq}
use Rattle.std.specs.HashMap.{HashMap, get_by_text, UpdatesBy, WritesThrough}
use Rattle.std.specs.List.{AllByRecursion, IsDistinct}
use Rattle.std.specs.Map.{lookup, keys_of, IsKeyTest}
use Rattle.std.specs.Map.Calls.{RetainsPairs}
use Rattle.std.specs.Option.{option_map_or}
use Rattle.std.proofs.lemmas.Bool.{eqb-true}
use Rattle.std.proofs.lemmas.Map.Text.{hash_map_updates_text}
use Rattle.std.proofs.lemmas.Slice.Eq.{bytes_eq-Decides}

-- ---- a change at one text

module _ {Y X S H : Type 0} (read : X → List H) (bs : List ℕ) (m n : HashMap (String Y) X S) (change : List H → List H) where
  at_text : (w : Option X) (cs : List ℕ) (b : Bool) → bytes_eq bs cs ≡ b
      → option_map_or read w [] ≡ change (option_map_or read (get_by_text m bs) [])
      → option_map_or read (cond b w (get_by_text m cs)) [] ≡ cond b (change (option_map_or read (get_by_text m cs) [])) (option_map_or read (get_by_text m cs) [])
  at_text w cs true here is =
      let same : bs ≡ cs = (bytes_eq-Decides bs cs).0 here in
      is ∙ ap (λ (ds : List ℕ). change (option_map_or read (get_by_text m ds) [])) same
  at_text w cs false here is = refl

  -- where w is put at a text, and reads as the change of what was there
  pub changed : (w : Option X) → UpdatesBy string_eq (λ k. bytes_eq bs (string_bytes k)) m n w
      → option_map_or read w [] ≡ change (option_map_or read (get_by_text m bs) [])
      → (cs : List ℕ)
      → option_map_or read (get_by_text n cs) [] ≡ cond (bytes_eq bs cs) (change (option_map_or read (get_by_text m cs) [])) (option_map_or read (get_by_text m cs) [])
  changed w updates is cs =
      ap (λ (o : Option X). option_map_or read o []) (hash_map_updates_text bs m n w updates cs)
      ∙ at_text w cs (bytes_eq bs cs) refl is

  as_before : (cs : List ℕ) (b : Bool) → bytes_eq bs cs ≡ b → change [] ≡ [] → option_map_or read (get_by_text m bs) [] ≡ []
      → option_map_or read (get_by_text m cs) [] ≡ cond b (change (option_map_or read (get_by_text m cs) [])) (option_map_or read (get_by_text m cs) [])
  as_before cs true here nothing none =
      let same : bs ≡ cs = (bytes_eq-Decides bs cs).0 here in
      let empty : option_map_or read (get_by_text m cs) [] ≡ [] = subst (λ (ds : List ℕ). option_map_or read (get_by_text m ds) [] ≡ []) same none in
      empty ∙ sym nothing ∙ sym (ap change empty)
  as_before cs false here nothing none = refl

  -- where nothing stands at a text, and the change leaves nothing so
  pub unchanged : change [] ≡ [] → option_map_or read (get_by_text m bs) [] ≡ [] → (cs : List ℕ)
      → option_map_or read (get_by_text m cs) [] ≡ cond (bytes_eq bs cs) (change (option_map_or read (get_by_text m cs) [])) (option_map_or read (get_by_text m cs) [])
  unchanged nothing none cs = as_before cs (bytes_eq bs cs) refl nothing none

-- what each look-up reads, where each call did its change at the text bs
module _ {Y X S H : Type 0} (read : X → List H) (bs : List ℕ) (m n : HashMap (String Y) X S) (change : List H → List H) where
  -- the value there was written through a borrow
  pub written : (v w : X) → Some v ≡ get_by_text m bs → WritesThrough string_eq (λ k. bytes_eq bs (string_bytes k)) m w n → read w ≡ change (read v) → (cs : List ℕ)
      → option_map_or read (get_by_text n cs) [] ≡ cond (bytes_eq bs cs) (change (option_map_or read (get_by_text m cs) [])) (option_map_or read (get_by_text m cs) [])
  written v w there holds is = changed read bs m n change (Some w) (holds.3 (sym (ap is_some there))) (is ∙ ap (λ (o : Option X). change (option_map_or read o [])) there)

  -- there is no value there
  pub missed : None ≡ get_by_text m bs → n ≡ m → change [] ≡ [] → (cs : List ℕ)
      → option_map_or read (get_by_text n cs) [] ≡ cond (bytes_eq bs cs) (change (option_map_or read (get_by_text m cs) [])) (option_map_or read (get_by_text m cs) [])
  missed none same nothing cs =
      ap (λ (o : HashMap (String Y) X S). option_map_or read (get_by_text o cs) []) same
      ∙ unchanged read bs m n change nothing (ap (λ (o : Option X). option_map_or read o []) (sym none)) cs

  -- a value is put there where there was none
  pub inserted : (key : String Y) (w : X) (same : HashMap (String Y) X S) → string_bytes key ≡ bs → None ≡ get_by_text m bs → same ≡ m
      → UpdatesBy string_eq (string_eq key) same n (Some w)
      → read w ≡ change []
      → (cs : List ℕ)
      → option_map_or read (get_by_text n cs) [] ≡ cond (bytes_eq bs cs) (change (option_map_or read (get_by_text m cs) [])) (option_map_or read (get_by_text m cs) [])
  inserted key w same named none is_same updates is cs =
      let there = subst (λ (o : HashMap (String Y) X S). UpdatesBy string_eq (string_eq key) o n (Some w)) is_same updates in
      let empty : option_map_or read (get_by_text m (string_bytes key)) [] ≡ [] =
      ap (λ (ds : List ℕ). option_map_or read (get_by_text m ds) []) named ∙ ap (λ (o : Option X). option_map_or read o []) (sym none) in
      changed read (string_bytes key) m n change (Some w) there (is ∙ ap change (sym empty)) cs
      ∙ ap (λ (ds : List ℕ). cond (bytes_eq ds cs) (change (option_map_or read (get_by_text m cs) [])) (option_map_or read (get_by_text m cs) [])) named

-- a choice between one and the same
pub either_same : {A : Type 0} (b : Bool) (x : A) → cond b x x ≡ x
either_same true x = refl
either_same false x = refl

pub nested : {A : Type 0} (a b : Bool) (x y : A) → cond a (cond b x y) y ≡ cond (a && b) x y
nested true b x y = refl
nested false b x y = refl

-- ---- `retain`

module _ {K : Type 0} (eq : K → K → Bool) (test : K → Bool) (one : IsKeyTest eq test) where
  none_passes : {X : Type 0} (k : K) (es : List (K × X)) → test k ≡ true → AllByRecursion (λ y. eq k y ≡ false) (keys_of es) → lookup test es ≡ None
  none_passes k [] passes apart = refl
  none_passes {X} k (e ∷ es) passes apart =
      let no : test e.0 ≡ false = one k e.0 passes ∙ apart.0 in
      ap (λ (b : Bool). cond b (Some e.1) (lookup test es)) no ∙ none_passes k es passes apart.1

module _ {K X F H : Type 0} (T : F → K → X → Bool → X → F → Type 0) (f : F) (eq : K → K → Bool) (test : K → Bool) (one : IsKeyTest eq test)
    (read : X → List H) (change : List H → List H) (nothing : change [] ≡ [])
    (says : (k : K) (v : X) (b : Bool) (w : X) (g : F) → T f k v b w g → (read w ≡ change (read v)) × (b ≡ false → read w ≡ []) × (g ≡ f)) where
  one_more : (k : K) (v w : X) (es rest : List (K × X)) (b passes : Bool) → test k ≡ passes
      → read w ≡ change (read v)
      → (b ≡ false → read w ≡ [])
      → AllByRecursion (λ y. eq k y ≡ false) (keys_of es)
      → option_map_or read (lookup test rest) [] ≡ change (option_map_or read (lookup test es) [])
      → option_map_or read (lookup test (cond b ((k, w) ∷ rest) rest)) [] ≡ change (option_map_or read (cond passes (Some v) (lookup test es)) [])
  one_more k v w es rest true true here is gone apart others = ap (λ (p : Bool). option_map_or read (cond p (Some w) (lookup test rest)) []) here ∙ is
  one_more k v w es rest false true here is gone apart others =
      others ∙ ap (λ (o : Option X). change (option_map_or read o [])) (none_passes eq test one k es here apart) ∙ nothing ∙ sym (gone refl) ∙ is
  one_more k v w es rest true false here is gone apart others = ap (λ (p : Bool). option_map_or read (cond p (Some w) (lookup test rest)) []) here ∙ others
  one_more k v w es rest false false here is gone apart others = others

  -- where the closure changes what each value reads as, and lets go only of what reads as nothing
  pub retained : (es kept : List (K × X)) → IsDistinct eq (keys_of es) → RetainsPairs T f es kept
      → option_map_or read (lookup test kept) [] ≡ change (option_map_or read (lookup test es) [])
  unfolding IsDistinct
  retained [] kept distinct run = ap (λ (l : List (K × X)). option_map_or read (lookup test l) []) run ∙ sym nothing
  retained (e ∷ es) kept distinct run =
      let said = says e.0 e.1 run.0 run.1 run.2 run.4 in
      let others = retained es run.3 distinct.1 (subst (λ (g : F). RetainsPairs T g es run.3) said.2 run.5) in
      ap (λ (l : List (K × X)). option_map_or read (lookup test l) []) run.6
      ∙ one_more e.0 e.1 run.1 es run.3 run.0 (test e.0) refl said.0 said.1 distinct.0 others

-- what holds in any case holds of an `Err`
pub on_err : {T E : Type 0} (r : Result T E) (P : Type 0) → P → OnErr r P
on_err (Ok _) P p = tt
on_err (Err _) P p = p

some_items : {A : Type 0} (x : A) (xs : List A) → nat_eq (length (x ∷ xs)) 0 ≡ true → ⊥
some_items x xs e = omega (arith, eqb-true (length (x ∷ xs)) 0 e)

pub no_items : {A : Type 0} (xs : List A) (r : Bool) → r ≡ nat_eq (length xs) 0 → r ≡ true → xs ≡ []
no_items [] r is empty = refl
no_items (x ∷ xs) r is empty = absurd (some_items x xs (sym is ∙ empty))
