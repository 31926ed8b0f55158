-- What is read within a room, and what its weight leaves of the room.
use Rattle.std.proofs.Common.{◌≡◌, ℕ, zero, suc, ◌+◌, ◌-◌, ◌<◌, ◌≤◌, inl, inr, Bool, true, false, List, [], ◌∷◌, ◌++◌, Option, Some, None, refl, sym, ap, subst, ◌∙◌, arith}
use Rattle.std.specs.Prelude.{nat_le, if◌then◌else◌}
use Rattle.std.proofs.lemmas.Bool.{cases_lt, le-leb, leb-true, lt-leb}
use Rattle.std.proofs.lemmas.Option.{none-some, same_Some}
use Rattle.byte_fields.specs.Fields.{Decoder, ◌>>=◌, items_at, list_at}
use Rattle.model_value.specs.Plain.{PlainValue, weight, weight_of_all, values_weight}
use Rattle.model_value.specs.Reading.{value_at, items_in, weighed_at}
use Rattle.model_value.specs.View.{plains_of}
use Rattle.model_value.proofs.Rooms.{value_at-row, items_in-room}
use Rattle.model_value.proofs.Spellings.{weight-positive}
use Rattle.model_value.proofs.Totals.{values_weight-append, weight_of_all-plains_of}

-- what of a finding is within the room
abbrev pub weighed : {A : Type 0} → (A → ℕ) → ℕ → Option (A × List ℕ) → Option ((A × ℕ) × List ℕ)
weighed weigh room found = found >>= λ x. if nat_le (weigh x.0) room then Some ((x.0, room - weigh x.0), x.1) else None

pub weighed-fits : {A : Type 0} (weigh : A → ℕ) (room left : ℕ) (v : A) (rest : List ℕ) → weigh v + left ≡ room → weighed weigh room (Some (v, rest)) ≡ Some ((v, left), rest)
weighed-fits weigh room left v rest e =
    let fits = le-leb (weigh v) room (omega arith) in
    let l : room - weigh v ≡ left = omega arith in
    rw (fits, l) refl

pub weighed-over : {A : Type 0} (weigh : A → ℕ) (room : ℕ) (v : A) (rest : List ℕ) → room < weigh v → weighed weigh room (Some (v, rest)) ≡ None
weighed-over weigh room v rest over = rw (lt-leb (weigh v) room over) refl

passed : {A : Type 0} (test : Bool) (x y : A) → (if test then Some x else None) ≡ Some y → (test ≡ true) × (x ≡ y)
passed true x y e = (refl, same_Some x y e)
passed false x y e = absurd (none-some y e)

-- what was given was found, and it weighs as much as the room has lost
pub weighed-parts : {A : Type 0} (weigh : A → ℕ) (room left : ℕ) (found : Option (A × List ℕ)) (v : A) (rest : List ℕ) → weighed weigh room found ≡ Some ((v, left), rest) → (found ≡ Some (v, rest)) × (weigh v + left ≡ room)
weighed-parts weigh room left None v rest e = absurd (none-some ((v, left), rest) e)
weighed-parts {A = A} weigh room left (Some x) v rest e =
    let p = passed (nat_le (weigh x.0) room) ((x.0, room - weigh x.0), x.1) ((v, left), rest) e in
    let le = leb-true (weigh x.0) room p.0 in
    let whole : weigh x.0 + (room - weigh x.0) ≡ room = omega arith in
    subst (λ (q : (A × ℕ) × List ℕ). (Some x ≡ Some (q.0.0, q.1)) × (weigh q.0.0 + q.0.1 ≡ room)) p.1 (refl, whole)

-- what was found and not given is heavier
pub weighed-heavy : {A : Type 0} (weigh : A → ℕ) (room : ℕ) (v : A) (rest : List ℕ) → weighed weigh room (Some (v, rest)) ≡ None → room < weigh v
weighed-heavy weigh room v rest none = elim (cases_lt room (weigh v)) [
  | inl over ↦ over
  | inr fits ↦ let whole : weigh v + (room - weigh v) ≡ room = omega arith in absurd (none-some ((v, room - weigh v), rest) (sym none ∙ weighed-fits weigh room (room - weigh v) v rest whole))
]

-- ---- what is made of a finding weighs so much more

pub weighed-made : {A B : Type 0} (make : A → B) (part : A → ℕ) (all : B → ℕ) (more room whole : ℕ) → whole ≡ more + room → ((x : A) → all (make x) ≡ more + part x) → (found : Option (A × List ℕ))
    → weighed all whole (found >>= λ x. Some (make x.0, x.1)) ≡ (weighed part room found >>= λ p. Some ((make p.0.0, p.0.1), p.1))
weighed-made make part all more room whole is weighs None = refl
weighed-made make part all more room whole is weighs (Some x) = elim (cases_lt room (part x.0)) [
  | inl over ↦
      let heavy : whole < all (make x.0) = omega (arith, weighs x.0, is) in
      weighed-over all whole (make x.0) x.1 heavy ∙ rw (lt-leb (part x.0) room over) refl
  | inr fits ↦
      let sum : all (make x.0) + (room - part x.0) ≡ whole = omega (arith, weighs x.0, is) in
      weighed-fits all whole (room - part x.0) (make x.0) x.1 sum ∙ rw (le-leb (part x.0) room fits) refl
]

-- each value weighs something
pub weighed-spent : (room : ℕ) (found : Option (PlainValue × List ℕ)) → room ≡ 0 → weighed weight room found ≡ None
weighed-spent room None e = refl
weighed-spent room (Some x) e = weighed-over weight room x.0 x.1 (omega (arith, weight-positive x.0, e))

-- the items of a list, by the list of its values
pub weighed-items : (room levels : ℕ) (bytes : List ℕ) → 0 < levels
    → weighed_at weight_of_all room (items_in levels) bytes ≡ (weighed_at values_weight room (list_at (λ _. value_at (levels - 1))) bytes >>= λ p. Some ((plains_of p.0.0, p.0.1), p.1))
weighed-items room levels bytes h =
    ap (weighed weight_of_all room) (items_in-room levels bytes h)
    ∙ weighed-made plains_of values_weight weight_of_all 0 room room (omega arith) (λ vs. omega (arith, weight_of_all-plains_of vs)) (list_at (λ _. value_at (levels - 1)) bytes)

-- ---- items one after the other

more-heavier : (r : Decoder PlainValue) (before : List PlainValue) (count : ℕ) (found : Option (PlainValue × List ℕ)) (p : List PlainValue × List ℕ)
    → ((x : PlainValue × List ℕ) → items_at (λ _. r) (before ++ x.0 ∷ []) count x.1 ≡ Some p → values_weight (before ++ x.0 ∷ []) ≤ values_weight p.0)
    → (found >>= λ x. items_at (λ _. r) (before ++ x.0 ∷ []) count x.1) ≡ Some p → values_weight before ≤ values_weight p.0
more-heavier r before count None p later e = absurd (none-some p e)
more-heavier r before count (Some x) p later e = omega (arith, later x e, values_weight-append before (x.0 ∷ []))

-- all items weigh no less than those before
items-heavier : (r : Decoder PlainValue) (before : List PlainValue) (count : ℕ) (bytes : List ℕ) (p : List PlainValue × List ℕ) → items_at (λ _. r) before count bytes ≡ Some p → values_weight before ≤ values_weight p.0
unfolding items_at
items-heavier r before zero bytes p e = let is : (before, bytes) ≡ p = same_Some (before, bytes) p e in let same = ap (λ (q : List PlainValue × List ℕ). values_weight q.0) is in omega arith
items-heavier r before (suc count) bytes p e =
    more-heavier r before count (r bytes) p (λ x f. items-heavier r (before ++ x.0 ∷ []) count x.1 p f) e

-- where the next item is none or too heavy, the items are none or too heavy
pub stops : (r : Decoder PlainValue) (before : List PlainValue) (room left count i : ℕ) (bytes : List ℕ) (total : Option (List PlainValue × List ℕ)) → values_weight before + left ≡ room → i < count → weighed weight left (r bytes) ≡ None
    → items_at (λ _. r) before (count - i) bytes ≡ total → weighed values_weight room total ≡ None
unfolding items_at
stops r before room left count i bytes total spent lt none so_far =
    let k : count - i ≡ suc (count - (i + 1)) = omega arith in
    next (r bytes) none (subst (λ (n : ℕ). items_at (λ _. r) before n bytes ≡ total) k so_far)
  where
    over : (all : Option (List PlainValue × List ℕ)) → ((p : List PlainValue × List ℕ) → all ≡ Some p → room < values_weight p.0) → weighed values_weight room all ≡ None
    over None heavy = refl
    over (Some p) heavy = weighed-over values_weight room p.0 p.1 (heavy p refl)

    next : (found : Option (PlainValue × List ℕ)) → weighed weight left found ≡ None → (found >>= λ x. items_at (λ _. r) (before ++ x.0 ∷ []) (count - (i + 1)) x.1) ≡ total → weighed values_weight room total ≡ None
    next None none e = subst (λ (all : Option (List PlainValue × List ℕ)). weighed values_weight room all ≡ None) e refl
    next (Some x) none e =
        let heavy = weighed-heavy weight left x.0 x.1 none in
        over total (λ p f. omega (arith, heavy, items-heavier r (before ++ x.0 ∷ []) (count - (i + 1)) x.1 p (e ∙ f), values_weight-append before (x.0 ∷ [])))

pub ruleset by_room = (value_at-row, weighed-spent, weighed-items)
