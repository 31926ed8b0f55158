-- The next view that is here is found among the entries of the log.
use Rattle.std.proofs.Common.{ℕ, suc, ◌≡◌, ◌+◌, ◌-◌, ◌<◌, Bool, true, false, cond, ◌&&◌, List, [], ◌∷◌, Option, Some, None, option_map, length, slice_get, get_or, refl, sym, ap, ◌∙◌, subst, arith, inl, inr}
use Rattle.std.specs.Prelude.{nat_lt}
use Rattle.std.proofs.lemmas.Bool.{cases_lt}
use Rattle.std.proofs.lemmas.Bool.Decides.{nat_tests}
use Rattle.std.proofs.lemmas.Option.{slice_get-get_or}
use Rattle.tea_base.specs.declared.entry.Entry.{Entry}
use Rattle.tea_base.specs.Readings.{current, is_here, is_presence_of, is_some_join, last_entry, presence}
use Rattle.reflector_core.specs.Stored.{IsNextHere}
use Rattle.reflector_core.specs.NextHere.{is_before, lesser_here}

-- ---- what is here was named

pub record IsNamed (log : List Entry) (view : ℕ) : Type 0 where
  pub place : ℕ
  pub entry : Entry
  pub within : place < length log
  pub at : slice_get log place ≡ Some entry
  pub is : entry.view ≡ view

named_later : (first : Entry) (rest : List Entry) (view : ℕ) → IsNamed rest view → IsNamed (first ∷ rest) view
named_later first rest view named =
    let place = named.place in
    record { place = suc place; entry = named.entry; within = omega (arith, named.within); at = named.at; is = named.is }

same_view : (first : Entry) (view : ℕ) → is_presence_of view first ≡ true → first.view ≡ view
same_view first view is = grind (arith, nat_tests)

named_if : (b : Bool) (first : Entry) (rest : List Entry) (view : ℕ) → is_presence_of view first ≡ b
    → is_some_join (last_entry (cond b (first ∷ presence rest view) (presence rest view))) ≡ true
    → (is_some_join (last_entry (presence rest view)) ≡ true → IsNamed rest view) → IsNamed (first ∷ rest) view
named_if true first rest view is here others = record { place = 0; entry = first; within = omega arith; at = refl; is = same_view first view is }
named_if false first rest view is here others = named_later first rest view (others here)

pub named : (log : List Entry) (view : ℕ) → is_here log view ≡ true → IsNamed log view
named [] view here = absurd cc
named (first ∷ rest) view here = named_if (is_presence_of view first) first rest view refl here (named rest view)

-- ---- what the loop has found

-- what was found is above and here
abbrev pub IsHereAbove : List Entry → ℕ → Option ℕ → Type 0
IsHereAbove log above None = Unit {0}
IsHereAbove log above (Some view) = (above < view) × (is_here log view ≡ true)

-- a view that is above and before what was found is not here
abbrev pub IsPassed : List Entry → ℕ → Option ℕ → ℕ → Type 0
IsPassed log above None other = above < other → is_here log other ≡ false
IsPassed log above (Some view) other = above < other → other < view → is_here log other ≡ false

pub record HasFound (log : List Entry) (above count : ℕ) (found : Option ℕ) : Type 0 where
  pub here : IsHereAbove log above found
  pub passed : (k : ℕ) (entry : Entry) → k < count → slice_get log k ≡ Some entry → IsPassed log above found entry.view

pub none_found : (log : List Entry) (above : ℕ) → HasFound log above 0 None
none_found log above = record { here = tt; passed = λ k entry below at. absurd (omega (arith, below)) }

-- ---- one more view is looked at

-- it comes before what was found, and is above and here
abbrev is_lesser : List Entry → ℕ → Option ℕ → ℕ → Bool
is_lesser log above found view = nat_lt above view && (is_before view found && is_here log view)

left_out : (log : List Entry) (above view : ℕ) (found : Option ℕ) → is_lesser log above found view ≡ false → IsPassed log above found view
left_out log above view None e = λ lt. grind (arith, nat_tests)
left_out log above view (Some old) e = λ lt before. grind (arith, nat_tests)

taken_above : (log : List Entry) (above view : ℕ) (found : Option ℕ) → is_lesser log above found view ≡ true → above < view
taken_above log above view None e = grind (arith, nat_tests)
taken_above log above view (Some old) e = grind (arith, nat_tests)

taken_here : (log : List Entry) (above view : ℕ) (found : Option ℕ) → is_lesser log above found view ≡ true → is_here log view ≡ true
taken_here log above view None e = grind (arith, nat_tests)
taken_here log above view (Some old) e = grind (arith, nat_tests)

taken_passed : (log : List Entry) (above view other : ℕ) (found : Option ℕ) → is_lesser log above found view ≡ true → IsPassed log above found other → IsPassed log above (Some view) other
taken_passed log above view other None e passed = λ lt before. passed lt
taken_passed log above view other (Some old) e passed =
    let lesser : view < old = grind (arith, nat_tests) in
    λ lt before. passed lt (omega arith)

same_entry : (log : List Entry) (k count : ℕ) (x entry : Entry) → k ≡ count → slice_get log k ≡ Some x → slice_get log count ≡ Some entry → x.view ≡ entry.view
same_entry log k count x entry e found at =
    let same : ◌≡◌ {A = Option Entry} (Some x) (Some entry) = sym found ∙ (ap (slice_get log) e ∙ at) in
    let is : x ≡ entry = cc in
    ap (λ (y : Entry). y.view) is

-- what holds of the views before holds of this one too
each_more : (P : ℕ → Type 0) (log : List Entry) (count : ℕ) (entry : Entry) → slice_get log count ≡ Some entry → P entry.view
    → ((k : ℕ) (x : Entry) → k < count → slice_get log k ≡ Some x → P x.view) → (k : ℕ) (x : Entry) → k < count + 1 → slice_get log k ≡ Some x → P x.view
each_more P log count entry at last before k x below found =
    elim (cases_lt k count) [
      | inl lt ↦ before k x lt found
      | inr le ↦ subst P (sym (same_entry log k count x entry (omega arith) found at)) last
    ]

stepped : (b : Bool) (log : List Entry) (above count : ℕ) (found : Option ℕ) (entry : Entry) → is_lesser log above found entry.view ≡ b → HasFound log above count found → slice_get log count ≡ Some entry
    → HasFound log above (count + 1) (cond b (Some entry.view) found)
stepped true log above count found entry e has at = record {
  here = (taken_above log above entry.view found e, taken_here log above entry.view found e);
  passed = each_more (IsPassed log above (Some entry.view)) log count entry at (λ lt before. absurd (omega (arith, before)))
      (λ k x lt there. taken_passed log above entry.view x.view found e (has.passed k x lt there));
}
stepped false log above count found entry e has at = record {
  here = has.here;
  passed = each_more (IsPassed log above found) log count entry at (left_out log above entry.view found e) has.passed;
}

pub found_more : (log : List Entry) (above count view : ℕ) (found lesser : Option ℕ) → count < length log → option_map (λ (e : Entry). e.view) (slice_get log (count + 1 - 1)) ≡ Some view
    → lesser ≡ lesser_here log above found view → HasFound log above count found → HasFound log above (count + 1) lesser
found_more [] above count view found lesser below seen is has = absurd (omega arith)
found_more (first ∷ rest) above count view found lesser below seen is has =
    let log : List Entry = first ∷ rest in
    let entry : Entry = get_or log count first in
    let at : slice_get log count ≡ Some entry = slice_get-get_or log count first below in
    let place : count + 1 - 1 ≡ count = omega arith in
    let there : option_map (λ (e : Entry). e.view) (slice_get log count) ≡ Some view = rw place at seen in
    let view_is : ◌≡◌ {A = Option ℕ} (Some entry.view) (Some view) = rw at at there in
    let same : entry.view ≡ view = cc in
    subst (HasFound log above (count + 1)) (sym (is ∙ ap (lesser_here log above found) (sym same)))
    (stepped (is_lesser log above found entry.view) log above count found entry refl has at)

-- ---- all were looked at

not_here : (b : Bool) → (b ≡ true → ⊥) → b ≡ false
not_here true never = absurd (never refl)
not_here false never = refl

away : (log : List Entry) (other : ℕ) → ((k : ℕ) (entry : Entry) → k < length log → slice_get log k ≡ Some entry → entry.view ≡ other → is_here log other ≡ false) → is_here log other ≡ false
away log other passed =
    not_here (is_here log other) (λ here.
    let n = named log other here in
    let gone : is_here log other ≡ false = passed n.place n.entry n.within n.at n.is in
    let both : true ≡ false = sym here ∙ gone in
    absurd cc)

pub is_next : (log : List Entry) (above : ℕ) (found : Option ℕ) → HasFound log above (length log) found → IsNextHere log above (option_map (λ view. (view, current log view)) found)
is_next log above None has =
    λ other lt. away log other (λ k entry below at is. subst (λ (v : ℕ). above < v → is_here log v ≡ false) is (has.passed k entry below at) lt)
is_next log above (Some view) has = (
  has.here.0,
  has.here.1,
  refl,
  λ other lt before. away log other (λ k entry below at is. subst (λ (v : ℕ). above < v → v < view → is_here log v ≡ false) is (has.passed k entry below at) lt before),
)
