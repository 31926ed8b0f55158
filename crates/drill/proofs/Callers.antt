-- What each caller asks makes the whole history of a drill.
use Rattle.std.proofs.Common.{◌≡◌, ◌⊎◌, inl, inr, ℕ, zero, suc, ◌+◌, ◌*◌, ◌≤◌, ◌<◌, Bool, true, false, List, [], ◌∷◌, if◌then◌else◌, refl, sym, ap, subst, arith, ne_eqb, ⊎_elim, suc-mul, mul-le-mul}
use mathlib.Core.Logic.{dite}
use native.Mathlib.Decide.{ℕ_discrete}
use Rattle.std.specs.List.{AllByRecursion}
use Rattle.std.proofs.lemmas.Bool.{cases_lt}
use Rattle.reflector_core.specs.SessionState.{entries_used}
use Rattle.session_lock.specs.declared.knowledge.Item.{Item}
use Rattle.session_lock.specs.declared.knowledge.Item.TheVariants.{Did, Void, Unkept}
use Rattle.session_lock.specs.History.{caller_of, has, calls_of}
use Rattle.session_lock.proofs.Histories.{has_own}
use Rattle.run_steps.specs.Limits.{most_drill_events, most_drill_views}
use Rattle.drill.specs.Drilled.{IsOfDrill}
use Rattle.drill.specs.Asking.{IsAskedInDrill, IsDrillHistory, entries_used_by, most_asked, most_asked_by_all}

-- each view of the drill asks as a view may, and for few entries; nobody else calls
pub record EachAsks (gives : ℕ → Type 0) (views events : ℕ) (history : List Item) : Type 0 where
  pub each : (view : ℕ) → IsOfDrill views view → AllByRecursion (IsAskedInDrill gives views) (calls_of (view ∷ []) history)
  pub few : (view : ℕ) → IsOfDrill views view → entries_used_by (calls_of (view ∷ []) history) ≤ most_asked events
  pub others : (caller : ℕ) → (IsOfDrill views caller → ⊥) → calls_of (caller ∷ []) history ≡ []

-- a caller's items, where the first item is its own, or another's
own_first : (x : Item) (xs : List Item) → calls_of (caller_of x ∷ []) (x ∷ xs) ≡ x ∷ calls_of (caller_of x ∷ []) xs
own_first x xs = ap (λ (b : Bool). if b then x ∷ calls_of (caller_of x ∷ []) xs else calls_of (caller_of x ∷ []) xs) (has_own (caller_of x) [])

other_first : (caller : ℕ) (x : Item) (xs : List Item) → (caller_of x ≡ caller → ⊥) → calls_of (caller ∷ []) (x ∷ xs) ≡ calls_of (caller ∷ []) xs
other_first caller x xs other = rw (ne_eqb (caller_of x) caller other) refl

-- what is so of all items of a list, where a test may have put one before them
behind : (P : Item → Type 0) (b : Bool) (x : Item) (xs : List Item) → AllByRecursion P (if b then x ∷ xs else xs) → AllByRecursion P xs
behind P true x xs all = all.1
behind P false x xs all = all

-- what is so of each caller's items is so of all
all_of_each : (P : Item → Type 0) (history : List Item) → ((caller : ℕ) → AllByRecursion P (calls_of (caller ∷ []) history)) → AllByRecursion P history
all_of_each P [] each = tt
all_of_each P (x ∷ xs) each = (
  (subst (AllByRecursion P) (own_first x xs) (each (caller_of x))).0,
  all_of_each P xs (λ caller. behind P (has (caller_of x) (caller ∷ [])) x (calls_of (caller ∷ []) xs) (each caller)),
)

is_of_drill_or_not : (views view : ℕ) → IsOfDrill views view ⊎ (IsOfDrill views view → ⊥)
is_of_drill_or_not views view =
    ⊎_elim
    (λ below. inr (λ of. omega (arith, of.0, below)))
    (λ above. ⊎_elim
    (λ beyond. inr (λ of. omega (arith, of.1, beyond)))
    (λ within. inl (above, omega (arith, within)))
    (cases_lt views view))
    (cases_lt view 1)

-- how many entries an item asks for
abbrev entries_of_item : Item → ℕ
entries_of_item (Did caller request) = entries_used request
entries_of_item (Void caller) = 0
entries_of_item (Unkept caller) = 0

entries_used_by-cons : (x : Item) (xs : List Item) → entries_used_by (x ∷ xs) ≡ entries_of_item x + entries_used_by xs
entries_used_by-cons (Did caller request) xs = omega arith
entries_used_by-cons (Void caller) xs = omega arith
entries_used_by-cons (Unkept caller) xs = omega arith

-- how many entries so many callers ask for, from caller 1 on
abbrev asked_by : ℕ → List Item → ℕ
asked_by zero history = 0
asked_by (suc count) history = entries_used_by (calls_of (suc count ∷ []) history) + asked_by count history

asked_by-none : (count : ℕ) → asked_by count [] ≡ 0
asked_by-none zero = refl
asked_by-none (suc count) = omega (arith, asked_by-none count)

-- an item of another caller does not count, and one of these counts once
asked_by-other : (count : ℕ) (x : Item) (xs : List Item) → count < caller_of x → asked_by count (x ∷ xs) ≡ asked_by count xs
asked_by-other zero x xs above = refl
asked_by-other (suc count) x xs above =
    let rest : asked_by count (x ∷ xs) ≡ asked_by count xs = asked_by-other count x xs (omega (arith, above)) in
    omega (arith, ap entries_used_by (other_first (suc count) x xs (λ same. omega (arith, same, above))), rest)

asked_by-own : (count : ℕ) (x : Item) (xs : List Item) → 1 ≤ caller_of x → caller_of x ≤ count → asked_by count (x ∷ xs) ≡ entries_of_item x + asked_by count xs
asked_by-own zero x xs low high = absurd (omega (arith, low, high))
asked_by-own (suc count) x xs low high =
    dite (ℕ_discrete (caller_of x) (suc count))
    (λ same. let first : calls_of (suc count ∷ []) (x ∷ xs) ≡ x ∷ calls_of (suc count ∷ []) xs = subst (λ (n : ℕ). calls_of (n ∷ []) (x ∷ xs) ≡ x ∷ calls_of (n ∷ []) xs) same (own_first x xs) in
    omega (arith, ap entries_used_by first, entries_used_by-cons x (calls_of (suc count ∷ []) xs), asked_by-other count x xs (omega (arith, same))))
    (λ other. omega (arith, ap entries_used_by (other_first (suc count) x xs other), asked_by-own count x xs low (omega (arith, high, other))))

-- where all items are of these callers, they ask for all entries
all_asked : (count : ℕ) (history : List Item) → AllByRecursion (λ x. IsOfDrill count (caller_of x)) history → entries_used_by history ≡ asked_by count history
all_asked count [] of_drill = sym (asked_by-none count)
all_asked count (x ∷ xs) of_drill =
    omega (arith, entries_used_by-cons x xs, asked_by-own count x xs of_drill.0.0 of_drill.0.1, all_asked count xs of_drill.1)

-- each of these callers asks for few entries, and so do all
all_few : (count most : ℕ) (history : List Item) → ((view : ℕ) → IsOfDrill count view → entries_used_by (calls_of (view ∷ []) history) ≤ most) → asked_by count history ≤ count * most
all_few zero most history each = omega arith
all_few (suc count) most history each =
    let rest : asked_by count history ≤ count * most = all_few count most history (λ view of. each view (of.0, omega (arith, of.1))) in
    let product : suc count * most ≡ count * most + most = suc-mul count most in
    omega (arith, rest, product, each (suc count) (omega arith, omega arith))

-- the items of a caller are the caller's
own_items : (caller : ℕ) (history : List Item) → AllByRecursion (λ x. caller_of x ≡ caller) (calls_of (caller ∷ []) history)
own_items caller [] = tt
own_items caller (x ∷ xs) =
    dite (ℕ_discrete (caller_of x) caller)
    (λ same. subst (AllByRecursion (λ y. caller_of y ≡ caller)) (sym (subst (λ (n : ℕ). calls_of (n ∷ []) (x ∷ xs) ≡ x ∷ calls_of (n ∷ []) xs) same (own_first x xs))) (same, own_items caller xs))
    (λ other. subst (AllByRecursion (λ y. caller_of y ≡ caller)) (sym (other_first caller x xs other)) (own_items caller xs))

weaker : (P Q : Item → Type 0) → ((x : Item) → P x → Q x) → (xs : List Item) → AllByRecursion P xs → AllByRecursion Q xs
weaker P Q more [] all = tt
weaker P Q more (x ∷ xs) all = (more x all.0, weaker P Q more xs all.1)

-- what is so of the items of each view of the drill is so of all
module _ (gives : ℕ → Type 0) (views events : ℕ) (history : List Item) (asks : EachAsks gives views events history) where
  all_of_views : (P : Item → Type 0) → ((view : ℕ) → IsOfDrill views view → AllByRecursion P (calls_of (view ∷ []) history)) → AllByRecursion P history
  all_of_views P each = all_of_each P history (λ caller. ⊎_elim
      (λ of. each caller of)
      (λ other. subst (AllByRecursion P) (sym (asks.others caller other)) tt)
      (is_of_drill_or_not views caller))

  named : AllByRecursion (λ x. IsOfDrill views (caller_of x)) history
  named = all_of_views (λ x. IsOfDrill views (caller_of x)) (λ view of.
      weaker (λ x. caller_of x ≡ view) (λ x. IsOfDrill views (caller_of x)) (λ x same. subst (IsOfDrill views) (sym same) of) (calls_of (view ∷ []) history) (own_items view history))

  few_asked : views ≤ most_drill_views → events ≤ most_drill_events → entries_used_by history ≤ most_asked_by_all
  few_asked few_views few_events =
      let product : views * most_asked events ≤ most_drill_views * 30002 = mul-le-mul few_views (let each : most_asked events ≤ 30002 = omega (arith, few_events) in each) in
      omega (arith, all_asked views history named, all_few views (most_asked events) history asks.few, product)

-- so the whole history is that of a drill
pub drill_history : (gives : ℕ → Type 0) (views events : ℕ) (history : List Item) → views ≤ most_drill_views → events ≤ most_drill_events → EachAsks gives views events history → IsDrillHistory gives views history
drill_history gives views events history few_views few_events asks =
    record {
      asked = all_of_views gives views events history asks (IsAskedInDrill gives views) asks.each;
      few = few_asked gives views events history asks few_views few_events;
    }
