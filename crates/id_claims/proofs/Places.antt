-- Places of ids in a list that grows.
use Rattle.std.proofs.Common.{◌≡◌, ◌⊎◌, inl, inr, ℕ, suc, ◌+◌, ◌-◌, ◌<◌, ◌≤◌, ◌≢◌, Bool, true, false, cond, not, List, [], ◌∷◌, ◌++◌, drop, length, Option, Some, None, sym, refl, ap, ◌∙◌, subst, arith, append_assoc, length-append}
use Rattle.std.specs.Prelude.{nat_lt}
use Rattle.std.specs.List.{prefix_len}
use Rattle.std.proofs.lemmas.Bool.Decides.{nat_tests}
use Rattle.std.proofs.lemmas.List.{append-nil}
use Rattle.std.proofs.lemmas.List.Prefix.{front_rest}
use Rattle.std.proofs.lemmas.Slice.Eq.{bytes_eq-Decides}
use Rattle.tea_base.specs.declared.entry.SessionId.{SessionId}
use Rattle.id_claims.specs.Ids.{AreNew, Begins, HasPlace, TakesNew, is_id, most_ids, place_of}

pub begins_all : (ids : List SessionId) → Begins ids ids
begins_all ids = ([], append-nil ids)

pub begins_more : (first ids more after : List SessionId) → Begins first ids → ids ++ more ≡ after → Begins first after
begins_more first ids more after b e = (b.0 ++ more, sym (append_assoc first b.0 more) ∙ (ap (λ (l : List SessionId). l ++ more) b.1 ∙ e))

begins_none : (first : List SessionId) → Begins first [] → first ≡ []
begins_none [] b = refl
begins_none (x ∷ xs) (rest, e) = let long : length (x ∷ xs ++ rest) ≡ 0 = ap length e in absurd (omega (arith, long))

-- who has merged nothing and has seen the whole list has seen it itself
pub saw_whole : (ids seen also : List SessionId) → Begins seen ids → also ≡ [] → (seen ≡ ids) ⊎ (also ≡ ids) → seen ≡ ids
saw_whole ids seen also b none (inl is) = is
saw_whole ids seen also b none (inr is) = let e : ids ≡ [] = sym is ∙ none in begins_none seen (subst (Begins seen) e b) ∙ sym e

-- what was taken is behind the list
pub takes_more : (before after : List SessionId) (id : SessionId) → TakesNew before id after → (more : List SessionId) × (before ++ more ≡ after)
takes_more before after id (inl same) = ([], append-nil before ∙ sym same)
takes_more before after id (inr (more, new)) = (id ∷ [], sym more)

-- what is behind the list was taken
pub taken_behind : (before after : List SessionId) (id : SessionId) → TakesNew before id after → (drop (length before) after ≡ []) ⊎ (drop (length before) after ≡ id ∷ [])
taken_behind before after id (inl same) = inl (front_rest after before [] (same ∙ sym (append-nil before)))
taken_behind before after id (inr (more, new)) = inr (front_rest after before (id ∷ []) more)

pub new_more : (first later : List SessionId) (id : SessionId) → AreNew first later → place_of (first ++ later) id ≡ None → AreNew first (later ++ id ∷ [])
new_more first [] id new none = (ap (λ (l : List SessionId). place_of l id) (sym (append-nil first)) ∙ none, tt)
new_more first (x ∷ xs) id new none =
    (new.0, new_more (first ++ x ∷ []) xs id new.1 (ap (λ (l : List SessionId). place_of l id) (append_assoc first (x ∷ []) xs) ∙ none))

-- how many stand before the first such id
abbrev before_it : SessionId → List SessionId → ℕ
before_it id ids = prefix_len (λ other. not (is_id id other)) ids

place-Some : (m n i : ℕ) → cond (nat_lt m n) (Some m) None ≡ Some i → (m < n) × (i ≡ m)
place-Some m n i e = grind (arith, nat_tests)

place_at : (m n i : ℕ) → m < n → i ≡ m → cond (nat_lt m n) (Some m) None ≡ Some i
place_at m n i within is = grind (arith, nat_tests)

before_step : (b : Bool) (n m k l : ℕ) → cond (not b) (1 + n) 0 < 1 + k → (n < k → m ≡ n) → cond (not b) (1 + m) 0 ≡ cond (not b) (1 + n) 0
before_step true n m k l within same = refl
before_step false n m k l within same = ap (λ (x : ℕ). 1 + x) (same (omega (arith, within)))

-- what comes behind does not move it
before_more : (id : SessionId) (ids later : List SessionId) → before_it id ids < length ids → before_it id (ids ++ later) ≡ before_it id ids
before_more id [] later within = absurd (omega arith)
before_more id (x ∷ xs) later within = before_step (is_id id x) (before_it id xs) (before_it id (xs ++ later)) (length xs) 0 (omega (arith, within)) (λ inside. before_more id xs later inside)

place_goes_on : (ids later : List SessionId) (id : SessionId) (place : ℕ) → place_of ids id ≡ Some place → place_of (ids ++ later) id ≡ Some place
place_goes_on ids later id place found =
    let at = place-Some (before_it id ids) (length ids) place found in
    let same = before_more id ids later at.0 in
    let long = length-append ids later in
    place_at (before_it id (ids ++ later)) (length (ids ++ later)) place (omega (arith, at.0, same, long)) (omega (arith, at.1, same))

place-None : (m n : ℕ) → cond (nat_lt m n) (Some m) None ≡ None → n ≤ m
place-None m n e = grind (arith, nat_tests)

none_step : (b : Bool) (n k : ℕ) → suc k ≤ cond (not b) (1 + n) 0 → (b ≡ false) × (k ≤ n)
none_step true n k many = absurd (omega (arith, many))
none_step false n k many = (refl, omega (arith, many))

last_step : (b : Bool) (n k : ℕ) → b ≡ false → n ≡ k → cond (not b) (1 + n) 0 ≡ suc k
last_step true n k is same = absurd (cc (is))
last_step false n k is same = omega (arith, same)

-- an id that was not there comes to stand behind all others
before_last : (id : SessionId) (ids : List SessionId) → length ids ≤ before_it id ids → before_it id (ids ++ id ∷ []) ≡ length ids
before_last id [] many = ap (λ (b : Bool). cond (not b) 1 0) ((bytes_eq-Decides id.0 id.0).1 refl)
before_last id (x ∷ xs) many =
    let at = none_step (is_id id x) (before_it id xs) (length xs) many in
    last_step (is_id id x) (before_it id (xs ++ id ∷ [])) (length xs) at.0 (before_last id xs at.1)

pub last_place : (before after : List SessionId) (id : SessionId) (n : ℕ) → after ≡ before ++ id ∷ [] → place_of before id ≡ None → length before ≤ most_ids → length before ≢ most_ids → n ≡ length after → HasPlace after id (Some (n - 1))
last_place before after id n is new few not_full many =
    let long : length (before ++ id ∷ []) ≡ length before + 1 = length-append before (id ∷ []) in
    let last = before_last id before (place-None (before_it id before) (length before) new) in
    let all : n ≡ length before + 1 = many ∙ (ap length is ∙ long) in
    let small : length before < most_ids = below (length before) most_ids few not_full in
    subst (λ (l : List SessionId). HasPlace l id (Some (n - 1))) (sym is) (record {
      found = sym (place_at (before_it id (before ++ id ∷ [])) (length (before ++ id ∷ [])) (n - 1) (omega (arith, last, long)) (omega (arith, last, all)));
      full = λ none. absurd (cc (none));
      few = omega (arith, long, small);
    })
  where
    below : (m n : ℕ) → m ≤ n → m ≢ n → m < n
    below m n le ne = grind (arith, le, ne)

none_more : (seen rest ids : List SessionId) → length rest ≡ 0 → seen ++ rest ≡ ids → seen ≡ ids
none_more seen [] ids none is = sym (append-nil seen) ∙ is
none_more seen (x ∷ xs) ids none is = absurd (omega (arith, none))

-- what a claim was answered stays right while the list grows
pub answer_stays : (seen ids : List SessionId) (id : SessionId) (place : Option ℕ) → HasPlace seen id place → Begins seen ids → length ids ≤ most_ids → HasPlace ids id place
answer_stays seen ids id (Some n) has (rest, is) few = record {
  found = sym (ap (λ (l : List SessionId). place_of l id) (sym is) ∙ place_goes_on seen rest id n (sym has.found));
  full = λ none. absurd (cc (none));
  few = few;
}
answer_stays seen ids id None has (rest, is) few =
    let all : length seen ≡ most_ids = has.full refl in
    let long : length seen + length rest ≡ length ids = sym (length-append seen rest) ∙ ap length is in
    subst (λ (l : List SessionId). HasPlace l id None) (none_more seen rest ids (omega (arith, all, long, few)) is) has
