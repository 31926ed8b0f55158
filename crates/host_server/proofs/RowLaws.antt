-- Rows of passes: split off, and merged.
use Rattle.std.proofs.Common.{◌≡◌, ◌≢◌, ◌⊎◌, inl, inr, ℕ, ◌+◌, ◌≤◌, ◌<◌, List, [], ◌∷◌, ◌++◌, All, get_or, length, set, Some, refl, sym, ap, ◌∙◌, subst, append_assoc, arith}
use Rattle.std.specs.List.{slice_get}
use Rattle.std.proofs.lemmas.Bool.{cases_eq, cases_lt}
use Rattle.std.proofs.lemmas.List.{length-append, length-set, length_push}
use Rattle.std.proofs.lemmas.Option.{same_Some, slice_get-get_or, slice_get_read, slice_get_within}
use Rattle.session_lock.specs.Numbers.{count_of}
use Rattle.session_lock.specs.Passes.{PassState}
use Rattle.reflect_server.specs.Passes.{IsFresh, Keeps}
use Rattle.reflect_server.proofs.PassLaws.{idle_merged}
use Rattle.host_server.specs.Rows.{AtAll, AtEach, HasGiven, HasKept, HasSplit, IsOf, TakesIn}
use Rattle.host_server.specs.declared.rooms.Room.{Room}
use Rattle.host_server.proofs.Places.{all_at, at_all, element_at, push_before, push_last, same_element, set_here, set_there}

-- ---- one row that is split off

-- passes were split off the lead passes before this place
pub record SplitSoFar (place : ℕ) (before now row : List PassState) : Type 0 where
  pub as_long : length before ≡ length now
  pub count : length row ≡ place
  pub each : (at : ℕ) (x y z : PassState) → slice_get before at ≡ Some x → slice_get now at ≡ Some y → slice_get row at ≡ Some z → HasSplit x y z
  pub rest : (at : ℕ) → place ≤ at → slice_get now at ≡ slice_get before at

pub split_none : (leads : List PassState) → SplitSoFar 0 leads leads []
split_none leads = record {
  as_long = refl;
  count = refl;
  each = λ at x y z a b none. absurd (cc (none));
  rest = λ at from. refl;
}

pub split_more : (place : ℕ) (before now row : List PassState) (lead new fresh : PassState) → SplitSoFar place before now row → place < length before → slice_get now place ≡ Some lead → HasSplit lead new fresh
    → SplitSoFar (place + 1) before (set now place new) (row ++ fresh ∷ [])
split_more place before now row lead new fresh so_far within here split = record {
  as_long = so_far.as_long ∙ sym (length-set now place new);
  count = length_push row fresh ∙ ap (λ (n : ℕ). n + 1) so_far.count;
  each = λ at x y z a b c. by at x y z a b c (cases_eq at place);
  rest = λ at from. set_there now place at new (λ is. omega (arith, is, from)) ∙ so_far.rest at (omega (arith, from));
}
  where
    in_now : place < length now
    in_now = let long = so_far.as_long in omega (arith, within, long)

    by : (at : ℕ) (x y z : PassState) → slice_get before at ≡ Some x → slice_get (set now place new) at ≡ Some y → slice_get (row ++ fresh ∷ []) at ≡ Some z → (at ≡ place) ⊎ (at ≢ place) → HasSplit x y z
    by at x y z a b c (inl is) =
        let lead_is : lead ≡ x = same_Some lead x (sym here ∙ (so_far.rest place (omega arith) ∙ (ap (slice_get before) (sym is) ∙ a))) in
        let new_is : new ≡ y = same_Some new y (sym (set_here now place new in_now) ∙ (ap (slice_get (set now place new)) (sym is) ∙ b)) in
        let fresh_is : fresh ≡ z = same_Some fresh z (sym (push_last row fresh) ∙ (ap (slice_get (row ++ fresh ∷ [])) (so_far.count ∙ sym is) ∙ c)) in
        subst (λ (p : PassState). HasSplit p y z) lead_is (subst (λ (p : PassState). HasSplit lead p z) new_is (subst (λ (p : PassState). HasSplit lead new p) fresh_is split))
    by at x y z a b c (inr other) =
        let long = length_push row fresh in
        let count = so_far.count in
        let below = slice_get_within (row ++ fresh ∷ []) at z c in
        let in_row : at < length row = below_other at (length row) (omega (arith, below, long)) (λ is. other (is ∙ count)) in
        so_far.each at x y z a (sym (set_there now place at new other) ∙ b) (sym (push_before row fresh at in_row) ∙ c)
      where
        below_other : (n m : ℕ) → n < m + 1 → n ≢ m → n < m
        below_other n m lt ne = elim (cases_lt n m) [ inl is ↦ is | inr le ↦ absurd (ne (omega (arith, lt, le))) ]

pub split_all_of : (leads now row : List PassState) (place count : ℕ) → place ≡ count → length leads ≡ count → SplitSoFar place leads now row → AtAll (λ _ x y z. HasSplit x y z) leads now row
split_all_of leads now row place count is long so_far = record {
  as_long = so_far.as_long;
  as_many = long ∙ (sym is ∙ sym so_far.count);
  each = λ at x y z a b c. so_far.each at x y z a b c;
}

-- ---- rows that are split off

pub given_none : (leads : List PassState) → AtEach (HasGiven 0) leads leads
given_none leads = record {
  as_long = refl;
  each = λ at x y a b. subst (HasGiven 0 x) (same_element leads at x y a b) (record { kept = refl; numbers = omega arith; spare = omega arith });
}

-- a pass that is fresh for a lead pass that has given numbers is so for what it was before
pub fresh_for : (before now fresh : PassState) → now ≡ record before { spare = now.spare } → IsFresh now fresh → IsFresh before fresh
fresh_for before now fresh kept is = subst (λ (p : PassState). IsFresh p fresh) kept is

pub given_more : (count : ℕ) (leads now last row : List PassState) → AtEach (HasGiven count) leads now → AtAll (λ _ x y z. HasSplit x y z) now last row → AtEach (HasGiven (count + 1)) leads last
given_more count leads now last row given split = record {
  as_long = given.as_long ∙ split.as_long;
  each = λ at x z a c.
      let mid = element_at now at (let long = given.as_long in let within = slice_get_within leads at x a in omega (arith, long, within)) in
      let pass = element_at row at (let long = given.as_long in let many = split.as_many in let within = slice_get_within leads at x a in omega (arith, long, many, within)) in
      let first = given.each at x mid.0 a mid.1 in
      let then = split.each at mid.0 z pass.0 mid.1 c pass.1 in
      let counted = first.numbers in let spared = first.spare in let numbers = then.numbers in let spare = then.spare in
      record {
        kept = then.kept ∙ ap (λ (p : PassState). record p { spare = z.spare }) first.kept;
        numbers = omega (arith, counted, numbers);
        spare = omega (arith, spared, spare);
      };
}

pub row_fresh : (count : ℕ) (leads now last row : List PassState) → AtEach (HasGiven count) leads now → AtAll (λ _ x y z. HasSplit x y z) now last row → AtEach IsFresh leads row
row_fresh count leads now last row given split = record {
  as_long = given.as_long ∙ split.as_many;
  each = λ at x z a c.
      let within = slice_get_within leads at x a in
      let mid = element_at now at (let long = given.as_long in omega (arith, long, within)) in
      let after = element_at last at (let long = given.as_long in let more = split.as_long in omega (arith, long, more, within)) in
      fresh_for x mid.0 z (given.each at x mid.0 a mid.1).kept (split.each at mid.0 after.0 z mid.1 after.1 c).is_fresh;
}

pub given_of : {K : Type 0} (rooms : List (Room K)) (count : ℕ) (leads now : List PassState) → AtEach IsOf rooms leads → AtEach (HasGiven count) leads now → AtEach IsOf rooms now
given_of rooms count leads now of given = record {
  as_long = of.as_long ∙ given.as_long;
  each = λ at room y in_rooms b.
      let within = slice_get_within rooms at room in_rooms in
      let lead = element_at leads at (let long = of.as_long in omega (arith, long, within)) in
      ap (λ (p : PassState). p.session) (given.each at lead.0 y lead.1 b).kept ∙ of.each at room lead.0 in_rooms lead.1;
}

pub given_enough : (count all : ℕ) (leads now : List PassState) → count < all → All (λ lead. all ≤ count_of lead.spare) leads → AtEach (HasGiven count) leads now → All (λ lead. 1 ≤ count_of lead.spare) now
given_enough count all leads now some enough given =
    at_all (λ (p : PassState). 1 ≤ count_of p.spare) now
    (λ at y b.
    let within = slice_get_within now at y b in
    let lead = element_at leads at (let long = given.as_long in omega (arith, long, within)) in
    let had = all_at (λ (p : PassState). all ≤ count_of p.spare) leads at lead.0 enough lead.1 in
    let spare = (given.each at lead.0 y lead.1 b).spare in
    omega (arith, had, spare, some))

-- ---- a row that is merged

-- the passes from here on were merged into the lead passes
pub record MergedSoFar (left row before now : List PassState) : Type 0 where
  pub as_long : length before ≡ length now
  pub rest : List PassState
  pub front : row ≡ left ++ rest
  pub each : (at : ℕ) (x y z : PassState) → length left ≤ at → slice_get before at ≡ Some x → slice_get row at ≡ Some y → slice_get now at ≡ Some z → TakesIn x y z
  pub still : (at : ℕ) → at < length left → slice_get now at ≡ slice_get before at

pub merged_none : (row leads : List PassState) → length leads ≡ length row → MergedSoFar row row leads leads
merged_none row leads long = record {
  as_long = refl;
  rest = [];
  front = sym (nothing_after row);
  each = λ at x y z past a b c. absurd (let within = slice_get_within row at y b in omega (arith, past, within));
  still = λ at below. refl;
}
  where
    nothing_after : (xs : List PassState) → xs ++ [] ≡ xs
    nothing_after [] = refl
    nothing_after (x ∷ xs) = ap (λ (l : List PassState). x ∷ l) (nothing_after xs)

pub merged_more : (left next row before now : List PassState) (lead pass new : PassState) → left ≡ next ++ pass ∷ [] → MergedSoFar left row before now → length next < length now → slice_get now (length next) ≡ Some lead
    → TakesIn lead pass new → MergedSoFar next row before (set now (length next) new)
merged_more left next row before now lead pass new is so_far within here takes = record {
  as_long = so_far.as_long ∙ sym (length-set now (length next) new);
  rest = pass ∷ so_far.rest;
  front = row_is;
  each = λ at x y z past a b c. by at x y z past a b c (cases_eq at (length next));
  still = λ at below. set_there now (length next) at new (λ same. omega (arith, same, below)) ∙ so_far.still at (omega (arith, below, long));
}
  where
    long : length left ≡ length next + 1
    long = ap length is ∙ length_push next pass

    row_is : row ≡ next ++ pass ∷ so_far.rest
    row_is = so_far.front ∙ (ap (λ (l : List PassState). l ++ so_far.rest) is ∙ append_assoc next (pass ∷ []) so_far.rest)

    in_row : (xs : List PassState) → slice_get (xs ++ pass ∷ so_far.rest) (length xs) ≡ Some pass
    in_row [] = refl
    in_row (x ∷ xs) = in_row xs

    by : (at : ℕ) (x y z : PassState) → length next ≤ at → slice_get before at ≡ Some x → slice_get row at ≡ Some y → slice_get (set now (length next) new) at ≡ Some z → (at ≡ length next) ⊎ (at ≢ length next)
        → TakesIn x y z
    by at x y z past a b c (inl same) =
        let lead_is : lead ≡ x = same_Some lead x (sym here ∙ (so_far.still (length next) (omega (arith, long)) ∙ (ap (slice_get before) (sym same) ∙ a))) in
        let pass_is : pass ≡ y = same_Some pass y (sym (in_row next) ∙ (ap (λ (l : List PassState). slice_get l (length next)) (sym row_is) ∙ (ap (slice_get row) (sym same) ∙ b))) in
        let new_is : new ≡ z = same_Some new z (sym (set_here now (length next) new within) ∙ (ap (slice_get (set now (length next) new)) (sym same) ∙ c)) in
        subst (λ (p : PassState). TakesIn p y z) lead_is (subst (λ (p : PassState). TakesIn lead p z) pass_is (subst (λ (p : PassState). TakesIn lead pass p) new_is takes))
    by at x y z past a b c (inr other) =
        so_far.each at x y z (further at (length next) (length left) past other long) a b (sym (set_there now (length next) at new other) ∙ c)
      where
        further : (n m l : ℕ) → m ≤ n → n ≢ m → l ≡ m + 1 → l ≤ n
        further n m l le ne is_next = elim (cases_lt m n) [ inl lt ↦ omega (arith, lt, is_next) | inr back ↦ absurd (ne (omega (arith, le, back))) ]

pub merged_all : (left row before now : List PassState) → left ≡ [] → length before ≡ length row → MergedSoFar left row before now → AtAll (λ _ x y z. TakesIn x y z) before row now
merged_all left row before now none long so_far = record {
  as_long = long;
  as_many = so_far.as_long;
  each = λ at x y z a b c. so_far.each at x y z (let empty : length left ≡ 0 = ap length none in omega (arith, empty)) a b c;
}

-- ---- rows that are merged

pub kept_none : (leads : List PassState) → All (λ lead. Keeps lead lead) leads → AtEach (HasKept 0) leads leads
kept_none leads kept = record {
  as_long = refl;
  each = λ at x y a b. subst (HasKept 0 x) (same_element leads at x y a b) (record { keeps = all_at (λ (p : PassState). Keeps p p) leads at x kept a; numbers = omega arith });
}

pub kept_more : (count : ℕ) (leads now row last : List PassState) → AtEach (HasKept count) leads now → AtEach IsFresh leads row → AtAll (λ _ x y z. TakesIn x y z) now row last → AtEach (HasKept (count + 1)) leads last
kept_more count leads now row last kept fresh takes = record {
  as_long = kept.as_long ∙ takes.as_many;
  each = λ at x z a c.
      let within = slice_get_within leads at x a in
      let mid = element_at now at (let long = kept.as_long in omega (arith, long, within)) in
      let pass = element_at row at (let long = fresh.as_long in omega (arith, long, within)) in
      let had = kept.each at x mid.0 a mid.1 in
      let idle = fresh.each at x pass.0 a pass.1 in
      let took = takes.each at mid.0 pass.0 z mid.1 pass.1 c in
      let numbers = had.numbers in let one = idle.numbers in let more = took.numbers in
      record {
        keeps = idle_merged x mid.0 pass.0 z had.keeps idle took.merged;
        numbers = omega (arith, numbers, one, more);
      };
}

pub kept_of : {K : Type 0} (rooms : List (Room K)) (count : ℕ) (leads now : List PassState) → AtEach IsOf rooms leads → AtEach (HasKept count) leads now → AtEach IsOf rooms now
kept_of rooms count leads now of kept = record {
  as_long = of.as_long ∙ kept.as_long;
  each = λ at room y in_rooms b.
      let within = slice_get_within rooms at room in_rooms in
      let lead = element_at leads at (let long = of.as_long in omega (arith, long, within)) in
      (kept.each at lead.0 y lead.1 b).keeps.session ∙ of.each at room lead.0 in_rooms lead.1;
}

pub fresh_of : {K : Type 0} (rooms : List (Room K)) (leads row : List PassState) → AtEach IsOf rooms leads → AtEach IsFresh leads row → AtEach IsOf rooms row
fresh_of rooms leads row of fresh = record {
  as_long = of.as_long ∙ fresh.as_long;
  each = λ at room y in_rooms b.
      let within = slice_get_within rooms at room in_rooms in
      let lead = element_at leads at (let long = of.as_long in omega (arith, long, within)) in
      (fresh.each at lead.0 y lead.1 b).session ∙ of.each at room lead.0 in_rooms lead.1;
}

-- ---- a row that is merged, by what is read at a place

pub within_left : (left row before now : List PassState) → length before ≡ length row → MergedSoFar left row before now → length left ≤ length now
within_left left row before now long so_far =
    let all : length row ≡ length left + length so_far.rest = ap length so_far.front ∙ length-append left so_far.rest in
    let same = so_far.as_long in
    omega (arith, all, same, long)

pub merged_at : (left next row before now : List PassState) (place : ℕ) (d pass new : PassState) → place ≡ length next → left ≡ next ++ pass ∷ [] → length before ≡ length row → MergedSoFar left row before now
    → TakesIn (get_or now place d) pass new → MergedSoFar next row before (set now place new)
merged_at left next row before now place d pass new at is long so_far takes =
    let fits = within_left left row before now long so_far in
    let one = ap length is ∙ length_push next pass in
    let within : length next < length now = omega (arith, fits, one) in
    subst (λ (n : ℕ). MergedSoFar next row before (set now n new)) (sym at)
    (merged_more left next row before now (get_or now (length next) d) pass new is so_far within (slice_get-get_or now (length next) d within)
    (subst (λ (n : ℕ). TakesIn (get_or now n d) pass new) at takes))

-- the lead pass that is next is of its room
pub lead_of : {K : Type 0} (rooms : List (Room K)) (left next row before now : List PassState) (place : ℕ) (room : Room K) (d pass : PassState) → place ≡ length next → left ≡ next ++ pass ∷ [] → length before ≡ length row
    → AtEach IsOf rooms before → MergedSoFar left row before now → room ≡ get_or rooms place room → IsOf room (get_or now place d)
lead_of rooms left next row before now place room d pass at is long of so_far room_is =
    let fits = within_left left row before now long so_far in
    let one = ap length is ∙ length_push next pass in
    let same = so_far.as_long in
    let many = of.as_long in
    let within : place < length now = omega (arith, fits, one, at) in
    let in_rooms : slice_get rooms place ≡ Some room = slice_get_read rooms (length rooms) place room refl (omega (arith, within, same, many)) room_is in
    of.each place room (get_or now place d) in_rooms (sym (so_far.still place (omega (arith, one, at))) ∙ slice_get-get_or now place d within)

-- and so is the pass that is merged
pub other_of : {K : Type 0} (rooms : List (Room K)) (left next row before now : List PassState) (place : ℕ) (room : Room K) (pass : PassState) → place ≡ length next → left ≡ next ++ pass ∷ []
    → AtEach IsOf rooms row → MergedSoFar left row before now → room ≡ get_or rooms place room → IsOf room pass
other_of rooms left next row before now place room pass at is of so_far room_is =
    let row_is : row ≡ next ++ pass ∷ so_far.rest = so_far.front ∙ (ap (λ (l : List PassState). l ++ so_far.rest) is ∙ append_assoc next (pass ∷ []) so_far.rest) in
    let in_row : slice_get row place ≡ Some pass = ap (λ (l : List PassState). slice_get l place) row_is ∙ (ap (slice_get (next ++ pass ∷ so_far.rest)) at ∙ first_after next pass so_far.rest) in
    let within = slice_get_within row place pass in_row in
    let many = of.as_long in
    of.each place room pass (slice_get_read rooms (length rooms) place room refl (omega (arith, within, many)) room_is) in_row
  where
    first_after : (xs : List PassState) (y : PassState) (ys : List PassState) → slice_get (xs ++ y ∷ ys) (length xs) ≡ Some y
    first_after [] y ys = refl
    first_after (x ∷ xs) y ys = first_after xs y ys
