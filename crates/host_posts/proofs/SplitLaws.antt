-- Rows of passes for posts, split off the lead row.
use Rattle.std.proofs.Common.{◌≡◌, ◌≢◌, ◌⊎◌, inl, inr, ℕ, ◌+◌, ◌*◌, ◌≤◌, ◌<◌, List, [], ◌∷◌, ◌++◌, All, length, set, Some, refl, sym, ap, ◌∙◌, subst, arith}
use Rattle.std.specs.List.{slice_get}
use Rattle.std.proofs.lemmas.Bool.{cases_eq, cases_lt}
use Rattle.std.proofs.lemmas.List.{length-set, length_push}
use Rattle.std.proofs.lemmas.Option.{same_Some, slice_get_within}
use Rattle.session_lock.specs.Numbers.{count_of, first_of_ranges, take_numbers}
use Rattle.session_lock.specs.declared.knowledge.Range.{Range}
use Rattle.session_lock.specs.History.{calls_of}
use Rattle.session_lock.specs.Passes.{Given, PassState}
use Rattle.reflect_server.proofs.PassLaws.{one_caller}
use Rattle.std.proofs.lemmas.List.{append-nil}
use Rattle.host_server.specs.Rows.{AtAll, AtEach, HasGiven}
use Rattle.host_server.proofs.Places.{all_at, at_all, element_at, push_before, push_last, set_here, set_there}
use Rattle.host_posts.specs.Passes.{HasSplitPost, IsPostPass}
use Rattle.host_posts.specs.Posts.{most_links, post_numbers}

-- ---- one pass that is split off

pub kept_but_spare : (before now : PassState) (spare : List Range) → now ≡ record before { spare = spare } → now ≡ record before { spare = now.spare }
kept_but_spare before now spare is = is ∙ ap (λ (r : List Range). record before { spare = r }) (sym (ap (λ (p : PassState). p.spare) is))

pub post_pass : (before pass : PassState) → Given before post_numbers pass → count_of pass.spare ≡ most_links → IsPostPass before pass
post_pass before pass given spare =
    let callers : pass.callers ≡ first_of_ranges (take_numbers post_numbers before.spare) ∷ [] = ap (λ (q : PassState). q.callers) given.same in
    record {
      session = ap (λ (q : PassState). q.session) given.same;
      opening = ap (λ (q : PassState). q.opening) given.same;
      one = one_caller pass (first_of_ranges (take_numbers post_numbers before.spare)) callers;
      calls = subst (λ (l : List ℕ). calls_of l pass.seen ≡ []) (one_caller pass (first_of_ranges (take_numbers post_numbers before.spare)) callers) given.own;
      spare = spare;
      rest = [];
      begins = append-nil before.seen ∙ sym (ap (λ (q : PassState). q.seen) given.same);
    }

-- ---- one row that is split off

-- passes were split off the lead passes before this place
pub record SplitSoFar (place : ℕ) (before now row : List PassState) : Type 0 where
  pub as_long : length before ≡ length now
  pub count : length row ≡ place
  pub each : (at : ℕ) (x y z : PassState) → slice_get before at ≡ Some x → slice_get now at ≡ Some y → slice_get row at ≡ Some z → HasSplitPost x y z
  pub rest : (at : ℕ) → place ≤ at → slice_get now at ≡ slice_get before at

pub split_none : (leads : List PassState) → SplitSoFar 0 leads leads []
split_none leads = record {
  as_long = refl;
  count = refl;
  each = λ at x y z a b none. absurd (cc (none));
  rest = λ at from. refl;
}

pub split_more : (place : ℕ) (before now row : List PassState) (lead new pass : PassState) → SplitSoFar place before now row → place < length before → slice_get now place ≡ Some lead → HasSplitPost lead new pass
    → SplitSoFar (place + 1) before (set now place new) (row ++ pass ∷ [])
split_more place before now row lead new pass so_far within here split = record {
  as_long = so_far.as_long ∙ sym (length-set now place new);
  count = length_push row pass ∙ ap (λ (n : ℕ). n + 1) so_far.count;
  each = λ at x y z a b c. by at x y z a b c (cases_eq at place);
  rest = λ at from. set_there now place at new (λ is. omega (arith, is, from)) ∙ so_far.rest at (omega (arith, from));
}
  where
    in_now : place < length now
    in_now = let long = so_far.as_long in omega (arith, within, long)

    by : (at : ℕ) (x y z : PassState) → slice_get before at ≡ Some x → slice_get (set now place new) at ≡ Some y → slice_get (row ++ pass ∷ []) at ≡ Some z → (at ≡ place) ⊎ (at ≢ place) → HasSplitPost x y z
    by at x y z a b c (inl is) =
        let lead_is : lead ≡ x = same_Some lead x (sym here ∙ (so_far.rest place (omega arith) ∙ (ap (slice_get before) (sym is) ∙ a))) in
        let new_is : new ≡ y = same_Some new y (sym (set_here now place new in_now) ∙ (ap (slice_get (set now place new)) (sym is) ∙ b)) in
        let pass_is : pass ≡ z = same_Some pass z (sym (push_last row pass) ∙ (ap (slice_get (row ++ pass ∷ [])) (so_far.count ∙ sym is) ∙ c)) in
        subst (λ (p : PassState). HasSplitPost p y z) lead_is (subst (λ (p : PassState). HasSplitPost lead p z) new_is (subst (λ (p : PassState). HasSplitPost lead new p) pass_is split))
    by at x y z a b c (inr other) =
        let long = length_push row pass in
        let count = so_far.count in
        let below = slice_get_within (row ++ pass ∷ []) at z c in
        let in_row : at < length row = below_other at (length row) (omega (arith, below, long)) (λ is. other (is ∙ count)) in
        so_far.each at x y z a (sym (set_there now place at new other) ∙ b) (sym (push_before row pass at in_row) ∙ c)
      where
        below_other : (n m : ℕ) → n < m + 1 → n ≢ m → n < m
        below_other n m lt ne = elim (cases_lt n m) [ inl is ↦ is | inr le ↦ absurd (ne (omega (arith, lt, le))) ]

pub split_all_of : (leads now row : List PassState) (place count : ℕ) → place ≡ count → length leads ≡ count → SplitSoFar place leads now row → AtAll (λ _ x y z. HasSplitPost x y z) leads now row
split_all_of leads now row place count is long so_far = record {
  as_long = so_far.as_long;
  as_many = long ∙ (sym is ∙ sym so_far.count);
  each = λ at x y z a b c. so_far.each at x y z a b c;
}

-- ---- rows that are split off

-- a pass that was split off for a post is so of what the lead pass was before
pub post_for : (before now pass : PassState) → now ≡ record before { spare = now.spare } → IsPostPass now pass → IsPostPass before pass
post_for before now pass kept is = subst (λ (p : PassState). IsPostPass p pass) kept is

pub given_more : (count : ℕ) (leads now last row : List PassState) → AtEach (HasGiven (count * post_numbers)) leads now → AtAll (λ _ x y z. HasSplitPost x y z) now last row
    → AtEach (HasGiven ((count + 1) * post_numbers)) leads last
given_more count leads now last row given split = record {
  as_long = given.as_long ∙ split.as_long;
  each = λ at x z a c.
      let mid = element_at now at (let long = given.as_long in let within = slice_get_within leads at x a in omega (arith, long, within)) in
      let pass = element_at row at (let long = given.as_long in let many = split.as_many in let within = slice_get_within leads at x a in omega (arith, long, many, within)) in
      let first = given.each at x mid.0 a mid.1 in
      let then = split.each at mid.0 z pass.0 mid.1 c pass.1 in
      let counted = first.numbers in let spared = first.spare in let numbers = then.numbers in let spare = then.spare in
      record {
        kept = then.kept ∙ ap (λ (p : PassState). record p { spare = z.spare }) first.kept;
        numbers = omega (arith, counted, numbers);
        spare = omega (arith, spared, spare);
      };
}

pub row_for : (count : ℕ) (leads now last row : List PassState) → AtEach (HasGiven count) leads now → AtAll (λ _ x y z. HasSplitPost x y z) now last row → AtEach IsPostPass leads row
row_for count leads now last row given split = record {
  as_long = given.as_long ∙ split.as_many;
  each = λ at x z a c.
      let within = slice_get_within leads at x a in
      let mid = element_at now at (let long = given.as_long in omega (arith, long, within)) in
      let after = element_at last at (let long = given.as_long in let more = split.as_long in omega (arith, long, more, within)) in
      post_for x mid.0 z (given.each at x mid.0 a mid.1).kept (split.each at mid.0 after.0 z mid.1 after.1 c).is_post;
}

-- there is enough for one row more
pub given_enough : (count all : ℕ) (leads now : List PassState) → count < all → All (λ lead. all * post_numbers ≤ count_of lead.spare) leads → AtEach (HasGiven (count * post_numbers)) leads now
    → All (λ lead. post_numbers ≤ count_of lead.spare) now
given_enough count all leads now some enough given =
    at_all (λ (p : PassState). post_numbers ≤ count_of p.spare) now
    (λ at y b.
    let within = slice_get_within now at y b in
    let lead = element_at leads at (let long = given.as_long in omega (arith, long, within)) in
    let had = all_at (λ (p : PassState). all * post_numbers ≤ count_of p.spare) leads at lead.0 enough lead.1 in
    let spare = (given.each at lead.0 y lead.1 b).spare in
    omega (arith, had, spare, some))
