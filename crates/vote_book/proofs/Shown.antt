-- What verdicts and counted votes show.
use Rattle.std.proofs.Common.{ℕ, ◌<◌, ◌≡◌, Bool, true, false, cond, ◌||◌, ◌&&◌, not, zero, suc, get_or, fold, List, [], ◌∷◌, ◌++◌, Option, Some, None, is_some, length, refl, sym, ap, subst, ◌∙◌, true≢false, eqb, arith}
use Rattle.std.specs.Prelude.{Contains}
use Rattle.std.specs.Cmp.{IsEquivalence}
use Rattle.std.specs.List.{AllByRecursion, All, find, list_any, IsDistinct}
use Rattle.std.specs.Option.{option_map, option_or}
use Rattle.std.proofs.lemmas.Bool.{eqb-true}
use Rattle.std.proofs.lemmas.Cmp.{nat_eq_equiv}
use Rattle.std.proofs.lemmas.List.Elements.{All-from_recursion, Contains-get_or, Contains-append_right}
use Rattle.std.proofs.lemmas.List.Folds.{find-append}
use Rattle.std.proofs.lemmas.Map.Keys.{IsDistinct-push}
use Rattle.std.proofs.lemmas.Slice.Eq.{bytes_eq-Decides}
use Rattle.vote_book.specs.VoteBook.{Ballot, agrees_with, first_other, split_of, book_after}
use Rattle.vote_book.specs.Laws.{AllAgree, TwoDiffer, SplitShows, is_again, CountOnce}

-- ---- what is found

module _ {X : Type 0} (p : X → Bool) where
  first_has : (x : X) (xs : List X) → Contains (x ∷ xs) x
  first_has x xs = Contains-get_or (x ∷ xs) 0 x (omega arith)

  rest_has : (y : X) (xs : List X) (x : X) → Contains xs x → Contains (y ∷ xs) x
  rest_has y xs x has = Contains-append_right (y ∷ []) xs x has

  found_if : (b : Bool) (y : X) (xs : List X) (x : X) → p y ≡ b → (find p xs ≡ Some x → Contains xs x × (p x ≡ true)) → cond b (Some y) (find p xs) ≡ Some x → Contains (y ∷ xs) x × (p x ≡ true)
  found_if true y xs x passes rest is = let same : y ≡ x = cc in (subst (Contains (y ∷ xs)) same (first_has y xs), ap p (sym same) ∙ passes)
  found_if false y xs x passes rest is = let later = rest is in (rest_has y xs x later.0, later.1)

  -- what is found is there, and passes
  pub found : (xs : List X) (x : X) → find p xs ≡ Some x → Contains xs x × (p x ≡ true)
  found [] x is = cc
  found (y ∷ xs) x is = found_if (p y) y xs x refl (found xs x) is

  missed_if : (b : Bool) (y : X) (xs : List X) → p y ≡ b → (find p xs ≡ None → AllByRecursion (λ (x : X). p x ≡ false) xs) → cond b (Some y) (find p xs) ≡ None → AllByRecursion (λ (x : X). p x ≡ false) (y ∷ xs)
  missed_if true y xs passes rest is = cc
  missed_if false y xs passes rest is = (passes, rest is)

  -- where nothing is found, nothing passes
  pub missed : (xs : List X) → find p xs ≡ None → AllByRecursion (λ (x : X). p x ≡ false) xs
  missed [] is = tt
  missed (y ∷ xs) is = missed_if (p y) y xs refl (missed xs) is

  any_if : (b : Bool) (y : X) (xs : List X) → list_any p xs ≡ is_some (find p xs) → (b || list_any p xs) ≡ is_some (cond b (Some y) (find p xs))
  any_if true y xs is = refl
  any_if false y xs is = is

  pub any-find : (xs : List X) → list_any p xs ≡ is_some (find p xs)
  any-find [] = refl
  any-find (y ∷ xs) = any_if (p y) y xs (any-find xs)

both_true : (a b : Bool) → a ≡ true → b ≡ true → (a && b) ≡ true
both_true true b p q = q
both_true false b p q = cc

both_of : (a b : Bool) → (a && b) ≡ true → (a ≡ true) × (b ≡ true)
both_of true b both = (refl, both)
both_of false b both = cc

first_stays : (first other : Option Ballot) → is_some first ≡ true → is_some (option_or first other) ≡ true
first_stays None other has = cc
first_stays (Some vote) other has = refl

last_comes : (first : Option Ballot) (vote : Ballot) (passes : Bool) → passes ≡ true → is_some (option_or first (cond passes (Some vote) None)) ≡ true
last_comes None vote true is = refl
last_comes (Some first) vote true is = refl
last_comes first vote false is = cc

IsDistinct-none : {K : Type 0} (eq : K → K → Bool) → IsDistinct eq []
unfolding IsDistinct
IsDistinct-none eq = tt

-- ---- splits

not_true : (b : Bool) → not b ≡ false → b ≡ true
not_true true is = refl
not_true false is = cc

not_false : (b : Bool) → not b ≡ true → b ≡ false
not_false true is = cc
not_false false is = refl

module _ (first : Ballot) where
  same_as_first : (votes : List Ballot) → AllByRecursion (λ (v : Ballot). not (agrees_with first v) ≡ false) votes → AllByRecursion (λ (v : Ballot). first.digest ≡ v.digest) votes
  same_as_first [] all = tt
  same_as_first (vote ∷ votes) all = ((bytes_eq-Decides first.digest vote.digest).0 (not_true (agrees_with first vote) all.0), same_as_first votes all.1)

  pairs_agree : (votes : List Ballot) → All (λ (v : Ballot). first.digest ≡ v.digest) votes → AllAgree votes
  pairs_agree votes all = λ i j d lt within. sym (all i d (omega arith)) ∙ all j d within

  agree : (rest : List Ballot) → first_other first rest ≡ None → AllAgree (first ∷ rest)
  agree rest none =
      pairs_agree (first ∷ rest) (All-from_recursion (λ (v : Ballot). first.digest ≡ v.digest) (first ∷ rest) (refl, same_as_first rest (missed (λ (v : Ballot). not (agrees_with first v)) rest none)))

  differ : (rest : List Ballot) (other : Ballot) → first_other first rest ≡ Some other → TwoDiffer (first ∷ rest) first.entry other.entry
  differ rest other is =
      let there = found (λ (v : Ballot). not (agrees_with first v)) rest other is in
      record {
        vote = first;
        other = other;
        has_vote = Contains-get_or (first ∷ rest) 0 first (omega arith);
        has_other = Contains-append_right (first ∷ []) rest other there.0;
        is_entry = refl;
        is_other_entry = refl;
        differ = λ same. true≢false (sym ((bytes_eq-Decides first.digest other.digest).1 same) ∙ not_false (agrees_with first other) there.1);
      }

shown_by : (first : Ballot) (rest : List Ballot) (other : Option Ballot) → first_other first rest ≡ other
    → SplitShows (first ∷ rest) (option_map {U = ℕ × ℕ} (λ (v : Ballot). (first.entry, v.entry)) other)
shown_by first rest None is = agree first rest is
shown_by first rest (Some other) is = differ first rest other is

pub shown : (votes : List Ballot) → SplitShows votes (split_of votes)
shown [] = λ i j d lt within. absurd (omega arith)
shown (first ∷ rest) = shown_by first rest (first_other first rest) refl

-- ---- votes that count

again-equiv : IsEquivalence is_again
again-equiv = record {
  refl = λ v. both_true (eqb v.at v.at) (eqb v.view v.view) (nat_eq_equiv.refl v.at) (nat_eq_equiv.refl v.view);
  symm = λ v w. ap (λ (b : Bool). b && eqb w.view v.view) (nat_eq_equiv.symm w.at v.at) ∙ ap (λ (b : Bool). eqb v.at w.at && b) (nat_eq_equiv.symm w.view v.view);
  congr = λ v w u same.
      let one = both_of (eqb w.at v.at) (eqb w.view v.view) same in
      ap (λ (n : ℕ). eqb u.at n && eqb u.view v.view) (sym (eqb-true w.at v.at one.0)) ∙ ap (λ (n : ℕ). eqb u.at w.at && eqb u.view n) (sym (eqb-true w.view v.view one.1));
}

apart_if : (vote : Ballot) (votes : List Ballot) (there : Bool) → is_some (find (is_again vote) votes) ≡ there → IsDistinct is_again votes → IsDistinct is_again (cond there votes (votes ++ vote ∷ []))
apart_if vote votes true is apart = apart
apart_if vote votes false is apart = IsDistinct-push again-equiv votes vote apart (any-find (is_again vote) votes ∙ is)

apart_after : (votes : List Ballot) (done : List Ballot) → IsDistinct is_again done → IsDistinct is_again (fold book_after done votes)
apart_after [] done apart = apart
apart_after (vote ∷ votes) done apart = apart_after votes (book_after done vote) (apart_if vote done (is_some (find (is_again vote) done)) refl apart)

-- what is there stays, and a vote is there once it is counted
stays_if : (p : Ballot → Bool) (vote : Ballot) (votes : List Ballot) (there : Bool) → is_some (find p votes) ≡ true → is_some (find p (cond there votes (votes ++ vote ∷ []))) ≡ true
stays_if p vote votes true has = has
stays_if p vote votes false has = ap is_some (find-append p votes (vote ∷ [])) ∙ first_stays (find p votes) (find p (vote ∷ [])) has

stays_after : (p : Ballot → Bool) (votes : List Ballot) (done : List Ballot) → is_some (find p done) ≡ true → is_some (find p (fold book_after done votes)) ≡ true
stays_after p [] done has = has
stays_after p (vote ∷ votes) done has = stays_after p votes (book_after done vote) (stays_if p vote done (is_some (find (is_again vote) done)) has)

comes_if : (vote : Ballot) (votes : List Ballot) (there : Bool) → is_some (find (is_again vote) votes) ≡ there → is_some (find (is_again vote) (cond there votes (votes ++ vote ∷ []))) ≡ true
comes_if vote votes true is = is
comes_if vote votes false is =
    ap is_some (find-append (is_again vote) votes (vote ∷ []))
    ∙ last_comes (find (is_again vote) votes) vote (is_again vote vote) (again-equiv.refl vote)

comes_after : (votes : List Ballot) (done : List Ballot) (vote : Ballot) (k : ℕ) → k < length votes → get_or votes k vote ≡ vote → is_some (find (is_again vote) (fold book_after done votes)) ≡ true
comes_after [] done vote k lt is = absurd (omega arith)
comes_after (first ∷ rest) done vote zero lt is =
    subst (λ (v : Ballot). is_some (find (is_again v) (fold book_after (book_after done first) rest)) ≡ true) is
    (stays_after (is_again first) rest (book_after done first) (comes_if first done (is_some (find (is_again first) done)) refl))
comes_after (first ∷ rest) done vote (suc k) lt is = comes_after rest (book_after done first) vote k (omega arith) is

pub count_once : (votes : List Ballot) → CountOnce votes
count_once votes = record {
  each = λ vote has. comes_after votes [] vote has.0 has.1 has.2;
  once = apart_after votes [] (IsDistinct-none is_again);
}
