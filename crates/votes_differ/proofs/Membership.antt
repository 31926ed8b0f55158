-- Where what is found, kept or counted comes from.
use Rattle.std.proofs.Common.{ℕ, zero, suc, ◌+◌, ◌≡◌, ◌⊎◌, inl, inr, Bool, true, false, cond, fold, List, [], ◌∷◌, ◌++◌, length, slice_get, Option, Some, None, is_some, refl, sym, ap, subst, ◌∙◌, length-append, arith}
use Rattle.std.specs.Prelude.{Contains}
use Rattle.std.specs.List.{cons_option, filter, find}
use Rattle.std.proofs.lemmas.List.{append_assoc}
use Rattle.std.proofs.lemmas.List.Elements.{Contains-append_cases, Contains-append_left, Contains-append_right, Contains-get_or}
use Rattle.tea_base.specs.Legal.{IsLegal, IsLegalAfter}
use Rattle.tea_base.specs.declared.entry.Entry.{Entry}
use Rattle.vote_book.specs.VoteBook.{Ballot, book_after, counted, is_by}
use Rattle.command_votes.specs.VoteRead.{vote_of, votes_of}

-- ---- lists

module _ {X : Type 0} where
  first_has : (x : X) (xs : List X) → Contains (x ∷ xs) x
  first_has x xs = Contains-get_or (x ∷ xs) 0 x (omega arith)

  pub rest_has : (y : X) (xs : List X) (x : X) → Contains xs x → Contains (y ∷ xs) x
  rest_has y xs x has = Contains-append_right (y ∷ []) xs x has

  pub none_has : (x : X) → Contains [] x → ⊥
  none_has x has = let lt = has.1 in absurd (omega arith)

  pub has_cases : (y : X) (xs : List X) (x : X) → Contains (y ∷ xs) x → (y ≡ x) ⊎ Contains xs x
  has_cases y xs x (zero, lt, is) = inl is
  has_cases y xs x (suc k, lt, is) = inr (k, omega arith, is)

  -- what is kept was there, and passes
  pub filter_if : (p : X → Bool) (b : Bool) (y : X) (xs : List X) (x : X) → p y ≡ b → (Contains (filter p xs) x → Contains xs x × (p x ≡ true)) → Contains (cond b (y ∷ filter p xs) (filter p xs)) x
      → Contains (y ∷ xs) x × (p x ≡ true)
  filter_if p true y xs x passes rest has =
      by_cases (has_cases y (filter p xs) x has)
    where
      by_cases : (y ≡ x) ⊎ Contains (filter p xs) x → Contains (y ∷ xs) x × (p x ≡ true)
      by_cases (inl same) = (subst (Contains (y ∷ xs)) same (first_has y xs), subst (λ (z : X). p z ≡ true) same passes)
      by_cases (inr later) = (rest_has y xs x (rest later).0, (rest later).1)
  filter_if p false y xs x passes rest has = (rest_has y xs x (rest has).0, (rest has).1)

  pub filtered : (p : X → Bool) (xs : List X) (x : X) → Contains (filter p xs) x → Contains xs x × (p x ≡ true)
  filtered p [] x has = absurd (none_has x has)
  filtered p (y ∷ xs) x has = filter_if p (p y) y xs x refl (filtered p xs x) has

  -- what is found is there, and passes
  found_if : (p : X → Bool) (b : Bool) (y : X) (xs : List X) (x : X) → p y ≡ b → (find p xs ≡ Some x → Contains xs x × (p x ≡ true)) → cond b (Some y) (find p xs) ≡ Some x → Contains (y ∷ xs) x × (p x ≡ true)
  found_if p true y xs x passes rest is = let same : y ≡ x = cc in (subst (Contains (y ∷ xs)) same (first_has y xs), ap p (sym same) ∙ passes)
  found_if p false y xs x passes rest is = (rest_has y xs x (rest is).0, (rest is).1)

  pub found : (p : X → Bool) (xs : List X) (x : X) → find p xs ≡ Some x → Contains xs x × (p x ≡ true)
  found p [] x is = cc
  found p (y ∷ xs) x is = found_if p (p y) y xs x refl (found p xs x) is

-- ---- votes

-- a vote that counts is one of those that came
counted_if : (there : Bool) (vote : Ballot) (done rest : List Ballot) (x : Ballot) → Contains (cond there done (done ++ vote ∷ []) ++ rest) x → Contains (done ++ vote ∷ rest) x
counted_if true vote done rest x has =
    by_cases (Contains-append_cases done rest x has)
  where
    by_cases : Contains done x ⊎ Contains rest x → Contains (done ++ vote ∷ rest) x
    by_cases (inl old) = Contains-append_left done (vote ∷ rest) x old
    by_cases (inr later) = Contains-append_right done (vote ∷ rest) x (rest_has vote rest x later)
counted_if false vote done rest x has = subst (λ (xs : List Ballot). Contains xs x) (append_assoc done (vote ∷ []) rest) has

counted_from : (votes done : List Ballot) (x : Ballot) → Contains (fold book_after done votes) x → Contains (done ++ votes) x
counted_from [] done x has = Contains-append_left done [] x has
counted_from (vote ∷ votes) done x has =
    counted_if (is_some (find (is_by vote.at vote.view) done)) vote done votes x (counted_from votes (book_after done vote) x has)

pub counted_came : (votes : List Ballot) (x : Ballot) → Contains (counted votes) x → Contains votes x
counted_came votes x has = counted_from votes [] x has

-- the entry of a log that is a vote
pub record EntryOf (log : List Entry) (vote : Ballot) : Type 0 where
  pub entry : Entry
  pub has : Contains log entry
  pub is : vote_of entry ≡ Some vote

later_entry : (first : Entry) (rest : List Entry) (x : Ballot) → EntryOf rest x → EntryOf (first ∷ rest) x
later_entry first rest x of = record { entry = of.entry; has = rest_has first rest of.entry of.has; is = of.is }

entry_if : (vote : Option Ballot) (first : Entry) (rest : List Entry) (x : Ballot) → vote_of first ≡ vote → (Contains (votes_of rest) x → EntryOf rest x) → Contains (cons_option vote (votes_of rest)) x → EntryOf (first ∷ rest) x
entry_if None first rest x is later has = later_entry first rest x (later has)
entry_if (Some vote) first rest x is later has =
    by_cases (has_cases vote (votes_of rest) x has)
  where
    by_cases : (vote ≡ x) ⊎ Contains (votes_of rest) x → EntryOf (first ∷ rest) x
    by_cases (inl same) = record { entry = first; has = first_has first rest; is = is ∙ ap Some same }
    by_cases (inr more) = later_entry first rest x (later more)

pub vote_entry : (log : List Entry) (x : Ballot) → Contains (votes_of log) x → EntryOf log x
vote_entry [] x has = absurd (none_has x has)
vote_entry (first ∷ rest) x has = entry_if (vote_of first) first rest x refl (vote_entry rest x) has

-- ---- places in a legal log

pub seq_after : (before log : List Entry) (k : ℕ) (entry : Entry) → IsLegalAfter before log → slice_get log k ≡ Some entry → entry.seq ≡ length before + k + 1
seq_after before [] k entry legal at = absurd cc
seq_after before (first ∷ rest) zero entry legal at = let same : first ≡ entry = cc in subst (λ (e : Entry). e.seq ≡ length before + 0 + 1) same (let seq = legal.0.seq in omega (arith, seq))
seq_after before (first ∷ rest) (suc k) entry legal at =
    let later = seq_after (before ++ first ∷ []) rest k entry legal.1 at in
    let long : length (before ++ first ∷ []) ≡ length before + 1 = length-append before (first ∷ []) in
    omega (arith, later, long)

-- one place for one seq
pub one_place : (log : List Entry) (j k : ℕ) (first second : Entry) → IsLegal log → slice_get log j ≡ Some first → slice_get log k ≡ Some second → first.seq ≡ second.seq → first ≡ second
one_place log j k first second legal at also same =
    let one = seq_after [] log j first legal at in
    let two = seq_after [] log k second legal also in
    let place : j ≡ k = omega (arith, one, two, same) in
    let there : slice_get log k ≡ Some first = subst (λ (i : ℕ). slice_get log i ≡ Some first) place at in
    cc
