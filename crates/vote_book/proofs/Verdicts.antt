-- Verdicts that are sorted are those of the votes.
use Rattle.std.proofs.Common.{ℕ, ◌<◌, ◌≡◌, Bool, true, false, cond, ◌||◌, nat_eq, eqb, List, [], ◌∷◌, map, Option, Some, None, is_some, length, get_or, refl, sym, ap, subst, ◌∙◌, arith}
use Rattle.std.specs.Cmp.{nat_eq_equiv}
use Rattle.std.specs.List.{All, AllByRecursion, filter}
use Rattle.std.specs.List.Sorted.{IsPermutation, IsNonDecreasing, IsNonDecreasingBy}
use Rattle.std.specs.Map.{keys_of}
use Rattle.std.specs.Option.{option_map}
use Rattle.std.proofs.lemmas.List.{length-map, get_or-map}
use Rattle.std.proofs.lemmas.List.Elements.{All-map, recursion_from_All}
use Rattle.std.proofs.lemmas.List.Kept.{AllPairs-from_increasing}
use Rattle.std.proofs.lemmas.List.Sorted.{IsPermutation-map, All-permutation, list_any-IsPermutation}
use Rattle.std.proofs.lemmas.Option.{slice_get-get_or}
use Rattle.std.proofs.lemmas.Map.Entries.{hash_map_get_place}
use Rattle.std.proofs.lemmas.Map.Keys.{IsDistinct-IsPermutation, IsStrictlyIncreasing-from_distinct}
use Rattle.std.proofs.lemmas.Map.Made.{is_some-lookup}
use Rattle.indexmap.specs.IndexMap.{get, IsUnique}
use Rattle.vote_book.specs.declared.vote.Verdict.{Verdict}
use Rattle.vote_book.specs.declared.tally.Tally.{Tally}
use Rattle.vote_book.specs.declared.book.Book.{Book}
use Rattle.vote_book.specs.VoteBook.{Ballot, is_on, first_other, voted_on, verdict_on, verdicts_of, split_of}
use Rattle.vote_book.specs.Tallies.{tally_of, tally_verdict}
use Rattle.vote_book.specs.Counted.{HasCounted}
use Rattle.vote_book.proofs.Rising.{AllRise, has, rise-put, has-put, same_members, rise_from_pairs}

abbrev pub at_of : Verdict → ℕ
at_of verdict = verdict.at

abbrev told_by : ℕ × Tally → Verdict
told_by entry = tally_verdict entry.0 entry.1

-- ---- on which entries

voted-rise : (votes : List Ballot) → AllRise (voted_on votes)
voted-rise [] = tt
voted-rise (vote ∷ votes) = rise-put vote.at (voted_on votes) (voted-rise votes)

some_on : (b : Bool) (vote : Ballot) (those : List Ballot) → is_some (tally_of (cond b (vote ∷ those) those)) ≡ (b || is_some (tally_of those))
some_on true vote those = refl
some_on false vote those = refl

flipped : (n m : ℕ) → eqb n m ≡ eqb m n
flipped = nat_eq_equiv.symm

voted-has : (votes : List Ballot) (n : ℕ) → has (voted_on votes) n ≡ is_some (tally_of (filter (is_on n) votes))
voted-has [] n = refl
voted-has (vote ∷ votes) n =
    has-put vote.at (voted_on votes) n
    ∙ ap (λ (b : Bool). eqb n vote.at || b) (voted-has votes n)
    ∙ ap (λ (b : Bool). b || is_some (tally_of (filter (is_on n) votes))) (flipped n vote.at)
    ∙ sym (some_on (eqb vote.at n) vote (filter (is_on n) votes))

-- ---- what is told of each

split_is : (entry : ℕ) (other : Option Ballot) → option_map {U = ℕ × ℕ} (λ (n : ℕ). (entry, n)) (option_map (λ (v : Ballot). v.entry) other) ≡ option_map {U = ℕ × ℕ} (λ (v : Ballot). (entry, v.entry)) other
split_is entry None = refl
split_is entry (Some vote) = refl

inside : (t tally : Tally) → Some t ≡ Some tally → tally ≡ t
inside t tally is = cc

verdict_of-tally : (at : ℕ) (those : List Ballot) (tally : Tally) → tally_of those ≡ Some tally → tally_verdict at tally ≡ record { at = at; votes = length those; split = split_of those }
verdict_of-tally at [] tally is = cc
verdict_of-tally at (first ∷ rest) tally is =
    ap (tally_verdict at) (inside _ tally is)
    ∙ ap (λ (s : Option (ℕ × ℕ)). record { at = at; votes = length (first ∷ rest); split = s }) (split_is first.entry (first_other first rest))

keys-told : (entries : List (ℕ × Tally)) → map at_of (map told_by entries) ≡ keys_of entries
keys-told [] = refl
keys-told (entry ∷ entries) = ap (λ (l : List ℕ). entry.0 ∷ l) (keys-told entries)

no_verdict : Verdict
no_verdict = record { at = 0; votes = 0; split = None }

non_decreasing-map : (verdicts : List Verdict) → IsNonDecreasingBy at_of verdicts → IsNonDecreasing (map at_of verdicts)
non_decreasing-map verdicts up = λ i j d le lt.
    let within : j < length verdicts = subst (λ (n : ℕ). j < n) (length-map verdicts at_of) lt in
    let first : i < length verdicts = omega arith in
    rw (get_or-map at_of verdicts i no_verdict d first, get_or-map at_of verdicts j no_verdict d within) (up i j no_verdict le within)

module _ (book : Book) (votes : List Ballot) (told : HasCounted book votes) (unique : IsUnique nat_eq book.tallies) where
  abbrev is_told : Verdict → Type 0
  is_told verdict = verdict ≡ verdict_on votes verdict.at

  each_told : All is_told (map told_by book.tallies.entries)
  each_told = All-map is_told told_by book.tallies.entries (λ k d lt.
      let entry = get_or book.tallies.entries k d in
      let found : get nat_eq book.tallies entry.0 ≡ Some entry.1 = hash_map_get_place nat_eq_equiv book.tallies k entry.0 entry.1 unique (slice_get-get_or book.tallies.entries k d lt) in
      verdict_of-tally entry.0 (filter (is_on entry.0) votes) entry.1 (sym (told.tallies entry.0) ∙ found))

  module _ (sorted : List Verdict) (moved : IsPermutation (map told_by book.tallies.entries) sorted) (up : IsNonDecreasingBy at_of sorted) where
    keys_moved : IsPermutation (keys_of book.tallies.entries) (map at_of sorted)
    keys_moved = subst (λ (l : List ℕ). IsPermutation l (map at_of sorted)) (keys-told book.tallies.entries) (IsPermutation-map at_of _ sorted moved)

    rise : AllRise (map at_of sorted)
    rise = rise_from_pairs (map at_of sorted) (AllPairs-from_increasing (map at_of sorted) (IsStrictlyIncreasing-from_distinct (map at_of sorted) (non_decreasing-map sorted up) (IsDistinct-IsPermutation eqb flipped _ _ keys_moved unique)))

    members : (n : ℕ) → has (map at_of sorted) n ≡ has (voted_on votes) n
    members n =
        sym (list_any-IsPermutation (eqb n) (keys_of book.tallies.entries) (map at_of sorted) keys_moved)
        ∙ sym (is_some-lookup (eqb n) book.tallies.entries)
        ∙ ap is_some (told.tallies n)
        ∙ sym (voted-has votes n)

    each_one : (verdicts : List Verdict) → AllByRecursion is_told verdicts → verdicts ≡ map (verdict_on votes) (map at_of verdicts)
    each_one [] all = refl
    each_one (v ∷ verdicts) all = ap (λ (l : List Verdict). v ∷ l) (each_one verdicts all.1) ∙ ap (λ (w : Verdict). w ∷ map (verdict_on votes) (map at_of verdicts)) all.0

    pub told_in_order : sorted ≡ verdicts_of votes
    told_in_order =
        each_one sorted (recursion_from_All is_told sorted (All-permutation is_told (map told_by book.tallies.entries) sorted moved each_told))
        ∙ ap (map (verdict_on votes)) (same_members (map at_of sorted) (voted_on votes) rise (voted-rise votes) members)
