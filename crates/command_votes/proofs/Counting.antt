-- The votes of a log, entry by entry.
use Rattle.std.proofs.Common.{ℕ, ◌+◌, ◌-◌, ◌≤◌, ◌≡◌, List, [], ◌∷◌, ◌++◌, length, take, slice_get, Option, Some, None, sym, ap, subst, ◌∙◌, append-nil, arith}
use Rattle.std.specs.List.{cons_option}
use Rattle.std.proofs.lemmas.List.{take_more, take_all}
use Rattle.std.proofs.lemmas.List.Elements.{filter_map-append}
use Rattle.std.proofs.lemmas.List.Sums.{fold-append}
use Rattle.std.proofs.lemmas.Option.{slice_get_within, get_or_from_slice_get}
use Rattle.tea_base.specs.declared.entry.Entry.{Entry}
use Rattle.vote_book.specs.VoteBook.{Ballot, book_after, counted}
use Rattle.command_votes.specs.VoteRead.{vote_of, votes_of, votes_after}

module _ (entries : List Entry) (i : ℕ) (entry : Entry) (got : slice_get entries (i + 1 - 1) ≡ Some entry) where
  there : slice_get entries i ≡ Some entry
  there = subst (λ (k : ℕ). slice_get entries k ≡ Some entry) (omega arith) got

  taken : take (i + 1) entries ≡ take i entries ++ entry ∷ []
  taken = take_more entries i entry (slice_get_within entries i entry there) ∙ ap (λ (e : Entry). take i entries ++ e ∷ []) (get_or_from_slice_get entries i entry entry there)

  votes-taken : votes_of (take (i + 1) entries) ≡ votes_of (take i entries) ++ cons_option (vote_of entry) []
  votes-taken = ap votes_of taken ∙ filter_map-append vote_of (take i entries) (entry ∷ [])

  counted_with : (vote : Option Ballot) (votes : List Ballot) → votes_after (counted votes) vote ≡ counted (votes ++ cons_option vote [])
  counted_with None votes = sym (ap counted (append-nil votes))
  counted_with (Some vote) votes = sym (fold-append book_after [] votes (vote ∷ []))

  -- one entry more
  pub counted_more : votes_after (counted (votes_of (take i entries))) (vote_of entry) ≡ counted (votes_of (take (i + 1) entries))
  counted_more = counted_with (vote_of entry) (votes_of (take i entries)) ∙ ap counted (sym votes-taken)

-- all of them
pub counted_all : (entries : List Entry) (i : ℕ) → length entries ≤ i → counted (votes_of (take i entries)) ≡ counted (votes_of entries)
counted_all entries i le = ap (λ (es : List Entry). counted (votes_of es)) (take_all i entries le)
