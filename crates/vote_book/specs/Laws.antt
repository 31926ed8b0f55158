-- What verdicts and counted votes show.
use Rattle.std.specs.Prelude.{ℕ, ◌≡◌, ◌≢◌, Bool, List, Contains, Option, Some, None, IsSome}
use Rattle.std.specs.List.{find, AllPairs, IsDistinct}
use Rattle.vote_book.specs.VoteBook.{Ballot, is_by, counted}

-- all votes name one digest
abbrev pub AllAgree : List Ballot → Type 0
AllAgree = AllPairs (λ vote other. vote.digest ≡ other.digest)

-- two of the votes, by their entries, name different digests
pub record TwoDiffer (votes : List Ballot) (entry other_entry : ℕ) : Type 0 where
  pub vote : Ballot
  pub other : Ballot
  pub has_vote : Contains votes vote
  pub has_other : Contains votes other
  pub is_entry : vote.entry ≡ entry
  pub is_other_entry : other.entry ≡ other_entry
  pub differ : vote.digest ≢ other.digest

-- a split of votes on one entry names two that differ, and where there is none all agree
abbrev pub SplitShows : List Ballot → Option (ℕ × ℕ) → Type 0
SplitShows votes None = AllAgree votes
SplitShows votes (Some split) = TwoDiffer votes split.0 split.1

-- both are of one view on one entry
abbrev pub is_again : Ballot → Ballot → Bool
is_again vote = is_by vote.at vote.view

-- of these votes each counts, or another of its view on its entry does; and no two of one view on one entry count
pub record CountOnce (votes : List Ballot) : Type 0 where
  pub each : (vote : Ballot) → Contains votes vote → IsSome (find (is_again vote) (counted votes))
  pub once : IsDistinct is_again (counted votes)
