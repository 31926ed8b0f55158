-- What a book tells of the votes that were counted in it.
use Rattle.std.specs.Prelude.{ℕ, ◌≡◌, Bool, ◌&&◌, nat_eq, List, length}
use Rattle.std.specs.List.{filter, find}
use Rattle.std.specs.Option.{option_map}
use Rattle.indexmap.specs.IndexMap.{get, index_map_len}
use Rattle.vote_book.specs.declared.book.Book.{Book}
use Rattle.vote_book.specs.VoteBook.{Ballot, is_on, is_by}
use Rattle.vote_book.specs.Tallies.{tally_of}

-- both numbers are the same
abbrev pub same_pair : ℕ × ℕ → ℕ × ℕ → Bool
same_pair x y = nat_eq x.0 y.0 && nat_eq x.1 y.1

-- these votes were counted in it, in this order: it finds the vote of each view on each entry, and what is kept of the
-- votes on each entry
pub record HasCounted (book : Book) (votes : List Ballot) : Type 0 where
  pub voted : (at view : ℕ)
      → get same_pair book.voted (at, view) ≡ option_map (λ vote. vote.entry) (find (is_by at view) votes)
  pub tallies : (at : ℕ) → get nat_eq book.tallies at ≡ tally_of (filter (is_on at) votes)
  pub number : index_map_len book.voted ≡ length votes

-- what was counted in one was counted in the other
abbrev pub KeepsCounted : Book → Book → Type 0
KeepsCounted old new = (votes : List Ballot) → HasCounted old votes → HasCounted new votes
