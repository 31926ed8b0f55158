-- What is kept of the votes on one entry.
use Rattle.std.specs.Prelude.{ℕ, ◌+◌, bytes_eq, if◌then◌else◌, List, [], ◌∷◌, length, Option, Some, None, unwrap_or}
use Rattle.std.specs.Option.{option_map}
use Rattle.vote_book.specs.declared.vote.Vote.{Vote}
use Rattle.vote_book.specs.declared.vote.Vote.TheVariants.{First, Agreed, Diverged}
use Rattle.vote_book.specs.declared.vote.Verdict.{Verdict}
use Rattle.vote_book.specs.declared.tally.Tally.{Tally}
use Rattle.vote_book.specs.VoteBook.{Ballot, first_other}

-- how many they are, the first, and the first that differs from it
abbrev pub tally_of : List Ballot → Option Tally
tally_of [] = None
tally_of (first ∷ rest) = Some (record {
  votes = length (first ∷ rest);
  first = first.entry;
  digest = first.digest;
  other = option_map (λ vote. vote.entry) (first_other first rest);
})

-- that of one vote
abbrev pub tally_of_one : ℕ → List ℕ → Tally
tally_of_one entry digest = record { votes = 1; first = entry; digest = digest; other = None }

-- with one vote more
abbrev pub tally_and : Tally → ℕ → List ℕ → Tally
tally_and tally entry digest = record {
  votes = tally.votes + 1;
  first = tally.first;
  digest = tally.digest;
  other = if bytes_eq tally.digest digest then tally.other else Some (unwrap_or tally.other entry);
}

abbrev pub tally_with : Option Tally → ℕ → List ℕ → Tally
tally_with None entry digest = tally_of_one entry digest
tally_with (Some tally) entry digest = tally_and tally entry digest

-- the answer to that vote, where its view has none
abbrev pub tally_answer : Option Tally → List ℕ → Vote
tally_answer None digest = First
tally_answer (Some tally) digest =
    if bytes_eq tally.digest digest then Agreed tally.first else Diverged tally.first tally.digest

-- how many were counted
abbrev pub votes_in : Option Tally → ℕ
votes_in None = 0
votes_in (Some tally) = tally.votes

abbrev pub tally_verdict : ℕ → Tally → Verdict
tally_verdict at tally = record {
  at = at;
  votes = tally.votes;
  split = option_map (λ other. (tally.first, other)) tally.other;
}
