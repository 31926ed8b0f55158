-- A book of votes: a view votes on an entry by naming the digest that its world has directly after that entry.
use Rattle.std.specs.Prelude.{ℕ, nat_eq, nat_lt, Bool, ◌&&◌, not, bytes_eq, if◌then◌else◌, List, [], ◌∷◌, ◌++◌, map, fold, length, Option, Some, None, is_some}
use Rattle.std.specs.List.{filter, find}
use Rattle.std.specs.Option.{option_map}
use Rattle.vote_book.specs.declared.vote.Vote.{Vote}
use Rattle.vote_book.specs.declared.vote.Vote.TheVariants.{First, Agreed, Diverged, Repeated}
use Rattle.vote_book.specs.declared.vote.Verdict.{Verdict}

-- a vote: the entry that it is, whose it is, the entry that it is on, and the digest that it names
pub record Ballot : Type 0 where
  pub entry : ℕ
  pub view : ℕ
  pub at : ℕ
  pub digest : List ℕ

abbrev pub ballot : ℕ → ℕ → ℕ → List ℕ → Ballot
ballot entry view at digest = record { entry = entry; view = view; at = at; digest = digest }

-- it is on this entry
abbrev pub is_on : ℕ → Ballot → Bool
is_on at vote = nat_eq vote.at at

-- it is on this entry, and this view's
abbrev pub is_by : ℕ → ℕ → Ballot → Bool
is_by at view vote = is_on at vote && nat_eq vote.view view

-- both name one digest
abbrev pub agrees_with : Ballot → Ballot → Bool
agrees_with vote other = bytes_eq vote.digest other.digest

-- ---- the answer to a vote

-- the first vote of its view on the entry, if there is one, and the first of all on it
abbrev pub answer_by : Ballot → Option Ballot → Option Ballot → Vote
answer_by vote (Some own) first = Repeated own.entry
answer_by vote None None = First
answer_by vote None (Some first) =
    if agrees_with first vote then Agreed first.entry else Diverged first.entry first.digest

-- the answer to a vote that comes after these
abbrev pub vote_answer : List Ballot → Ballot → Vote
vote_answer votes vote = answer_by vote (find (is_by vote.at vote.view) votes) (find (is_on vote.at) votes)

-- the votes that count after it: a second one of its view on the entry does not
abbrev pub book_after : List Ballot → Ballot → List Ballot
book_after votes vote = if is_some (find (is_by vote.at vote.view) votes) then votes else votes ++ vote ∷ []

-- of votes that come one after the other, those that count
abbrev pub counted : List Ballot → List Ballot
counted votes = fold book_after [] votes

-- ---- what votes come to

-- the first that names another digest than this one
abbrev pub first_other : Ballot → List Ballot → Option Ballot
first_other vote = find (λ other. not (agrees_with vote other))

-- of the votes on an entry: the entry of the first, and of the first that differs from it
abbrev pub split_of : List Ballot → Option (ℕ × ℕ)
split_of [] = None
split_of (first ∷ rest) = option_map (λ other. (first.entry, other.entry)) (first_other first rest)

abbrev pub verdict_on : List Ballot → ℕ → Verdict
verdict_on votes at =
    let those = filter (is_on at) votes in
    record { at = at; votes = length those; split = split_of those }

-- a number in its place among rising ones, once
abbrev pub put_rising : ℕ → List ℕ → List ℕ
put_rising number [] = number ∷ []
put_rising number (next ∷ rest) =
    if nat_lt number next then number ∷ next ∷ rest
    else (if nat_eq number next then next ∷ rest else next ∷ put_rising number rest)

-- the entries that votes are on, rising
abbrev pub voted_on : List Ballot → List ℕ
voted_on [] = []
voted_on (vote ∷ votes) = put_rising vote.at (voted_on votes)

-- one verdict on each of these
abbrev pub verdicts_of : List Ballot → List Verdict
verdicts_of votes = map (verdict_on votes) (voted_on votes)
