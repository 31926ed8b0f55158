-- What is kept of the votes on one entry, after one vote more.
use Rattle.std.proofs.Common.{ℕ, ◌+◌, ◌≤◌, ◌≡◌, Bool, true, false, cond, not, List, [], ◌∷◌, ◌++◌, Option, Some, None, length, length-append, unwrap_or, refl, ap, ◌∙◌, arith}
use Rattle.std.specs.List.{filter, find}
use Rattle.std.specs.Option.{option_map, option_or}
use Rattle.std.specs.Str.{bytes_eq}
use Rattle.std.proofs.lemmas.List.{append-nil}
use Rattle.std.proofs.lemmas.List.Elements.{filter-append}
use Rattle.std.proofs.lemmas.List.Folds.{find-append}
use Rattle.std.proofs.lemmas.List.Sums.{length-filter, count_by-le-length}
use Rattle.vote_book.specs.VoteBook.{Ballot, is_on, first_other, answer_by}
use Rattle.vote_book.specs.Tallies.{tally_of, tally_with, tally_answer, votes_in}

-- the entry of the first that differs, after one vote more
other_after : (agrees : Bool) (entry : ℕ) (vote : Ballot) (found : Option Ballot) → vote.entry ≡ entry
    → option_map (λ (v : Ballot). v.entry) (option_or found (cond (not agrees) (Some vote) None))
    ≡ cond agrees (option_map (λ (v : Ballot). v.entry) found) (Some (unwrap_or (option_map (λ (v : Ballot). v.entry) found) entry))
other_after true entry vote None is = refl
other_after true entry vote (Some found) is = refl
other_after false entry vote None is = ap Some is
other_after false entry vote (Some found) is = refl

-- one vote more on an entry
pub tally-push : (votes : List Ballot) (vote : Ballot) → tally_of (votes ++ vote ∷ []) ≡ Some (tally_with (tally_of votes) vote.entry vote.digest)
tally-push [] vote = refl
tally-push (first ∷ rest) vote =
    let many : length (first ∷ (rest ++ vote ∷ [])) ≡ length (first ∷ rest) + 1 = omega (arith, length-append rest (vote ∷ [])) in
    let other : option_map (λ (v : Ballot). v.entry) (first_other first (rest ++ vote ∷ []))
    ≡ cond (bytes_eq first.digest vote.digest) (option_map (λ (v : Ballot). v.entry) (first_other first rest)) (Some (unwrap_or (option_map (λ (v : Ballot). v.entry) (first_other first rest)) vote.entry)) =
    ap (option_map (λ (v : Ballot). v.entry)) (find-append _ rest (vote ∷ [])) ∙ other_after (bytes_eq first.digest vote.digest) vote.entry vote (first_other first rest) refl in
    ap (λ (n : ℕ). Some (record { votes = n; first = first.entry; digest = first.digest; other = option_map (λ (v : Ballot). v.entry) (first_other first (rest ++ vote ∷ [])) })) many
    ∙ ap (λ (o : Option ℕ). Some (record { votes = length (first ∷ rest) + 1; first = first.entry; digest = first.digest; other = o })) other

-- the first vote on an entry, as the tally of all on it tells it
answer_of-tally : (votes : List Ballot) (vote : Ballot) → tally_answer (tally_of votes) vote.digest ≡ answer_by vote None (find (λ (v : Ballot). true) votes)
answer_of-tally [] vote = refl
answer_of-tally (first ∷ rest) vote = refl

first_if : (b : Bool) (vote : Ballot) (those : List Ballot) (found : Option Ballot) → find (λ (v : Ballot). true) those ≡ found
    → find (λ (v : Ballot). true) (cond b (vote ∷ those) those) ≡ cond b (Some vote) found
first_if true vote those found is = refl
first_if false vote those found is = is

first_on : (on : Ballot → Bool) (votes : List Ballot) → find (λ (v : Ballot). true) (filter on votes) ≡ find on votes
first_on on [] = refl
first_on on (vote ∷ votes) = first_if (on vote) vote (filter on votes) (find on votes) (first_on on votes)

pub answer-tally : (votes : List Ballot) (vote : Ballot) → tally_answer (tally_of (filter (is_on vote.at) votes)) vote.digest ≡ answer_by vote None (find (is_on vote.at) votes)
answer-tally votes vote = answer_of-tally (filter (is_on vote.at) votes) vote ∙ ap (answer_by vote None) (first_on (is_on vote.at) votes)

votes_in-tally : (votes : List Ballot) → votes_in (tally_of votes) ≡ length votes
votes_in-tally [] = refl
votes_in-tally (first ∷ rest) = refl

pub votes_in-le : (on : Ballot → Bool) (votes : List Ballot) → votes_in (tally_of (filter on votes)) ≤ length votes
votes_in-le on votes = omega (arith, votes_in-tally (filter on votes), length-filter on votes, count_by-le-length on votes)

tally_if : (b : Bool) (those : List Ballot) (vote : Ballot) → tally_of (those ++ cond b (vote ∷ []) []) ≡ cond b (Some (tally_with (tally_of those) vote.entry vote.digest)) (tally_of those)
tally_if true those vote = tally-push those vote
tally_if false those vote = ap tally_of (append-nil those)

-- the tally of each entry, after one vote more
pub tallies-push : (on : Ballot → Bool) (votes : List Ballot) (vote : Ballot)
    → tally_of (filter on (votes ++ vote ∷ [])) ≡ cond (on vote) (Some (tally_with (tally_of (filter on votes)) vote.entry vote.digest)) (tally_of (filter on votes))
tallies-push on votes vote = ap tally_of (filter-append on votes (vote ∷ [])) ∙ tally_if (on vote) (filter on votes) vote
