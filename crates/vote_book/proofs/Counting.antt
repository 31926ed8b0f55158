-- What a book tells after one vote more.
use Rattle.std.proofs.Common.{ℕ, ◌+◌, ◌≤◌, ◌≡◌, Bool, true, false, cond, ◌&&◌, eqb, nat_eq, List, [], ◌∷◌, ◌++◌, Option, Some, None, is_some, length-append, refl, sym, ap, subst, ◌∙◌, arith}
use Rattle.std.specs.List.{filter, find}
use Rattle.std.specs.Option.{option_map, option_or}
use Rattle.std.proofs.lemmas.Bool.{eqb-true}
use Rattle.std.proofs.lemmas.List.Folds.{find-append}
use Rattle.indexmap.specs.IndexMap.{get, index_map_len}
use Rattle.vote_book.specs.declared.vote.Vote.{Vote}
use Rattle.vote_book.specs.declared.tally.Tally.{Tally}
use Rattle.vote_book.specs.declared.book.Book.{Book}
use Rattle.vote_book.specs.VoteBook.{Ballot, is_on, is_by, vote_answer, answer_by, book_after}
use Rattle.vote_book.specs.Tallies.{tally_of, tally_with, tally_answer, votes_in}
use Rattle.vote_book.specs.Counted.{same_pair, HasCounted}
use Rattle.vote_book.proofs.Tallying.{answer-tally, votes_in-le, tallies-push}

none_there : (found : Option Ballot) → None ≡ option_map (λ (v : Ballot). v.entry) found → found ≡ None
none_there None is = refl
none_there (Some own) is = cc

both_same : (at view at' view' : ℕ) → same_pair (at, view) (at', view') ≡ true → (at ≡ at') × (view ≡ view')
both_same at view at' view' is = by (eqb at at') refl is
  where
    by : (b : Bool) → eqb at at' ≡ b → (b && eqb view view') ≡ true → (at ≡ at') × (view ≡ view')
    by true e is = (eqb-true at at' e, eqb-true view view' is)
    by false e is = cc

unchanged : (found : Option Ballot) → option_map (λ (v : Ballot). v.entry) found ≡ option_map (λ (v : Ballot). v.entry) (option_or found None)
unchanged None = refl
unchanged (Some own) = refl

module _ (old : Book) (votes : List Ballot) (vote : Ballot) (told : HasCounted old votes) where
  module _ (none : get same_pair old.voted (vote.at, vote.view) ≡ None) where
    missing : find (is_by vote.at vote.view) votes ≡ None
    missing = none_there (find (is_by vote.at vote.view) votes) (sym none ∙ told.voted vote.at vote.view)

    pub answered : (answer : Vote) → answer ≡ tally_answer (get nat_eq old.tallies vote.at) vote.digest → answer ≡ vote_answer votes vote
    answered answer is =
        is
        ∙ ap (λ (t : Option Tally). tally_answer t vote.digest) (told.tallies vote.at)
        ∙ answer-tally votes vote
        ∙ ap (λ (own : Option Ballot). answer_by vote own (find (is_on vote.at) votes)) (sym missing)

    goes_on : book_after votes vote ≡ votes ++ vote ∷ []
    goes_on = ap (λ (own : Option Ballot). cond (is_some own) votes (votes ++ vote ∷ [])) missing

    pub few_on : votes_in (get nat_eq old.tallies vote.at) ≤ index_map_len old.voted
    few_on = omega (arith, ap votes_in (told.tallies vote.at), votes_in-le (is_on vote.at) votes, told.number)

    -- the vote is found by the entry that it is on and its view, and by no other
    found_if : (b : Bool) (at view : ℕ) → same_pair (vote.at, vote.view) (at, view) ≡ b
        → cond b (Some vote.entry) (option_map (λ (v : Ballot). v.entry) (find (is_by at view) votes))
        ≡ option_map (λ (v : Ballot). v.entry) (option_or (find (is_by at view) votes) (cond b (Some vote) None))
    found_if true at view is =
        let same = both_same vote.at vote.view at view is in
        ap (λ (own : Option Ballot). option_map (λ (v : Ballot). v.entry) (option_or own (Some vote)))
        (sym (subst (λ (n : ℕ). find (is_by n view) votes ≡ None) same.0 (subst (λ (n : ℕ). find (is_by vote.at n) votes ≡ None) same.1 missing)))
    found_if false at view is = unchanged (find (is_by at view) votes)

    tally_if : (b : Bool) (at : ℕ) → eqb vote.at at ≡ b
        → cond b (Some (tally_with (tally_of (filter (is_on vote.at) votes)) vote.entry vote.digest)) (tally_of (filter (is_on at) votes))
        ≡ cond b (Some (tally_with (tally_of (filter (is_on at) votes)) vote.entry vote.digest)) (tally_of (filter (is_on at) votes))
    tally_if true at is = ap (λ (n : ℕ). Some (tally_with (tally_of (filter (is_on n) votes)) vote.entry vote.digest)) (eqb-true vote.at at is)
    tally_if false at is = refl

    module _ (new : Book) where
      voted_after : ((q : ℕ × ℕ) → get same_pair new.voted q ≡ cond (same_pair (vote.at, vote.view) q) (Some vote.entry) (get same_pair old.voted q))
          → (at view : ℕ) → get same_pair new.voted (at, view) ≡ option_map (λ (v : Ballot). v.entry) (find (is_by at view) (votes ++ vote ∷ []))
      voted_after updates at view =
          updates (at, view)
          ∙ ap (cond (same_pair (vote.at, vote.view) (at, view)) (Some vote.entry)) (told.voted at view)
          ∙ found_if (same_pair (vote.at, vote.view) (at, view)) at view refl
          ∙ ap (option_map (λ (v : Ballot). v.entry)) (sym (find-append (is_by at view) votes (vote ∷ [])))

      tallies_after : ((at : ℕ) → get nat_eq new.tallies at ≡ cond (eqb vote.at at) (Some (tally_with (get nat_eq old.tallies vote.at) vote.entry vote.digest)) (get nat_eq old.tallies at))
          → (at : ℕ) → get nat_eq new.tallies at ≡ tally_of (filter (is_on at) (votes ++ vote ∷ []))
      tallies_after updates at =
          updates at
          ∙ ap (λ (t : Option Tally). cond (eqb vote.at at) (Some (tally_with t vote.entry vote.digest)) (get nat_eq old.tallies at)) (told.tallies vote.at)
          ∙ ap (cond (eqb vote.at at) (Some (tally_with (tally_of (filter (is_on vote.at) votes)) vote.entry vote.digest))) (told.tallies at)
          ∙ tally_if (eqb vote.at at) at refl
          ∙ sym (tallies-push (is_on at) votes vote)

      -- both maps took note of the vote
      pub counts : ((q : ℕ × ℕ) → get same_pair new.voted q ≡ cond (same_pair (vote.at, vote.view) q) (Some vote.entry) (get same_pair old.voted q))
          → index_map_len new.voted ≡ index_map_len old.voted + 1
          → ((at : ℕ) → get nat_eq new.tallies at ≡ cond (eqb vote.at at) (Some (tally_with (get nat_eq old.tallies vote.at) vote.entry vote.digest)) (get nat_eq old.tallies at))
          → HasCounted new (book_after votes vote)
      counts voted number tallies =
          subst (HasCounted new) (sym goes_on)
          (record {
            voted = voted_after voted;
            tallies = tallies_after tallies;
            number = omega (arith, number, told.number, length-append votes (vote ∷ []));
          })
