-- Two views that run the program on one log vote alike.
use Rattle.std.proofs.Common.{ℕ, ◌≡◌, Bool, true, false, cond, ◌++◌, List, ◌∷◌, Option, Some, None, refl, sym, ap, subst, ◌∙◌, true≢false, arith}
use Rattle.std.specs.Prelude.{Contains}
use Rattle.std.specs.List.{filter, find}
use Rattle.std.proofs.lemmas.List.Elements.{Contains-append_left, Contains-append_right, Contains-get_or}
use Rattle.std.proofs.lemmas.Slice.Eq.{bytes_eq-Decides}
use Rattle.tea_base.specs.Legal.{IsLegal}
use Rattle.tea_base.specs.declared.entry.Entry.{Entry}
use Rattle.model_value.specs.Payload.{payload_spelling}
use Rattle.vote_event.specs.VotePayload.{vote_payload}
use Rattle.model_solved.specs.Founding.{Founding, IsFounding}
use Rattle.replica.specs.RealWorlds.{worlds}
use Rattle.view_shell.specs.Agreeing.{HaveOneDigest, TakesNext, world_behind}
use Rattle.view_shell.specs.Phases.{vote_spelling}
use Rattle.vote_book.specs.declared.vote.Vote.TheVariants.{Agreed, Diverged}
use Rattle.vote_book.specs.VoteBook.{Ballot, agrees_with, answer_by, counted, is_by, is_on, vote_answer}
use Rattle.vote_book.specs.Laws.{TwoDiffer}
use Rattle.command_votes.specs.VoteForm.{IsEventWith}
use Rattle.command_votes.specs.VoteRead.{vote_of, votes_of}
use Rattle.votes_differ.specs.Runners.{IsVoteOfRunner, OneDidNotRun}
use Rattle.votes_differ.proofs.Membership.{counted_came, filtered, found, one_place, vote_entry}
use Rattle.votes_differ.proofs.Naming.{same_digest, vote_seq}

module _ (law : HaveOneDigest) (founding : Founding) (id : List ℕ) (is : IsFounding founding) (log : List Entry) (legal : IsLegal log) where
  -- both publish one payload
  same_payload : (at : ℕ) (first second : Entry) (a : IsVoteOfRunner (worlds founding id) log at first) (b : IsVoteOfRunner (worlds founding id) log at second)
      → vote_spelling at (world_behind (worlds founding id) a.replica a.taken) ≡ vote_spelling at (world_behind (worlds founding id) b.replica b.taken)
  same_payload at first second a b =
      let one : b.taken ≡ a.taken = one_place log b.replica.seen a.replica.seen b.taken a.taken legal b.takes.next a.takes.next (b.on ∙ sym a.on) in
      let takes : TakesNext (worlds founding id) log b.replica a.taken = subst (TakesNext (worlds founding id) log b.replica) one b.takes in
      let digests = law founding id log a.replica b.replica a.taken is legal a.takes takes in
      ap (λ (d : List ℕ). payload_spelling (vote_payload at d)) digests
      ∙ ap (λ (e : Entry). vote_spelling at (world_behind (worlds founding id) b.replica e)) (sym one)

  -- votes of two such views do not differ
  pub run_alike : (at : ℕ) (first second : Entry) (one two : Ballot) → vote_of first ≡ Some one → vote_of second ≡ Some two
      → IsVoteOfRunner (worlds founding id) log at first → IsVoteOfRunner (worlds founding id) log at second → one.digest ≡ two.digest
  run_alike at first second one two a b ran also =
      same_digest (vote_spelling at (world_behind (worlds founding id) also.replica also.taken)) first second one two
      (subst (λ (bytes : List ℕ). IsEventWith bytes first.what) (same_payload at first second ran also) ran.spelled) also.spelled a b

  pub one_did_not : (at : ℕ) (first second : Entry) (one two : Ballot) → Contains log first → Contains log second → vote_of first ≡ Some one → vote_of second ≡ Some two
      → (one.digest ≡ two.digest → ⊥) → OneDidNotRun (worlds founding id) log at one.entry two.entry
  one_did_not at first second one two has also a b differ = record {
    one = first;
    other = second;
    has_one = has;
    has_other = also;
    is_first = sym (vote_seq first one a);
    is_second = sym (vote_seq second two b);
    not_both = λ ran other. differ (run_alike at first second one two a b ran other);
  }

  -- the two votes of a split
  pub split_shows : (at first second : ℕ) → TwoDiffer (filter (is_on at) (counted (votes_of log))) first second → OneDidNotRun (worlds founding id) log at first second
  split_shows at first second two =
      let x = vote_entry log two.vote (counted_came (votes_of log) two.vote (filtered (is_on at) (counted (votes_of log)) two.vote two.has_vote).0) in
      let y = vote_entry log two.other (counted_came (votes_of log) two.other (filtered (is_on at) (counted (votes_of log)) two.other two.has_other).0) in
      subst (λ (n : ℕ). OneDidNotRun (worlds founding id) log at n second) two.is_entry
      (subst (λ (n : ℕ). OneDidNotRun (worlds founding id) log at two.vote.entry n) two.is_other_entry
      (one_did_not at x.entry y.entry two.vote two.other x.has y.has x.is y.is two.differ))

-- ---- the answer `Diverged`

-- the first vote on the entry, which names another digest
pub record DivergesFrom (votes : List Ballot) (vote : Ballot) (first : ℕ) : Type 0 where
  pub other : Ballot
  pub has : Contains votes other
  pub entry : other.entry ≡ first
  pub differ : other.digest ≡ vote.digest → ⊥

diverged_if : (agrees : Bool) (votes : List Ballot) (vote other : Ballot) (first : ℕ) (digest : List ℕ) → agrees_with other vote ≡ agrees → Contains votes other
    → cond agrees (Agreed other.entry) (Diverged other.entry other.digest) ≡ Diverged first digest → DivergesFrom votes vote first
diverged_if true votes vote other first digest test has is = absurd cc
diverged_if false votes vote other first digest test has is = record {
  other = other;
  has = has;
  entry = cc;
  differ = λ same. true≢false (sym ((bytes_eq-Decides other.digest vote.digest).1 same) ∙ test);
}

diverged_by : (own other : Option Ballot) (votes : List Ballot) (vote : Ballot) (first : ℕ) (digest : List ℕ) → find (is_on vote.at) votes ≡ other → answer_by vote own other ≡ Diverged first digest → DivergesFrom votes vote first
diverged_by (Some own) other votes vote first digest is answer = absurd cc
diverged_by None None votes vote first digest is answer = absurd cc
diverged_by None (Some other) votes vote first digest is answer =
    diverged_if (agrees_with other vote) votes vote other first digest refl (found (is_on vote.at) votes other is).0 answer

pub diverges : (votes : List Ballot) (vote : Ballot) (first : ℕ) (digest : List ℕ) → vote_answer votes vote ≡ Diverged first digest → DivergesFrom votes vote first
diverges votes vote first digest answer = diverged_by (find (is_by vote.at vote.view) votes) (find (is_on vote.at) votes) votes vote first digest refl answer

pub diverged_shows : HaveOneDigest → (founding : Founding) (id : List ℕ) (before after : List Entry) (entry : Entry) (vote : Ballot) (first : ℕ) (digest : List ℕ) → IsFounding founding
    → IsLegal (before ++ entry ∷ after) → vote_of entry ≡ Some vote → vote_answer (counted (votes_of before)) vote ≡ Diverged first digest
    → OneDidNotRun (worlds founding id) (before ++ entry ∷ after) vote.at first entry.seq
diverged_shows law founding id before after entry vote first digest is legal voted answer =
    let log = before ++ entry ∷ after in
    let from = diverges (counted (votes_of before)) vote first digest answer in
    let x = vote_entry before from.other (counted_came (votes_of before) from.other from.has) in
    let second = vote_seq entry vote voted in
    subst (λ (n : ℕ). OneDidNotRun (worlds founding id) log vote.at n entry.seq) from.entry
    (subst (λ (n : ℕ). OneDidNotRun (worlds founding id) log vote.at from.other.entry n) second
    (one_did_not law founding id is log legal vote.at x.entry entry from.other vote (Contains-append_left before (entry ∷ after) x.entry x.has)
    (Contains-append_right before (entry ∷ after) entry (Contains-get_or (entry ∷ after) 0 entry (omega arith))) x.is voted from.differ))
