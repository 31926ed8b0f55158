-- What it shows that two votes on one entry differ.
use Rattle.std.specs.Prelude.{ℕ, ◌≡◌, List, ◌∷◌, ◌++◌, Contains, Some}
use Rattle.tea_base.specs.Legal.{IsLegal}
use Rattle.tea_base.specs.declared.entry.Entry.{Entry}
use Rattle.model_solved.specs.Founding.{Founding, IsFounding}
use Rattle.world_plain.specs.Messages.{PlainOutgoing}
use Rattle.world_plain.specs.World.{WorldRecord}
use Rattle.replica_plain.specs.Worlds.{Worlds}
use Rattle.replica_plain.specs.PlainReplica.{PlainReplica}
use Rattle.replica.specs.RealWorlds.{worlds}
use Rattle.view_shell.specs.Agreeing.{TakesNext, world_behind}
use Rattle.view_shell.specs.Phases.{vote_spelling}
use Rattle.vote_book.specs.declared.vote.Vote.TheVariants.{Diverged}
use Rattle.vote_book.specs.VoteBook.{Ballot, counted, verdict_on, vote_answer}
use Rattle.command_votes.specs.VoteForm.{IsEventWith}
use Rattle.command_votes.specs.VoteRead.{vote_of, votes_of}

-- An entry is the vote on another entry of a view that runs the program on the log: the view's replica follows the log, takes that
-- entry of it, and the event is the one by which a view with that world votes.
pub record IsVoteOfRunner (m : Worlds WorldRecord PlainOutgoing) (log : List Entry) (at : ℕ)
    (vote : Entry) : Type 0 where
  pub replica : PlainReplica WorldRecord PlainOutgoing
  pub taken : Entry
  pub takes : TakesNext m log replica taken
  pub on : taken.seq ≡ at
  pub spelled : IsEventWith (vote_spelling at (world_behind m replica taken)) vote.what

-- two entries of a log, by their numbers, are not both the votes on an entry of views that run the program on the log
pub record OneDidNotRun (m : Worlds WorldRecord PlainOutgoing) (log : List Entry) (at first second : ℕ) : Type 0 where
  pub one : Entry
  pub other : Entry
  pub has_one : Contains log one
  pub has_other : Contains log other
  pub is_first : one.seq ≡ first
  pub is_second : other.seq ≡ second
  pub not_both : IsVoteOfRunner m log at one → IsVoteOfRunner m log at other → ⊥

-- One of a log's votes is answered `Diverged` from the votes before it: one of the two views, whose votes they are, did not run the
-- program on the log.
abbrev pub DivergedShows : Type 0
DivergedShows =
    (founding : Founding) (id : List ℕ) (before after : List Entry) (entry : Entry) (vote : Ballot) (first : ℕ)
    (digest : List ℕ) → IsFounding founding
    → IsLegal (before ++ entry ∷ after) → vote_of entry ≡ Some vote
    → vote_answer (counted (votes_of before)) vote ≡ Diverged first digest
    → OneDidNotRun (worlds founding id) (before ++ entry ∷ after) vote.at first entry.seq

-- the same of the two votes that a verdict on a log names
abbrev pub SplitsShow : Type 0
SplitsShow =
    (founding : Founding) (id : List ℕ) (log : List Entry) (at first second : ℕ) → IsFounding founding → IsLegal log
    → (verdict_on (counted (votes_of log)) at).split ≡ Some (first, second)
    → OneDidNotRun (worlds founding id) log at first second
