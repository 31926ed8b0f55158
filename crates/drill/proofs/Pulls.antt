-- A worker pulls a batch.
use Rattle.std.proofs.Common.{◌≡◌, ℕ, List, refl, sym, ap, ◌∙◌, subst}
use Rattle.wire_frames.specs.declared.frame.ServerFrame.{ServerFrame}
use Rattle.reflector_core.specs.PlainSession.{PlainSession}
use Rattle.reflector_core.specs.declared.request.Request.TheVariants as request
use Rattle.reflector_core.specs.declared.request.Reply.{Reply}
use Rattle.reflector_core.specs.declared.request.Reply.TheVariants.{Again, Batch, Joined, Kept, Left, Refused, Stamped, Ticked}
use Rattle.join_sync.specs.Batches.{IsBatchAfter, most_pulled, next_cursor, next_frames}
use Rattle.join_sync.specs.declared.cursor.Cursor.{Cursor}
use Rattle.join_sync.proofs.Pulls.{batch_comes_after}
use Rattle.session_lock.specs.History.{play}
use Rattle.session_lock.specs.Passes.{PassState, SharedState}
use Rattle.replica_plain.specs.Worlds.{AreWorlds}
use Rattle.replica.specs.View.{ReplicaView, with_plain, worlds_of}
use Rattle.system_plain.proofs.Sessions.{Grows-legal}
use Rattle.drill.specs.declared.size.Size.{Size}
use Rattle.drill.specs.declared.trust.TrustReplay.{TrustReplay}
use Rattle.drill.specs.declared.worker.Worker.{Worker}
use Rattle.drill.specs.Taking.{AreFine, HasTakenAll, after_frames}
use Rattle.drill.specs.Turns.{HasCome, HasTakenMore, KeepsConnection, KeepsEvents}
use Rattle.drill.specs.ViewCalls.{has_tick}
use Rattle.drill.specs.Workers.{HasAsked, HasPassed}
use Rattle.drill.specs.Working.{ReplicaWorks}
use Rattle.drill.proofs.Passing.{has_passed}
use Rattle.drill.proofs.Requests.{pull_session}
use Rattle.drill.proofs.ViewsKept.{SameView}
use Rattle.drill.proofs.Workers.{TakesPull, pulled, works_grow}

-- the seq that is asked for is the cursor's
pub asked_behind : (gives : ℕ → Type 0) (views : ℕ) (shared : SharedState TrustReplay) (view : ℕ) (before after : PassState) (from : ℕ) (cursor : Cursor) (given : Reply)
    → HasAsked gives views shared view before after (request.Pull from most_pulled) given → from ≡ cursor.after → HasAsked gives views shared view before after (request.Pull cursor.after most_pulled) given
asked_behind gives views shared view before after from cursor given asked is = subst (λ (from : ℕ). HasAsked gives views shared view before after (request.Pull from most_pulled) given) is asked

module _ (gives : ℕ → Type 0) (views : ℕ) (shared : SharedState TrustReplay) (view : ℕ) (before after : PassState) (r : ReplicaView) (cursor : Cursor) (given : Reply)
    (asked : HasAsked gives views shared view before after (request.Pull cursor.after most_pulled) given) (works : ReplicaWorks (play before.seen) r cursor) (laws : AreWorlds (worlds_of r)) where
  -- the session that answered
  there : ReplicaWorks (play asked.history) r cursor
  there = works_grow (play before.seen) (play asked.history) r cursor (Grows-legal (play before.seen) (play asked.history) asked.on.grows asked.sound.legal) asked.sound works

  comes : TakesPull (play asked.history) r cursor given
  comes = subst (TakesPull (play asked.history) r cursor) (sym asked.replies) (pulled (play asked.history) r cursor laws asked.sound there)

  same : play asked.history ≡ play after.seen
  same = sym (asked.session ∙ pull_session (play asked.history) cursor.after most_pulled)

  pub batch_follows : IsBatchAfter cursor.after given
  batch_follows = subst (IsBatchAfter cursor.after) (sym asked.replies) (batch_comes_after (play asked.history) cursor.after most_pulled asked.sound.legal there.sent.within)

  pub pull_fine : (frames : List ServerFrame) → frames ≡ next_frames cursor given → AreFine r frames
  pull_fine frames is = subst (AreFine r) (sym is) comes.fine

  pub pull_works : (new : ReplicaView) (next : Cursor) (frames : List ServerFrame) → frames ≡ next_frames cursor given → next ≡ next_cursor cursor given → HasTakenAll r frames new → ReplicaWorks (play after.seen) new next
  pull_works new next frames frames_are next_is taken =
      subst (λ (next : Cursor). ReplicaWorks (play after.seen) new next) (sym next_is)
      (subst (λ (s : PlainSession). ReplicaWorks s new (next_cursor cursor given)) same
      (subst (λ (r : ReplicaView). ReplicaWorks (play asked.history) r (next_cursor cursor given)) (sym (taken.all ∙ ap (after_frames r) frames_are)) comes.works))

  pub pull_comes : (new : ReplicaView) (next : Cursor) (frames : List ServerFrame) → frames ≡ next_frames cursor given → next ≡ next_cursor cursor given → HasTakenAll r frames new
      → HasCome (play after.seen) new cursor next (has_tick given)
  pull_comes new next frames frames_are next_is taken =
      subst (λ (next : Cursor). HasCome (play after.seen) new cursor next (has_tick given)) (sym next_is)
      (subst (λ (s : PlainSession). HasCome s new cursor (next_cursor cursor given) (has_tick given)) same
      (subst (λ (r : ReplicaView). HasCome (play asked.history) r cursor (next_cursor cursor given) (has_tick given)) (sym (taken.all ∙ ap (after_frames r) frames_are)) comes.come))

  pub pull_passes : HasPassed gives views view before after
  pull_passes = has_passed gives views view shared before after (request.Pull cursor.after most_pulled) given asked
      (λ s. ap (λ (s : PlainSession). s.log) (pull_session s cursor.after most_pulled)) (λ s. ap (λ (s : PlainSession). s.kept) (pull_session s cursor.after most_pulled)) refl

  pub pull_keeps : (new : ReplicaView) (frames : List ServerFrame) → frames ≡ next_frames cursor given → HasTakenAll r frames new → new ≡ with_plain r new.plain × SameView r.plain new.plain
  pull_keeps new frames frames_are taken =
      subst (λ (new : ReplicaView). new ≡ with_plain r new.plain × SameView r.plain new.plain) (sym (taken.all ∙ ap (after_frames r) frames_are)) (comes.kept, comes.same)

-- the cursor is of the same Join
pub same_connection : (cursor : Cursor) (given : Reply) → KeepsConnection cursor (next_cursor cursor given)
same_connection cursor (Joined seq time last from base) = record { view = refl; joined = refl }
same_connection cursor (Stamped seq time) = record { view = refl; joined = refl }
same_connection cursor (Again seq time) = record { view = refl; joined = refl }
same_connection cursor (Ticked time) = record { view = refl; joined = refl }
same_connection cursor (Left seq time) = record { view = refl; joined = refl }
same_connection cursor Kept = record { view = refl; joined = refl }
same_connection cursor (Batch entries tick) = record { view = refl; joined = refl }
same_connection cursor (Refused refusal) = record { view = refl; joined = refl }

pub events_kept : (r new : ReplicaView) → new ≡ with_plain r new.plain → SameView r.plain new.plain → KeepsEvents r new
events_kept r new kept same = record {
  program = ap (λ (r : ReplicaView). r.program) kept;
  id = ap (λ (r : ReplicaView). r.id) kept;
  view = same.view;
  outbox = same.outbox;
  acknowledged = same.acknowledged;
}

-- the worker has taken more
pub has_taken_more : (gives : ℕ → Type 0) (size : Size) (shared : SharedState TrustReplay) (w new : Worker) (old next : Cursor) (given : Reply)
    → HasPassed gives size.views w.view w.pass new.pass → ReplicaWorks (play new.pass.seen) new.replica next → new.replica ≡ with_plain w.replica new.replica.plain × SameView w.replica.plain new.replica.plain
    → next ≡ next_cursor old given → HasTakenMore gives size.views w new old next
has_taken_more gives size shared w new old next given passed works keeps is = record {
  works = works;
  passed = passed;
  events = events_kept w.replica new.replica keeps.0 keeps.1;
  given = keeps.1.given;
  base = keeps.1.base;
  connection = subst (KeepsConnection old) (sym is) (same_connection old given);
}
