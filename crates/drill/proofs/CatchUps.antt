-- A worker takes batch after batch.
use Rattle.std.proofs.Common.{◌≡◌, ◌⊎◌, inl, inr, ◌≤◌, ◌<◌, ◌+◌, ◌*◌, ℕ, true, false, length, refl, sym, ap, ◌∙◌, subst, arith}
use Rattle.reflector_core.specs.PlainSession.{IsSoundSession}
use Rattle.reflector_core.specs.Play.{first_session}
use Rattle.reflector_core.specs.declared.request.Request.TheVariants as request
use Rattle.reflector_core.specs.declared.request.Reply.{Reply}
use Rattle.join_sync.specs.declared.cursor.Cursor.{Cursor}
use Rattle.join_sync.specs.Batches.{most_pulled}
use Rattle.session_lock.specs.History.{play}
use Rattle.session_lock.specs.Passes.{PassState, SharedState}
use Rattle.session_lock.proofs.Histories.{sound_end}
use Rattle.connection.specs.Exchanges.{exchanges_in}
use Rattle.replica.specs.View.{ReplicaView}
use Rattle.system_plain.proofs.Sessions.{Grows-legal}
use Rattle.drill.specs.declared.size.Size.{Size}
use Rattle.drill.specs.declared.trust.TrustReplay.{TrustReplay}
use Rattle.drill.specs.declared.worker.Worker.{Worker}
use Rattle.drill.specs.Turns.{HasCome, HasPulled, HasRead, HasTakenMore, KeepsEvents}
use Rattle.drill.specs.Workers.{HasAsked, HasPassed, IsWorker, KeepsSource}
use Rattle.drill.specs.Working.{ReplicaWorks}
use Rattle.drill.proofs.CallLaws.{PullsSince, pulls_last, pulls_on}
use Rattle.drill.proofs.Passing.{has_passed, passes_on}
use Rattle.drill.proofs.Requests.{tick_log}
use Rattle.drill.proofs.Workers.{works_grow}

-- so many batches were taken, and the log has more
pub record TakesBatches (gives : ℕ → Type 0) (size : Size) (shared : SharedState TrustReplay) (first now : Worker) (start cursor : Cursor) (count : ℕ) : Type 0 where
  pub worker : IsWorker gives size shared now
  pub more : HasTakenMore gives size.views first now start cursor
  pub kept : KeepsSource first now
  pub come : most_pulled * count ≤ cursor.after
  pub left : (count ≡ 0) ⊎ (cursor.after < length (play now.pass.seen).log)
  pub calls : PullsSince first.view first.pass now.pass start cursor count

module _ (gives : ℕ → Type 0) (size : Size) (shared : SharedState TrustReplay) where
  sound_now : (w : Worker) → IsWorker gives size shared w → IsSoundSession (play w.pass.seen)
  sound_now w worker = sound_end first_session w.pass.seen worker.sound

  tick_passes : (w : Worker) (after : PassState) (now : ℕ) (given : Reply) → HasAsked gives size.views shared w.view w.pass after (request.Tick now) given → HasPassed gives size.views w.view w.pass after
  tick_passes w after now given asked = has_passed gives size.views w.view shared w.pass after (request.Tick now) given asked (λ s. tick_log s now) (λ s. refl) refl

  -- a tick begins
  pub begins : (w new : Worker) (cursor : Cursor) (now : ℕ) (given : Reply) → ReplicaWorks (play w.pass.seen) w.replica cursor → new ≡ record w { pass = new.pass } → IsWorker gives size shared new
      → HasAsked gives size.views shared w.view w.pass new.pass (request.Tick now) given → TakesBatches gives size shared w new cursor cursor 0
  begins w new cursor now given works same worker asked =
      let passed = tick_passes w new.pass now given asked in
      let sound = sound_now new worker in
      let replica : w.replica ≡ new.replica = sym (ap (λ (w : Worker). w.replica) same) in
      record {
        worker = worker;
        more = record {
          works = subst (λ (r : ReplicaView). ReplicaWorks (play new.pass.seen) r cursor) replica
              (works_grow (play w.pass.seen) (play new.pass.seen) w.replica cursor (Grows-legal (play w.pass.seen) (play new.pass.seen) passed.on.grows sound.legal) sound works);
          passed = passed;
          events = subst (KeepsEvents w.replica) replica (record { program = refl; id = refl; view = refl; outbox = refl; acknowledged = refl });
          given = ap (λ (r : ReplicaView). r.plain.given) (sym replica);
          base = ap (λ (r : ReplicaView). r.plain.base) (sym replica);
          connection = record { view = refl; joined = refl };
        };
        kept = same ∙ ap (λ (r : ReplicaView). record w { pass = new.pass; replica = r }) replica;
        come = omega arith;
        left = inl refl;
        calls = (exchanges_in first_session w.pass.seen w.view, request.Tick now, given, asked.exchanged, (refl, refl), (now, refl));
      }

  pub more_on : (first w new : Worker) (start old next : Cursor) → w.view ≡ first.view → HasTakenMore gives size.views first w start old → HasTakenMore gives size.views w new old next → HasTakenMore gives size.views first new start next
  more_on first w new start old next view one two = record {
    works = two.works;
    passed = passes_on gives size.views first.view first.pass w.pass new.pass one.passed (subst (λ (view : ℕ). HasPassed gives size.views view w.pass new.pass) view two.passed);
    events = record {
      program = two.events.program ∙ one.events.program;
      id = two.events.id ∙ one.events.id;
      view = two.events.view ∙ one.events.view;
      outbox = two.events.outbox ∙ one.events.outbox;
      acknowledged = two.events.acknowledged ∙ one.events.acknowledged;
    };
    given = two.given ∙ one.given;
    base = two.base ∙ one.base;
    connection = record { view = two.connection.view ∙ one.connection.view; joined = two.connection.joined ∙ one.connection.joined };
  }

  pub kept_on : (first w new : Worker) → KeepsSource first w → KeepsSource w new → KeepsSource first new
  kept_on first w new one two = two ∙ ap (λ (w : Worker). record w { pass = new.pass; replica = new.replica }) one

  -- one more batch, and the log has more
  pub goes_on : (first w new : Worker) (start old next : Cursor) (count : ℕ) → TakesBatches gives size shared first w start old count → IsWorker gives size shared new → KeepsSource w new
      → HasTakenMore gives size.views w new old next → HasCome (play new.pass.seen) new.replica old next false → HasPulled w.view w.pass new.pass old next false
      → TakesBatches gives size shared first new start next (count + 1)
  goes_on first w new start old next count takes worker kept more come pulled =
      record {
        worker = worker;
        more = more_on first w new start old next (ap (λ (w : Worker). w.view) takes.kept) takes.more more;
        kept = kept_on first w new takes.kept kept;
        come = let before = takes.come in let moved = come.1 in omega arith;
        left = inr (let few = come.0 in let moved = come.1 in omega arith);
        calls = pulls_on first.view count first.pass w.pass new.pass start old next takes.calls
            (subst (λ (view : ℕ). HasPulled view w.pass new.pass old next false) (ap (λ (w : Worker). w.view) takes.kept) pulled);
      }

  -- the last one
  pub read_on : (first w new : Worker) (start old next : Cursor) (count : ℕ) → TakesBatches gives size shared first w start old count → HasPulled w.view w.pass new.pass old next true
      → HasRead first.view first.pass new.pass start next
  read_on first w new start old next count takes pulled =
      pulls_last first.view count first.pass w.pass new.pass start old next takes.calls
      (subst (λ (view : ℕ). HasPulled view w.pass new.pass old next true) (ap (λ (w : Worker). w.view) takes.kept) pulled)

  -- a log has no more entries than so many batches
  pub never_more : (first w : Worker) (start cursor : Cursor) (count : ℕ) → 4100 ≤ count → TakesBatches gives size shared first w start cursor count → ⊥
  never_more first w start cursor count all takes = absurd_of takes.left
    where
      absurd_of : (count ≡ 0) ⊎ (cursor.after < length (play w.pass.seen).log) → ⊥
      absurd_of (inl none) = omega arith
      absurd_of (inr left) = let room = (sound_now w takes.worker).room in let come = takes.come in omega arith
