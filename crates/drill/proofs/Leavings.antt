-- A worker leaves.
use Rattle.std.proofs.Common.{◌≡◌, inl, inr, ℕ, ◌+◌, ◌-◌, ◌*◌, ◌≤◌, Bool, true, false, List, [], ◌∷◌, refl, sym, ap, ◌∙◌, subst, arith}
use Rattle.tea_base.specs.declared.entry.What.{What}
use Rattle.tea_base.specs.declared.entry.What.TheVariants as what
use Rattle.tea_base.specs.Readings.{last_number}
use Rattle.reflector_core.specs.PlainSession.{PlainSession}
use Rattle.reflector_core.specs.Answer.{answer}
use Rattle.reflector_core.specs.Play.{first_session}
use Rattle.reflector_core.specs.declared.request.Request.TheVariants.{Leave}
use Rattle.reflector_core.specs.declared.request.Reply.{Reply}
use Rattle.session_lock.specs.History.{play}
use Rattle.session_lock.specs.Passes.{PassState, SharedState, own_calls}
use Rattle.session_lock.proofs.Histories.{sound_end}
use Rattle.join_sync.specs.declared.cursor.Cursor.{Cursor}
use Rattle.connection.specs.Exchanges.{exchanges_in}
use Rattle.replica.specs.View.{worlds_of}
use Rattle.system_plain.proofs.FactsGrow.{follows_log_grows}
use Rattle.system_plain.proofs.Sessions.{Grows-legal}
use Rattle.drill.specs.declared.trust.TrustReplay.{TrustReplay}
use Rattle.drill.specs.declared.size.Size.{Size}
use Rattle.drill.specs.declared.worker.Worker.{Worker}
use Rattle.drill.specs.declared.finished.Course.{Course}
use Rattle.drill.specs.declared.finished.Course.TheVariants as course
use Rattle.drill.specs.Asking.{IsDrillHistory, entries_used_by, most_asked}
use Rattle.drill.specs.Doing.{HasDone, HasFinished, IsHereBy}
use Rattle.drill.specs.Drilled.{drawn_numbers, own, own_turns}
use Rattle.drill.specs.Turns.{Ends, HasEnded, HasMade, HasStopped, IsWorkerReady, MayCatchUp, LeavesUndone, calls_made}
use Rattle.drill.specs.ViewCalls.{AreCallsOf, MayLeave}
use Rattle.drill.specs.Workers.{ChangesPass, HasAsked, IsWorker}
use Rattle.drill.proofs.Grown.{HasCalled, base_later, has_called}
use Rattle.drill.proofs.Histories.{done_same, here_same}
use Rattle.drill.proofs.Requests.{HasLeft, finished_early, finished_whole, leave_row}

-- whether the replica has taken the Sync of its newest Join
abbrev pub synced_after : Course → Bool
synced_after course.Whole = true
synced_after course.SendRefused = true
synced_after course.JoinRefused = false

module _ (gives : ℕ → Type 0) (size : Size) (shared : SharedState TrustReplay) (w : Worker) (p : PassState) (cursor : Cursor) (now : ℕ) (reply : Reply)
    (worker : IsWorker gives size shared (record w { pass = p })) (asked : HasAsked gives size.views shared w.view w.pass p (Leave w.view cursor.joined now) reply) where
  call : HasCalled gives size.views w.view w.pass p (Leave w.view cursor.joined now) asked.history
  call = has_called gives size.views shared w.view w.pass p (Leave w.view cursor.joined now) reply asked

  few_asked : entries_used_by (own_calls w.pass) ≤ 1 + 3 * size.events → entries_used_by (own_calls p) ≤ most_asked size.events
  few_asked few = omega (arith, few, call.few)

  -- it is its last call
  leaves_last : MayLeave w.view size.events cursor (calls_made w) → AreCallsOf w.view size.events (exchanges_in first_session p.seen w.view)
  leaves_last may = inr (cursor, (calls_made w, Leave w.view cursor.joined now, reply, asked.exchanged, may, (now, refl)))

  leaves : IsDrillHistory gives size.views p.seen → IsHereBy (play w.pass.seen).log w.view cursor.joined
      → HasLeft (play asked.history) w.view (answer (play asked.history) (Leave w.view cursor.joined now))
  leaves whole here =
      leave_row (play asked.history) w.view cursor.joined now
      (here_same (play w.pass.seen).log (play asked.history).log w.view cursor.joined (call.same whole) here)

  -- the number of its events stays
  count_kept : (number : ℕ) (left whole : List What) → IsDrillHistory gives size.views p.seen → HasDone (play w.pass.seen).log w.view number left whole
      → IsHereBy (play w.pass.seen).log w.view cursor.joined → last_number (play p.seen).log w.replica.plain.view ≡ number
  count_kept number left all whole done here =
      let s = play asked.history in
      let there = done_same (play w.pass.seen).log s.log w.view number left all (call.same whole) done in
      ap (λ (view : ℕ). last_number (play p.seen).log view) worker.view
      ∙ ap (λ (new : PlainSession). last_number new.log w.view) asked.session
      ∙ (leaves whole here).sent ∙ there.sent

  -- it has made all its turns
  ends_whole : IsWorkerReady gives size shared w cursor size.events → IsDrillHistory gives size.views p.seen → Ends size (play p.seen) (record w { pass = p })
  ends_whole ready whole =
      let asking = Leave w.view cursor.joined now in
      let s = play asked.history in
      let does = ready.does (call.first whole) in
      let all = own size.seed w.view size.events in
      let none : size.events - size.events ≡ 0 = omega arith in
      let done : HasDone (play w.pass.seen).log w.view size.events (what.Exit ∷ []) all =
      subst (λ (count : ℕ). HasDone (play w.pass.seen).log w.view size.events (own_turns (size.events + 1) (drawn_numbers w.source count)) all) none does.done in
      let there = done_same (play w.pass.seen).log s.log w.view size.events (what.Exit ∷ []) all (call.same whole) done in
      let number = count_kept size.events (what.Exit ∷ []) all whole done does.here in
      record {
        finished = subst (λ (new : PlainSession). HasFinished new w.view all) (sym asked.session)
            (finished_whole s (answer s asking).session w.view size.events all there (leaves whole does.here).done);
        counted = record { program = ready.works.program; least = omega (arith, number, ready.acknowledged); most = omega (arith, number, ready.acknowledged) };
        based = λ many early. base_later (play w.pass.seen) (play p.seen) w.view call.grows size.events w.replica.plain.base
            call.keeps (does.based many);
      }

  left_whole : IsWorkerReady gives size shared w cursor size.events → HasEnded gives size shared (record { worker = record w { pass = p }; is_synced = true })
  left_whole ready =
      let works = call.works w.replica cursor worker.sound ready.works in
      record {
        worker = worker;
        few = few_asked ready.few;
        catches = record { program = works.program; follows = works.follows; synced = works.synced; within = works.within };
        ends = λ whole. ends_whole ready whole;
        calls = λ whole. leaves_last (inl ready.calls);
        late = λ whole refused. absurd cc;
      }

  -- it was refused
  ends_early : LeavesUndone size (play w.pass.seen) w cursor.joined → IsDrillHistory gives size.views p.seen → Ends size (play p.seen) (record w { pass = p })
  ends_early stops whole =
      let asking = Leave w.view cursor.joined now in
      let s = play asked.history in
      let all = own size.seed w.view size.events in
      let same = call.same whole in
      let there = done_same (play w.pass.seen).log s.log w.view stops.number stops.left all same stops.done in
      let here = here_same (play w.pass.seen).log s.log w.view cursor.joined same stops.here in
      let exits = leaves whole stops.here in
      let before : last_number (play w.pass.seen).log w.replica.plain.view ≡ stops.number = ap (last_number (play w.pass.seen).log) worker.view ∙ stops.done.sent in
      let number = count_kept stops.number stops.left all whole stops.done stops.here in
      record {
        finished = subst (λ (new : PlainSession). HasFinished new w.view all) (sym asked.session)
            (finished_early s (answer s asking).session w.view stops.number cursor.joined stops.left all here there stops.some
            (omega (arith, stops.ended, asked.on.grows.horizon, exits.horizon)) exits.done);
        counted = record {
          program = stops.counted.program;
          least = omega (arith, stops.counted.least, before, number);
          most = omega (arith, stops.counted.most, before, number);
        };
        based = λ many early. absurd (omega (arith, early, stops.ended, call.grows.horizon));
      }

  catches_on : (synced : Bool) → MayCatchUp (play w.pass.seen) w.replica synced → MayCatchUp (play p.seen) w.replica synced
  catches_on false may = tt
  catches_on true may =
      let grew = call.grows in
      let grows = Grows-legal (play w.pass.seen) (play p.seen) grew (sound_end first_session p.seen worker.sound).legal in
      record {
        program = may.program;
        follows = follows_log_grows (worlds_of w.replica) (play w.pass.seen) (play p.seen) w.replica.plain grows may.within may.follows;
        synced = may.synced;
        within = omega (arith, may.within, grew.horizon);
      }

  left_early : (synced : Bool) → HasStopped gives size shared w cursor synced → HasEnded gives size shared (record { worker = record w { pass = p }; is_synced = synced })
  left_early synced stopped = record {
    worker = worker;
    few = few_asked stopped.few;
    catches = catches_on synced stopped.catches;
    ends = λ whole. ends_early (stopped.stops (call.first whole)) whole;
    calls = λ whole. leaves_last (inr (stopped.calls (call.first whole)));
    late = λ whole refused. let stops = stopped.stops (call.first whole) in omega (arith, stops.ended, call.grows.horizon);
  }

  left_here : (course : Course) → HasMade gives size shared w cursor size.events course → HasEnded gives size shared (record { worker = record w { pass = p }; is_synced = synced_after course })
  left_here course.Whole made = left_whole made
  left_here course.SendRefused made = left_early true made
  left_here course.JoinRefused made = left_early false made

pub left
    : (gives : ℕ → Type 0) (size : Size) (shared : SharedState TrustReplay) (w new : Worker) (cursor : Cursor) (course : Course) (now : ℕ) (reply : Reply)
    → HasMade gives size shared w cursor size.events course → ChangesPass w new → IsWorker gives size shared new → HasAsked gives size.views shared w.view w.pass new.pass (Leave w.view cursor.joined now) reply
    → HasEnded gives size shared (record { worker = new; is_synced = synced_after course })
left gives size shared w new cursor course now reply made same worker asked =
    subst (λ (one : Worker). HasEnded gives size shared (record { worker = one; is_synced = synced_after course })) (sym same)
    (left_here gives size shared w new.pass cursor now reply (subst (IsWorker gives size shared) same worker) asked course made)
