-- What a view's own history tells of its end, told of the whole history.
use Rattle.std.proofs.Common.{◌≡◌, inl, inr, ℕ, ◌-◌, ◌%◌, ◌≤◌, Bool, true, false, List, [], ◌∷◌, ◌++◌, Option, length, map, sym, ap, ◌∙◌, subst, arith}
use Rattle.tea_base.specs.declared.entry.Entry.{Entry}
use Rattle.tea_base.specs.declared.entry.What.{What}
use Rattle.tea_base.specs.Legal.{IsLegal}
use Rattle.tea_base.specs.Limits.{end_of_time}
use Rattle.tea_base.specs.Readings.{last_number}
use Rattle.reflector_core.specs.PlainSession.{PlainSession}
use Rattle.reflector_core.specs.Growth.{GrowsTo}
use Rattle.reflector_core.specs.Play.{first_session}
use Rattle.system_plain.proofs.FactsGrow.{follows_log_grows}
use Rattle.system_plain.proofs.Sessions.{Grows-legal}
use Rattle.session_lock.specs.declared.knowledge.Item.{Item}
use Rattle.session_lock.specs.History.{IsSoundThrough, Saw, calls_of, play}
use Rattle.session_lock.specs.Passes.{SharedState}
use Rattle.session_lock.proofs.Histories.{history_grows, sound_end}
use Rattle.replica.specs.View.{ReplicaView, worlds_of}
use Rattle.drill.specs.declared.finished.Finished.{Finished}
use Rattle.drill.specs.declared.size.Size.{Size}
use Rattle.drill.specs.declared.trust.TrustReplay.{TrustReplay}
use Rattle.drill.specs.Asking.{IsDrillHistory}
use Rattle.drill.specs.Doing.{HasBase, HasFinished, loss_interval}
use Rattle.drill.specs.Drilled.{IsCutShort, done_by, entries_by, own}
use Rattle.drill.specs.Ending.{Catches, IsCountedBy}
use Rattle.drill.specs.Turns.{Ends, HasEnded, MayCatchUp}
use Rattle.drill.proofs.Histories.{apart, by_same, history_first, kept_on}
use Rattle.drill.proofs.Readings.{events_same}

-- how it has ended, by the closed session
pub record IsDoneIn (size : Size) (s : PlainSession) (one : Finished) : Type 0 where
  pub ends : Ends size s one.worker
  pub catches : MayCatchUp s one.worker.replica one.is_synced
  pub late : one.is_synced ≡ false → end_of_time ≤ s.horizon

pub catches_synced : (s : PlainSession) (r : ReplicaView) (synced : Bool) → synced ≡ true → MayCatchUp s r synced → Catches s r
catches_synced s r synced is may = subst (MayCatchUp s r) is may

catches_grow : (s new : PlainSession) (r : ReplicaView) → GrowsTo s new → IsLegal new.log → Catches s r → Catches new r
catches_grow s new r grows legal catches = record {
  program = catches.program;
  follows = follows_log_grows (worlds_of r) s new r.plain (Grows-legal s new grows legal) catches.within catches.follows;
  synced = catches.synced;
  within = omega (arith, catches.within, grows.horizon);
}

module _ (gives : ℕ → Type 0) (size : Size) (shared : SharedState TrustReplay) (one : Finished) (rest : List Item) (ended : HasEnded gives size shared one)
    (whole : IsDrillHistory gives size.views (one.worker.pass.seen ++ rest)) (sound : IsSoundThrough first_session (one.worker.pass.seen ++ rest)) (none : calls_of (one.worker.view ∷ []) rest ≡ []) where
  abbrev old : PlainSession
  old = play one.worker.pass.seen

  abbrev new : PlainSession
  new = play (one.worker.pass.seen ++ rest)

  abbrev view : ℕ
  view = one.worker.view

  first : IsDrillHistory gives size.views one.worker.pass.seen
  first = history_first gives size.views one.worker.pass.seen rest whole

  same : entries_by view new.log ≡ entries_by view old.log
  same = apart gives size.views view one.worker.pass.seen rest whole none

  grows : GrowsTo old new
  grows = history_grows first_session one.worker.pass.seen rest

  same_done : done_by view new.log ≡ done_by view old.log
  same_done = ap (λ (es : List Entry). map (λ (e : Entry). e.what) es) same

  finished_on : (all : List What) → HasFinished old view all → HasFinished new view all
  finished_on all (inl done) = inl (same_done ∙ done)
  finished_on all (inr cut) = inr (omega (arith, cut.0, grows.horizon), subst (IsCutShort all) (sym same_done) cut.1)

  last_same : (n : ℕ) → n ≡ view → last_number new.log n ≡ last_number old.log n
  last_same n is = subst (λ (v : ℕ). last_number new.log v ≡ last_number old.log v) (sym is) (ap length (events_same old.log new.log view same))

  counted_on : IsCountedBy old one.worker.replica → IsCountedBy new one.worker.replica
  counted_on by =
      let last = last_same one.worker.replica.plain.view ended.worker.view in
      record { program = by.program; least = omega (arith, by.least, last); most = omega (arith, by.most, last) }

  based_on : (number : ℕ) (base : Option ℕ) → HasBase old view number base → HasBase new view number base
  based_on number base has = record {
    time = has.time;
    is = has.is;
    late = by_same old.log new.log view (number - number % loss_interval - 1) has.time same has.late;
    kept = kept_on has.time one.worker.pass.seen rest has.kept;
  }

  catches_on : (r : ReplicaView) (synced : Bool) → MayCatchUp old r synced → MayCatchUp new r synced
  catches_on r true may = catches_grow old new r grows (sound_end first_session (one.worker.pass.seen ++ rest) sound).legal may
  catches_on r false may = tt

  carried : IsDoneIn size new one
  carried =
      let told = ended.ends first in
      record {
        ends = record {
          finished = finished_on (own size.seed view size.events) told.finished;
          counted = counted_on told.counted;
          based = λ enough below. based_on size.events one.worker.replica.plain.base (told.based enough (omega (arith, below, grows.horizon)));
        };
        catches = catches_on one.worker.replica one.is_synced ended.catches;
        late = λ lost. omega (arith, ended.late first lost, grows.horizon);
      }

pub done_in
    : (gives : ℕ → Type 0) (size : Size) (shared : SharedState TrustReplay) (one : Finished) (history : List Item) → HasEnded gives size shared one → IsDrillHistory gives size.views history
    → IsSoundThrough first_session history → Saw (one.worker.view ∷ []) one.worker.pass.seen history → IsDoneIn size (play history) one
done_in gives size shared one history ended whole sound saw =
    subst (λ (h : List Item). IsDoneIn size (play h) one) saw.1
    (carried gives size shared one saw.0 ended (subst (IsDrillHistory gives size.views) (sym saw.1) whole) (subst (IsSoundThrough first_session) (sym saw.1) sound) saw.2)
