-- Receive keeps the order of SENDs and DONEs.
use Rattle.std.proofs.Common.{ℕ, ◌+◌, ◌≡◌, ◌≤◌, inl, inr, max, Bool, true, false, cond, eqb, nat_lt, nat_le, List, [], ◌∷◌, Option, Some, None, length, slice_get, refl, arith, sym, ap, ◌∙◌, subst}
use Rattle.tea_base.specs.declared.entry.Entry.{Entry}
use Rattle.tea_base.specs.Readings.{last_number}
use Rattle.wire_frames.specs.declared.frame.ClientFrame.{ClientFrame}
use Rattle.wire_frames.specs.declared.frame.ServerFrame.{ServerFrame}
use Rattle.wire_frames.specs.declared.frame.ServerFrame.TheVariants.{Alive, Done, Recv, Refused, Snapped, Sync, Tick}
use Rattle.wire_frames.specs.declared.start.Base.{Base}
use Rattle.wire_frames.specs.declared.tags.TheConstants.{JOIN_TAG, SNAP_TAG}
use Rattle.reflector_core.specs.PlainSession.{PlainSession}
use Rattle.replica_plain.specs.PlainReplica.{PlainReplica}
use Rattle.replica_plain.specs.Taking.{Taken, acknowledges, taken}
use Rattle.replica_plain.specs.Worlds.{Worlds}
use Rattle.replica_plain.proofs.Numbers.{SyncAnswers, sync_answers}
use Rattle.join_sync.specs.declared.cursor.Cursor.{Cursor}
use Rattle.system_plain.specs.Schedule.{ViewPayloads}
use Rattle.system_plain.specs.Steps.{receive_by, receive_next, receive_on}
use Rattle.system_plain.specs.System.{Client, Connection, System, view_client, with_down}
use Rattle.system_plain.proofs.Facts.{NewestStands, WorldsStand}
use Rattle.system_plain.proofs.Numbers.{DonesWithin, LogNumbers, NumbersStand, ReplicaNumbers}
use Rattle.system_plain.proofs.Order.{NoDones, NoSends, OrderStands, RunsInOrder, Sending}
use Rattle.system_plain.proofs.OrderQuiet.{none_sends_rise, order_both, waiting_runs}
use Rattle.system_plain.proofs.OrderTake.{none_rises, sends_end-le}
use Rattle.system_plain.proofs.Pace.{DonesRise, done_is_taken, dones_end}
use Rattle.system_plain.proofs.Receives.{taken_view}

runs_if : {W O : Type 0} (log : List Entry) (c : Connection) (test : Bool) (a b : Taken W O) → (test ≡ true → RunsInOrder log a.replica c) → (test ≡ false → RunsInOrder log b.replica c) → RunsInOrder log (cond test a b).replica c
runs_if log c true a b held fell = held refl
runs_if log c false a b held fell = fell refl

-- frames without their first one, which is no DONE
record DropsNoDone (before rest : List ServerFrame) : Type 0 where
  pub rise : (k : ℕ) → DonesRise k before → DonesRise k rest
  pub end : (k : ℕ) → dones_end k before ≡ dones_end k rest
  pub none : NoDones before → NoDones rest

-- a replica with the same numbers
record SameNumbers {W O : Type 0} (r new : PlainReplica W O) : Type 0 where
  pub synced : new.synced ≡ r.synced
  pub view : new.view ≡ r.view
  pub acknowledged : new.acknowledged ≡ r.acknowledged
  pub given : new.given ≡ r.given
  pub outbox : new.outbox ≡ r.outbox

runs_pass : {W O : Type 0} (log : List Entry) (r new : PlainReplica W O) (c : Connection) (before rest : List ServerFrame) → SameNumbers r new → DropsNoDone before rest → RunsInOrder log r (with_down c before) → RunsInOrder log new (with_down c rest)
runs_pass log r new c before rest same passes runs = record {
  dones = λ synced. rw same.acknowledged (passes.rise r.acknowledged (runs.dones (sym same.synced ∙ synced)));
  sends = λ synced ready going. rw (same.acknowledged, same.view, same.given) (subst (λ (k : ℕ). Sending log r.view k r.given c.up c.cursor) (passes.end r.acknowledged) (runs.sends (sym same.synced ∙ synced) ready going));
  none_up = λ waiting. runs.none_up (sym same.synced ∙ waiting);
  none_down = λ waiting. passes.none (runs.none_down (sym same.synced ∙ waiting));
  given = rw (same.acknowledged, same.given, same.outbox) runs.given;
}

-- the Sync was taken: all that the replica published may be given
begun_runs : {W O : Type 0} (log : List Entry) (new : PlainReplica W O) (c : Connection) → new.synced ≡ true → new.given ≡ new.acknowledged → NoSends c.up → NoDones c.down → RunsInOrder log new c
begun_runs log new c synced given ups downs =
    let rises = none_rises new.acknowledged c.down downs in
    let sends = none_sends_rise new.acknowledged c.up ups in
    record {
      dones = λ s. rises.0;
      sends = λ s ready going. subst (λ (k : ℕ). Sending log new.view k new.given c.up c.cursor) (sym rises.1) (inl (record { rise = sends.0; whole = sends.1 ∙ sym given }));
      none_up = λ waiting. absurd cc;
      none_down = λ waiting. absurd cc;
      given = omega (arith, given);
    }

sync_runs : {W O : Type 0} (log : List Entry) (r : PlainReplica W O) (c : Connection) (made : Taken W O) → SyncAnswers r made → RunsInOrder log r c → NoSends c.up → NoDones c.down → RunsInOrder log made.replica c
sync_runs log r c made (inl refused) old ups downs = subst (λ (x : Taken _ _). RunsInOrder log x.replica c) (sym refused.1) old
sync_runs log r c made (inr begins) old ups downs = begun_runs log made.replica c begins.synced (begins.given ∙ sym begins.acknowledged) ups downs

-- a DONE is taken
dones_end-le : (k : ℕ) (frames : List ServerFrame) → k ≤ dones_end k frames
dones_end-le k [] = omega arith
dones_end-le k (Done number seq time ∷ rest) = omega (arith, dones_end-le (k + 1) rest)
dones_end-le k (Recv entry ∷ rest) = dones_end-le k rest
dones_end-le k (Tick t ∷ rest) = dones_end-le k rest
dones_end-le k (Sync joined last from base ∷ rest) = dones_end-le k rest
dones_end-le k (Snapped time ∷ rest) = dones_end-le k rest
dones_end-le k (Refused about code kept more ∷ rest) = dones_end-le k rest
dones_end-le k (Alive ∷ rest) = dones_end-le k rest

acknowledged_sending : (log : List Entry) (view k first given : ℕ) (ups : List ClientFrame) (cursor : Option Cursor) → k ≤ first → Sending log view first given ups cursor → Sending log view first (max given k) ups cursor
acknowledged_sending log view k first given ups cursor le sending = elim sending [
  | inl flowing ↦ inl (record { rise = flowing.rise; whole = let whole = flowing.whole in let end = sends_end-le first ups in omega arith })
  | inr rest ↦ elim rest [
    | inl blocked ↦ inr (inl (record { number = blocked.number; missing = blocked.missing; above = blocked.above; within = let h = blocked.within in omega arith }))
    | inr stale ↦ inr (inr stale)
  ]
]

acknowledged_runs : {W O : Type 0} (log : List Entry) (r : PlainReplica W O) (c : Connection) (number seq time : ℕ) (rest : List ServerFrame) (payload : List ℕ) (left : List (List ℕ)) → r.synced ≡ true → r.outbox ≡ payload ∷ left → RunsInOrder log r (with_down c (Done number seq time ∷ rest)) → RunsInOrder log (acknowledges r left) (with_down c rest)
acknowledged_runs log r c number seq time rest payload left synced held runs = record {
  dones = λ s. (runs.dones synced).1;
  sends = λ s ready going. acknowledged_sending log r.view (r.acknowledged + 1) (dones_end (r.acknowledged + 1) rest) r.given c.up c.cursor (dones_end-le (r.acknowledged + 1) rest) (runs.sends synced ready going);
  none_up = λ waiting. absurd cc;
  none_down = λ waiting. absurd cc;
  given = let h = runs.given in let long : length r.outbox ≡ length left + 1 = ap length held ∙ omega arith in grind arith;
}

done_runs : {W O : Type 0} (m : Worlds W O) (published : ViewPayloads) (s : PlainSession) (r : PlainReplica W O) (c : Connection) (number seq time : ℕ) (rest : List ServerFrame) (synced : Bool) → r.synced ≡ synced → ReplicaNumbers published s r → LogNumbers published s → DonesWithin (last_number s.log r.view) (Done number seq time ∷ rest) → RunsInOrder s.log r (with_down c (Done number seq time ∷ rest)) → RunsInOrder s.log (taken m r (Done number seq time)).replica (with_down c rest)
done_runs m published s r c number seq time rest false is box prefixes within runs = absurd (runs.none_down is)
done_runs m published s r c number seq time rest true is box prefixes within runs =
    let done = done_is_taken m published s r number seq time rest is box prefixes within (runs.dones is) in
    subst (λ (x : Taken _ _). RunsInOrder s.log x.replica (with_down c rest)) (sym done.3) (acknowledged_runs s.log r c number seq time rest done.0 done.1 is done.2 runs)

-- a Sync comes only to a replica that waits for it
sync_waits : {W O : Type 0} (m : Worlds W O) (s : PlainSession) (r : PlainReplica W O) (c : Connection) (joined last from : ℕ) (base : Option Base) (rest : List ServerFrame) (synced : Bool) → r.synced ≡ synced → c.down ≡ Sync joined last from base ∷ rest → NewestStands m s r c → r.synced ≡ false
sync_waits m s r c j last from base rest false is down joined = is
sync_waits m s r c j last from base rest true is down joined = let begun = rw down at (joined.begun is) in absurd begun.flows.streams.0

taken_runs : {W O : Type 0} (m : Worlds W O) (published : ViewPayloads) (s : PlainSession) (r : PlainReplica W O) (c : Connection) (frame : ServerFrame) (rest : List ServerFrame) → c.down ≡ frame ∷ rest → NewestStands m s r c → ReplicaNumbers published s r → LogNumbers published s → DonesWithin (last_number s.log r.view) (frame ∷ rest) → RunsInOrder s.log r (with_down c (frame ∷ rest)) → RunsInOrder s.log (taken m r frame).replica (with_down c rest)
taken_runs m published s r c (Sync j last from base) rest down joined box prefixes within runs =
    let waiting = sync_waits m s r c j last from base rest r.synced refl down joined in
    sync_runs s.log r (with_down c rest) _ (sync_answers m r r.awaited last from base) (waiting_runs s.log r (with_down c rest) waiting (runs.none_up waiting) (runs.none_down waiting) runs.given) (runs.none_up waiting) (runs.none_down waiting)
taken_runs m published s r c (Recv entry) rest down joined box prefixes within runs =
    let passes : DropsNoDone (Recv entry ∷ rest) rest = record { rise = λ k h. h; end = λ k. refl; none = λ h. h } in
    let same = runs_pass s.log r r c (Recv entry ∷ rest) rest (record { synced = refl; view = refl; acknowledged = refl; given = refl; outbox = refl }) passes runs in
    runs_if s.log (with_down c rest) r.synced _ _ (λ h. runs_if s.log (with_down c rest) r.broken _ _ (λ h. same) (λ whole. runs_if s.log (with_down c rest) (eqb entry.seq (r.seen + 1)) _ _ (λ a. runs_if s.log (with_down c rest) (nat_le entry.time (m.time r.world)) _ _ (λ h. same)
    (λ b. runs_pass s.log r _ c (Recv entry ∷ rest) rest (record { synced = refl; view = refl; acknowledged = refl; given = refl; outbox = refl }) passes runs)) (λ h. same))) (λ h. same)
taken_runs m published s r c (Tick t) rest down joined box prefixes within runs =
    let passes : DropsNoDone (Tick t ∷ rest) rest = record { rise = λ k h. h; end = λ k. refl; none = λ h. h } in
    let same = runs_pass s.log r r c (Tick t ∷ rest) rest (record { synced = refl; view = refl; acknowledged = refl; given = refl; outbox = refl }) passes runs in
    runs_if s.log (with_down c rest) r.synced _ _ (λ h. runs_if s.log (with_down c rest) r.broken _ _ (λ h. same) (λ whole. runs_if s.log (with_down c rest) (nat_lt t (m.time r.world)) _ _ (λ h. same)
    (λ b. runs_pass s.log r _ c (Tick t ∷ rest) rest (record { synced = refl; view = refl; acknowledged = refl; given = refl; outbox = refl }) passes runs))) (λ h. same)
taken_runs m published s r c (Done number seq time) rest down joined box prefixes within runs = done_runs m published s r c number seq time rest r.synced refl box prefixes within runs
taken_runs m published s r c (Snapped time) rest down joined box prefixes within runs =
    let same = runs_pass s.log r r c (Snapped time ∷ rest) rest (record { synced = refl; view = refl; acknowledged = refl; given = refl; outbox = refl }) (record { rise = λ k h. h; end = λ k. refl; none = λ h. h }) runs in
    runs_if s.log (with_down c rest) r.synced _ _ (λ h. same) (λ h. same)
taken_runs m published s r c (Refused about code kept more) rest down joined box prefixes within runs =
    let passes : DropsNoDone (Refused about code kept more ∷ rest) rest = record { rise = λ k h. h; end = λ k. refl; none = λ h. h } in
    let same = runs_pass s.log r r c (Refused about code kept more ∷ rest) rest (record { synced = refl; view = refl; acknowledged = refl; given = refl; outbox = refl }) passes runs in
    runs_if s.log (with_down c rest) (eqb about SNAP_TAG) _ _ (λ h. same) (λ a. runs_if s.log (with_down c rest) (eqb about JOIN_TAG) _ _
    (λ h. runs_pass s.log r _ c (Refused about code kept more ∷ rest) rest (record { synced = refl; view = refl; acknowledged = refl; given = refl; outbox = refl }) passes runs) (λ h. same))
taken_runs m published s r c Alive rest down joined box prefixes within runs =
    runs_pass s.log r r c (Alive ∷ rest) rest (record { synced = refl; view = refl; acknowledged = refl; given = refl; outbox = refl }) (record { rise = λ k h. h; end = λ k. refl; none = λ h. h }) runs

receive_next_keeps_order : {W O : Type 0} (m : Worlds W O) (published : ViewPayloads) (s : System W O) (view : ℕ) (client : Client W O) (c : Connection) (down : List ServerFrame) → WorldsStand m s → NumbersStand published s → OrderStands published s → view_client s.clients view ≡ Some client → slice_get s.connections client.newest ≡ Some c → c.down ≡ down → OrderStands published (receive_next m s client c down)
receive_next_keeps_order m published s view client c [] fine numbered ordered is at down = ordered
receive_next_keeps_order m published s view client c (frame ∷ rest) fine numbered ordered is at down =
    let r = client.replica in
    let joined = fine.joined view client c is at in
    let dones = subst (DonesWithin (last_number s.session.log c.view)) down (numbered.links client.newest c at).dones in
    order_both m published s view client c (with_down c rest) (taken m r frame).replica fine ordered is at (taken_view m r frame) refl
    (taken_runs m published s.session r c frame rest down joined (numbered.boxes view client is) numbered.prefixes (subst (λ (v : ℕ). DonesWithin (last_number s.session.log v) (frame ∷ rest)) joined.owned dones)
    (subst (RunsInOrder s.session.log r) (ap (λ (d : List ServerFrame). with_down c d) down) (ordered.runs view client c is at)))

receive_on_keeps_order : {W O : Type 0} (m : Worlds W O) (published : ViewPayloads) (s : System W O) (view : ℕ) (client : Client W O) (found : Option Connection) → WorldsStand m s → NumbersStand published s → OrderStands published s → view_client s.clients view ≡ Some client → slice_get s.connections client.newest ≡ found → OrderStands published (receive_on m s client found)
receive_on_keeps_order m published s view client None fine numbered ordered is at = ordered
receive_on_keeps_order m published s view client (Some c) fine numbered ordered is at = receive_next_keeps_order m published s view client c c.down fine numbered ordered is at refl

pub receive_keeps_order : {W O : Type 0} (m : Worlds W O) (published : ViewPayloads) (s : System W O) (view : ℕ) (found : Option (Client W O)) → WorldsStand m s → NumbersStand published s → OrderStands published s → view_client s.clients view ≡ found → OrderStands published (receive_by m s found)
receive_keeps_order m published s view None fine numbered ordered is = ordered
receive_keeps_order m published s view (Some client) fine numbered ordered is = receive_on_keeps_order m published s view client (slice_get s.connections client.newest) fine numbered ordered is refl
