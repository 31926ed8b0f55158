-- The step Receive keeps the facts.
use Rattle.std.proofs.lemmas.Bool.Decides.{nat_tests}
use Rattle.std.proofs.Common.{ℕ, ◌+◌, ◌≡◌, ◌≤◌, Bool, true, false, cond, eqb, nat_lt, nat_le, List, [], ◌∷◌, Option, Some, None, slice_get, refl, arith, sym, ◌∙◌, subst}
use Rattle.tea_base.proofs.LogLaws.{TimesRise-legal}
use Rattle.wire_frames.specs.declared.frame.ServerFrame.{ServerFrame}
use Rattle.wire_frames.specs.declared.frame.ServerFrame.TheVariants.{Alive, Done, Recv, Refused, Snapped, Sync, Tick}
use Rattle.wire_frames.specs.declared.start.Base.{Base}
use Rattle.wire_frames.specs.declared.tags.TheConstants.{JOIN_TAG, SNAP_TAG}
use Rattle.wire_frames.specs.Served.{ComesAt, Place, place_after}
use Rattle.wire_frames.proofs.Times.{early_as_last}
use Rattle.reflector_core.specs.PlainSession.{IsSoundSession, PlainSession}
use Rattle.replica_plain.specs.declared.how.How.{How}
use Rattle.replica_plain.specs.declared.how.How.TheVariants.{Fresh, Resume, Whole}
use Rattle.replica_plain.specs.Calls.{join_want}
use Rattle.replica_plain.specs.Following.{MayJoin}
use Rattle.replica_plain.specs.PlainReplica.{PlainReplica, published_count}
use Rattle.replica_plain.specs.Taking.{Taken, begins_anew, begins_with, begins_with_world, take_done, take_sync, taken}
use Rattle.replica_plain.specs.Worlds.{AreWorlds, Worlds}
use Rattle.replica_plain.proofs.FrameSteps.{behind_frame}
use Rattle.replica_plain.proofs.SyncSteps.{sync_begins}
use Rattle.system_plain.specs.Steps.{receive_by, receive_next, receive_on}
use Rattle.system_plain.specs.System.{Client, Connection, System, view_client, with_down}
use Rattle.system_plain.proofs.Facts.{HasBegun, NewestStands, TicksWithin, WaitsForSync, WorldStands, WorldsStand}
use Rattle.system_plain.proofs.FactsGrow.{base_within, based_later}
use Rattle.system_plain.proofs.Quiet.{both_change, same_lives}
use Rattle.system_plain.proofs.Sessions.{IsBasedBy}

view_if : {W O : Type 0} (v : ℕ) (test : Bool) (a b : Taken W O) → a.replica.view ≡ v → b.replica.view ≡ v → (cond test a b).replica.view ≡ v
view_if v true a b held fell = held
view_if v false a b held fell = fell

anew_view : {W O : Type 0} (m : Worlds W O) (r : PlainReplica W O) (from : ℕ) → (begins_anew m r from).replica.view ≡ r.view
anew_view m r from = view_if r.view (eqb from 0) _ _ refl refl

base_view : {W O : Type 0} (m : Worlds W O) (r : PlainReplica W O) (from time : ℕ) (world : Option W) → (begins_with_world m r from time world).replica.view ≡ r.view
base_view m r from time None = refl
base_view m r from time (Some world) = view_if r.view _ _ _ refl refl

begins_view : {W O : Type 0} (m : Worlds W O) (r : PlainReplica W O) (how : How) (from : ℕ) (base : Option Base) → (begins_with m r how from base).replica.view ≡ r.view
begins_view m r Fresh from None = anew_view m r from
begins_view m r Whole from None = anew_view m r from
begins_view m r Resume from None = view_if r.view (eqb from r.seen) _ _ refl refl
begins_view m r Fresh from (Some base) = base_view m r from base.time (m.unsnap base.bytes)
begins_view m r Whole from (Some base) = refl
begins_view m r Resume from (Some base) = view_if r.view (eqb from r.seen) _ _ refl refl

sync_view : {W O : Type 0} (m : Worlds W O) (r : PlainReplica W O) (awaited : Option How) (last from : ℕ) (base : Option Base) → (take_sync m r awaited last from base).replica.view ≡ r.view
sync_view m r None last from base = refl
sync_view m r (Some how) last from base = view_if r.view (nat_lt (published_count r) last) _ _ refl (view_if r.view (nat_lt last r.acknowledged) _ _ refl (begins_view m r how from base))

done_view : {W O : Type 0} (r : PlainReplica W O) (outbox : List (List ℕ)) (number : ℕ) → (take_done r outbox number).replica.view ≡ r.view
done_view r [] number = refl
done_view r (payload ∷ rest) number = view_if r.view (eqb number (r.acknowledged + 1)) _ _ refl refl

-- no frame changes a replica's view
pub taken_view : {W O : Type 0} (m : Worlds W O) (r : PlainReplica W O) (frame : ServerFrame) → (taken m r frame).replica.view ≡ r.view
taken_view m r (Sync joined last from base) = sync_view m r r.awaited last from base
taken_view m r (Recv entry) = view_if r.view r.synced _ _ (view_if r.view r.broken _ _ refl (view_if r.view (eqb entry.seq (r.seen + 1)) _ _ (view_if r.view (nat_le entry.time (m.time r.world)) _ _ refl refl) refl)) refl
taken_view m r (Tick t) = view_if r.view r.synced _ _ (view_if r.view r.broken _ _ refl (view_if r.view (nat_lt t (m.time r.world)) _ _ refl refl)) refl
taken_view m r (Done number seq time) = view_if r.view r.synced _ _ (done_view r r.outbox number) refl
taken_view m r (Snapped time) = view_if r.view r.synced _ _ refl refl
taken_view m r (Refused about code kept more) = view_if r.view (eqb about SNAP_TAG) _ _ refl (view_if r.view (eqb about JOIN_TAG) _ _ refl refl)
taken_view m r Alive = refl

tick_within : (horizon : ℕ) (frame : ServerFrame) (rest : List ServerFrame) → TicksWithin horizon (frame ∷ rest) → TicksWithin horizon (frame ∷ []) × TicksWithin horizon rest
tick_within horizon (Tick t) rest ticks = ((ticks.0, tt), ticks.1)
tick_within horizon (Recv entry) rest ticks = (tt, ticks)
tick_within horizon (Sync joined last from base) rest ticks = (tt, ticks)
tick_within horizon (Done number seq time) rest ticks = (tt, ticks)
tick_within horizon (Snapped time) rest ticks = (tt, ticks)
tick_within horizon (Refused about code kept more) rest ticks = (tt, ticks)
tick_within horizon Alive rest ticks = (tt, ticks)

-- the time of its world is at most the horizon
time_if : {W O : Type 0} (m : Worlds W O) (horizon : ℕ) (test : Bool) (a b : Taken W O) → (test ≡ true → m.time a.replica.world ≤ horizon) → (test ≡ false → m.time b.replica.world ≤ horizon) → m.time (cond test a b).replica.world ≤ horizon
time_if m horizon true a b held fell = held refl
time_if m horizon false a b held fell = fell refl

done_time : {W O : Type 0} (m : Worlds W O) (r : PlainReplica W O) (outbox : List (List ℕ)) (number horizon : ℕ) → m.time r.world ≤ horizon → m.time (take_done r outbox number).replica.world ≤ horizon
done_time m r [] number horizon le = le
done_time m r (payload ∷ rest) number horizon le = time_if m horizon (eqb number (r.acknowledged + 1)) _ _ (λ is. le) (λ is. le)

-- what comes next makes no world later than the horizon
frame_within : {W O : Type 0} (m : Worlds W O) → AreWorlds m → (s : PlainSession) (place : Place) (r : PlainReplica W O) (frame : ServerFrame) → IsSoundSession s → WorldStands m s r → ComesAt s.log place frame → TicksWithin s.horizon (frame ∷ [])
    → m.time (taken m r frame).replica.world ≤ s.horizon
frame_within m laws s place r (Sync joined last from base) sound lives comes ticks = absurd comes
frame_within m laws s place r (Recv entry) sound lives comes ticks =
    let le = lives.within in
    let by_last = early_as_last 0 s.log place.seen entry (TimesRise-legal s.log sound.legal) comes in
    let timed : nat_le entry.time (m.time r.world) ≡ false → m.time (m.external r.world entry) ≡ entry.time = λ is. laws.external_time r.world entry lives.follows.valid (grind (arith, nat_tests)) in
    time_if m s.horizon r.synced _ _ (λ synced.
    time_if m s.horizon r.broken _ _ (λ is. le) (λ whole.
    time_if m s.horizon (eqb entry.seq (r.seen + 1)) _ _ (λ next.
    time_if m s.horizon (nat_le entry.time (m.time r.world)) _ _ (λ is. le) (λ is. rw (timed is) (omega (arith, sound.latest)))) (λ is. le))) (λ is. le)
frame_within m laws s place r (Tick t) sound lives comes ticks =
    let le = lives.within in
    let timed : nat_lt t (m.time r.world) ≡ false → m.time (m.advance r.world t) ≡ t = λ is. laws.advance_time r.world t lives.follows.valid (grind (arith, nat_tests)) in
    time_if m s.horizon r.synced _ _ (λ synced.
    time_if m s.horizon r.broken _ _ (λ is. le) (λ whole.
    time_if m s.horizon (nat_lt t (m.time r.world)) _ _ (λ is. le) (λ is. rw (timed is) ticks.0))) (λ is. le)
frame_within m laws s place r (Done number seq time) sound lives comes ticks = time_if m s.horizon r.synced _ _ (λ is. done_time m r r.outbox number s.horizon lives.within) (λ is. lives.within)
frame_within m laws s place r (Snapped time) sound lives comes ticks = time_if m s.horizon r.synced _ _ (λ is. lives.within) (λ is. lives.within)
frame_within m laws s place r (Refused about code kept more) sound lives comes ticks = time_if m s.horizon (eqb about SNAP_TAG) _ _ (λ is. lives.within) (λ is. time_if m s.horizon (eqb about JOIN_TAG) _ _ (λ is. lives.within) (λ is. lives.within))
frame_within m laws s place r Alive sound lives comes ticks = lives.within

begins_time : {W O : Type 0} (m : Worlds W O) → AreWorlds m → (r : PlainReplica W O) (how : How) (from horizon : ℕ) (base : Option Base) → IsBasedBy horizon base → m.time r.world ≤ horizon → m.time (begins_with m r how from base).replica.world ≤ horizon
begins_time m laws r Fresh from horizon None based le = time_if m horizon (eqb from 0) _ _ (λ is. rw laws.first_time (omega arith)) (λ is. le)
begins_time m laws r Whole from horizon None based le = time_if m horizon (eqb from 0) _ _ (λ is. rw laws.first_time (omega arith)) (λ is. le)
begins_time m laws r Resume from horizon None based le = time_if m horizon (eqb from r.seen) _ _ (λ is. le) (λ is. le)
begins_time m laws r Fresh from horizon (Some base) based le = world_time (m.unsnap base.bytes)
  where
    world_time : (world : Option _) → m.time (begins_with_world m r from base.time world).replica.world ≤ horizon
    world_time None = le
    world_time (Some world) = time_if m horizon (eqb (m.time world) base.time) _ _ (λ is. grind (arith, nat_tests)) (λ is. le)
begins_time m laws r Whole from horizon (Some base) based le = le
begins_time m laws r Resume from horizon (Some base) based le = time_if m horizon (eqb from r.seen) _ _ (λ is. le) (λ is. le)

-- nor does a Sync
sync_time : {W O : Type 0} (m : Worlds W O) → AreWorlds m → (r : PlainReplica W O) (awaited : Option How) (last from horizon : ℕ) (base : Option Base) → IsBasedBy horizon base → m.time r.world ≤ horizon → m.time (take_sync m r awaited last from base).replica.world ≤ horizon
sync_time m laws r None last from horizon base based le = le
sync_time m laws r (Some how) last from horizon base based le =
    time_if m horizon (nat_lt (published_count r) last) _ _ (λ is. le) (λ is. time_if m horizon (nat_lt last r.acknowledged) _ _ (λ is. le) (λ is. begins_time m laws r how from horizon base based le))

lives_if : {W O : Type 0} (m : Worlds W O) (s : PlainSession) (test : Bool) (a b : Taken W O) → WorldStands m s a.replica → WorldStands m s b.replica → WorldStands m s (cond test a b).replica
lives_if m s true a b held fell = held
lives_if m s false a b held fell = fell

-- a replica that took the next frame, and what is left on its connection
pub record Received {W O : Type 0} (m : Worlds W O) (s : PlainSession) (new : PlainReplica W O) (c : Connection) (rest : List ServerFrame) : Type 0 where
  pub lives : WorldStands m s new
  pub joined : NewestStands m s new (with_down c rest)

received_reading : {W O : Type 0} (m : Worlds W O) → AreWorlds m → (s : PlainSession) (r : PlainReplica W O) (c : Connection) (frame : ServerFrame) (rest : List ServerFrame) → IsSoundSession s → r.synced ≡ true → c.view ≡ r.view → (c.cursor ≡ None → c.over ≡ false → r.synced ≡ false) → WorldStands m s r → HasBegun m s r (frame ∷ rest) c.closed c.cursor → Received m s (taken m r frame).replica c rest
received_reading m laws s r c frame rest sound synced owned unsynced lives begun =
    let place = begun.place in
    let flows = begun.flows in
    let ticks = tick_within s.horizon frame rest flows.ticks in
    let on = behind_frame m laws s.log place r frame sound.legal begun.stands flows.streams.0 in
    let still = on.stands.synced in
    record {
      lives = record { follows = on.stands.follows; within = frame_within m laws s place r frame sound lives flows.streams.0 ticks.0 };
      joined = record {
        owned = owned ∙ sym (taken_view m r frame);
        opens = λ fresh going. absurd (let h = unsynced fresh going in cc);
        waits = λ waiting. absurd cc;
        begun = λ h. record { place = place_after place frame; stands = on.stands; flows = record { streams = flows.streams.1; ticks = ticks.1; meets = flows.meets } };
      };
    }

-- a joined replica may take its Sync
pub may_join : {W O : Type 0} (m : Worlds W O) (s : PlainSession) (r : PlainReplica W O) (how : How) → WorldStands m s r → MayJoin m s.log r how
may_join m s r Fresh lives = tt
may_join m s r Whole lives = tt
may_join m s r Resume lives = lives.follows

unsynced_if : {W O : Type 0} (test : Bool) (a b : Taken W O) → a.replica.synced ≡ false → b.replica.synced ≡ false → (cond test a b).replica.synced ≡ false
unsynced_if true a b held fell = held
unsynced_if false a b held fell = fell

received_waiting : {W O : Type 0} (m : Worlds W O) → AreWorlds m → (s : PlainSession) (r : PlainReplica W O) (c : Connection) (frame : ServerFrame) (rest : List ServerFrame) → IsSoundSession s → r.synced ≡ false → c.view ≡ r.view → (c.cursor ≡ None → c.over ≡ false → frame ∷ rest ≡ []) → WorldStands m s r → WaitsForSync m s r c.closed c.over c.cursor (frame ∷ rest) → Received m s (taken m r frame).replica c rest
received_waiting m laws s r c (Sync joined last from base) rest sound synced owned nothing lives waits =
    let started = sync_begins m laws s.log r waits.how joined last from waits.time base sound.legal waits.awaited waits.begins waits.least waits.most waits.honest (may_join m s r waits.how lives) in
    let still = started.stands.synced in
    record {
      lives = record { follows = started.stands.follows; within = sync_time m laws r r.awaited last from s.horizon base (based_later waits.time s.horizon base waits.within (base_within s.log (join_want m r waits.how) waits.time from base waits.begins)) lives.within };
      joined = record {
        owned = owned ∙ sym (taken_view m r (Sync joined last from base));
        opens = λ fresh going. absurd (let h = nothing fresh going in cc);
        waits = λ waiting. absurd cc;
        begun = λ h. record { place = record { seen = from; least = waits.time }; stands = started.stands; flows = waits.flows };
      };
    }
received_waiting m laws s r c (Refused about code kept more) rest sound synced owned nothing lives waits =
    let new = (taken m r (Refused about code kept more)).replica in
    let over = waits.1 in
    let still : new.synced ≡ false = unsynced_if (eqb about SNAP_TAG) _ _ synced (unsynced_if (eqb about JOIN_TAG) _ _ synced synced) in
    record {
      lives = lives_if m s (eqb about SNAP_TAG) _ _ lives (lives_if m s (eqb about JOIN_TAG) _ _ (same_lives m s r _ refl refl refl lives) lives);
      joined = record {
        owned = owned ∙ sym (taken_view m r (Refused about code kept more));
        opens = λ fresh going. absurd cc;
        waits = λ waiting. subst (WaitsForSync m s new c.closed c.over c.cursor) (sym waits.0) (λ ready going. absurd cc);
        begun = λ h. absurd cc;
      };
    }
received_waiting m laws s r c (Recv entry) rest sound synced owned nothing lives waits = absurd waits
received_waiting m laws s r c (Tick t) rest sound synced owned nothing lives waits = absurd waits
received_waiting m laws s r c (Done number seq time) rest sound synced owned nothing lives waits = absurd waits
received_waiting m laws s r c (Snapped time) rest sound synced owned nothing lives waits = absurd waits
received_waiting m laws s r c Alive rest sound synced owned nothing lives waits = absurd waits

received_if : {W O : Type 0} (m : Worlds W O) → AreWorlds m → (s : PlainSession) (r : PlainReplica W O) (c : Connection) (frame : ServerFrame) (rest : List ServerFrame) (synced : Bool) → IsSoundSession s → r.synced ≡ synced → c.down ≡ frame ∷ rest → WorldStands m s r → NewestStands m s r c → Received m s (taken m r frame).replica c rest
received_if m laws s r c frame rest true sound is down lives joined =
    received_reading m laws s r c frame rest sound is joined.owned (λ fresh going. (joined.opens fresh going).waiting) lives (rw down at (joined.begun is))
received_if m laws s r c frame rest false sound is down lives joined =
    received_waiting m laws s r c frame rest sound is joined.owned (λ fresh going. sym down ∙ (joined.opens fresh going).nothing) lives (subst (WaitsForSync m s r c.closed c.over c.cursor) down (joined.waits is))

receive_next_keeps_worlds : {W O : Type 0} (m : Worlds W O) → AreWorlds m → (s : System W O) (view : ℕ) (client : Client W O) (c : Connection) (down : List ServerFrame) → WorldsStand m s → view_client s.clients view ≡ Some client → slice_get s.connections client.newest ≡ Some c → c.down ≡ down → WorldsStand m (receive_next m s client c down)
receive_next_keeps_worlds m laws s view client c [] fine is at down = fine
receive_next_keeps_worlds m laws s view client c (frame ∷ rest) fine is at down =
    let r = client.replica in
    let on = received_if m laws s.session r c frame rest r.synced fine.sound refl down (fine.lives view client is) (fine.joined view client c is at) in
    both_change m s view client c (with_down c rest) (taken m r frame).replica fine is at (taken_view m r frame) on.lives (fine.snaps client.newest c at) on.joined

receive_on_keeps_worlds : {W O : Type 0} (m : Worlds W O) → AreWorlds m → (s : System W O) (view : ℕ) (client : Client W O) (found : Option Connection) → WorldsStand m s → view_client s.clients view ≡ Some client → slice_get s.connections client.newest ≡ found → WorldsStand m (receive_on m s client found)
receive_on_keeps_worlds m laws s view client None fine is at = fine
receive_on_keeps_worlds m laws s view client (Some c) fine is at = receive_next_keeps_worlds m laws s view client c c.down fine is at refl

pub receive_keeps_worlds : {W O : Type 0} (m : Worlds W O) → AreWorlds m → (s : System W O) (view : ℕ) (found : Option (Client W O)) → WorldsStand m s → view_client s.clients view ≡ found → WorldsStand m (receive_by m s found)
receive_keeps_worlds m laws s view None fine is = fine
receive_keeps_worlds m laws s view (Some client) fine is = receive_on_keeps_worlds m laws s view client (slice_get s.connections client.newest) fine is refl
