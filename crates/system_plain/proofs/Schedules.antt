-- What is true of a system after every schedule.
use Rattle.std.proofs.Common.{◌++◌, ℕ, ◌≡◌, Bool, true, false, cond, eqb, List, [], ◌∷◌, Option, Some, None, slice_get, refl, arith, sym, ap, subst}
use Rattle.tea_base.specs.Readings.{last_number}
use Rattle.wire_frames.specs.declared.frame.ServerFrame.{ServerFrame}
use Rattle.wire_frames.specs.declared.frame.ServerFrame.TheVariants.{Alive, Done, Recv, Refused, Snapped, Sync, Tick}
use Rattle.wire_frames.specs.declared.tags.TheConstants.{JOIN_TAG, SNAP_TAG}
use Rattle.reflector_core.specs.PlainSession.{IsSoundSession, PlainSession}
use Rattle.replica_plain.specs.declared.fault.ReplicaFault.{ReplicaFault}
use Rattle.replica_plain.specs.PlainReplica.{PlainReplica}
use Rattle.replica_plain.specs.Taking.{Taken, taken, takes}
use Rattle.replica_plain.specs.Worlds.{AreWorlds, Worlds}
use Rattle.replica_plain.proofs.FrameSteps.{behind_entry, behind_tick, when_synced_is}
use Rattle.replica_plain.proofs.SyncSteps.{sync_begins}
use Rattle.system_plain.specs.Schedule.{AreTypedSteps, IsNoSurprise, IsSchedule, IsTypedStep, SpellWorlds, SpellsWorld, SpellsWorldBy, SpellsWorldOn, ViewPayloads, next_fault_of, next_fault_on, nothing_published, published_after, published_by, run_schedule}
use Rattle.system_plain.specs.Steps.{Cut, Found, Publish, Pull, Receive, Reconnect, Restart, Snap, SystemStep, Take, Tick as Ticks, Transmit, after_step}
use Rattle.system_plain.specs.System.{Client, Connection, System, first_system, view_client}
use Rattle.system_plain.specs.Traffic.{Traffics, traffics_after, traffics_by}
use Rattle.system_plain.proofs.Facts.{NewestStands, WaitsForSync, WorldStands, WorldsStand}
use Rattle.system_plain.proofs.Numbers.{DonesWithin, LogNumbers, NumbersStand, ReplicaNumbers, counted}
use Rattle.system_plain.proofs.NumbersKeep.{pull_keeps_numbers, take_keeps_numbers, tick_keeps_numbers}
use Rattle.system_plain.proofs.NumbersQuiet.{cut_keeps_numbers, found_keeps_numbers, publish_keeps_numbers, receive_keeps_numbers, reconnect_keeps_numbers, restart_keeps_numbers, snap_keeps_numbers, transmit_keeps_numbers}
use Rattle.system_plain.proofs.Openings.{pull_keeps_worlds, take_keeps_worlds, tick_keeps_worlds}
use Rattle.system_plain.proofs.Order.{OrderStands, RunsInOrder}
use Rattle.system_plain.proofs.OrderQuiet.{cut_keeps_order, found_keeps_order, publish_keeps_order, reconnect_keeps_order, restart_keeps_order, snap_keeps_order, transmit_keeps_order}
use Rattle.system_plain.proofs.OrderReceive.{receive_keeps_order}
use Rattle.system_plain.proofs.OrderTakes.{pull_keeps_order, take_keeps_order, tick_keeps_order}
use Rattle.system_plain.proofs.Pace.{DonesRise, done_is_taken}
use Rattle.system_plain.proofs.Quiet.{cut_keeps_worlds, found_keeps_worlds, publish_keeps_worlds, reconnect_keeps_worlds, restart_keeps_worlds, snap_keeps_worlds, transmit_keeps_worlds}
use Rattle.system_plain.proofs.Receives.{may_join, receive_keeps_worlds}

-- all that is true between steps
pub record SystemStands {W O : Type 0} (m : Worlds W O) (published : ViewPayloads) (s : System W O) : Type 0 where
  pub fine : WorldsStand m s
  pub numbered : NumbersStand published s
  pub ordered : OrderStands published s

pub step_keeps : {W O : Type 0} (m : Worlds W O) → AreWorlds m → (published : ViewPayloads) (s : System W O) (next : SystemStep) → IsTypedStep next → SpellsWorld m s next → SystemStands m published s → SystemStands m (published_after s published next) (after_step m s next)
step_keeps m laws published s (Found view) typed spells kept = record { fine = found_keeps_worlds m laws s view kept.fine; numbered = found_keeps_numbers m published s view typed kept.numbered; ordered = found_keeps_order m published s view kept.fine kept.ordered }
step_keeps m laws published s (Publish view payload) typed spells kept = record { fine = publish_keeps_worlds m s view payload (view_client s.clients view) kept.fine refl; numbered = publish_keeps_numbers published s view payload (view_client s.clients view) kept.numbered refl; ordered = publish_keeps_order published s view payload (view_client s.clients view) kept.ordered refl }
step_keeps m laws published s (Transmit view) typed spells kept = record { fine = transmit_keeps_worlds m s view (view_client s.clients view) kept.fine refl; numbered = transmit_keeps_numbers m published s view (view_client s.clients view) kept.fine kept.numbered refl; ordered = transmit_keeps_order m published s view (view_client s.clients view) kept.fine kept.numbered kept.ordered refl }
step_keeps m laws published s (Take number now) typed spells kept = record { fine = take_keeps_worlds m s number (slice_get s.connections number) now kept.fine (counted published s kept.numbered) refl; numbered = take_keeps_numbers m published s number (slice_get s.connections number) now kept.numbered refl; ordered = take_keeps_order m published s number (slice_get s.connections number) now kept.fine kept.numbered kept.ordered refl }
step_keeps m laws published s (Ticks now) typed spells kept = record { fine = tick_keeps_worlds m s now kept.fine; numbered = tick_keeps_numbers published s now kept.numbered; ordered = tick_keeps_order published s now kept.ordered }
step_keeps m laws published s (Pull number) typed spells kept = record { fine = pull_keeps_worlds m s number (slice_get s.connections number) kept.fine refl; numbered = pull_keeps_numbers published s number (slice_get s.connections number) kept.numbered refl; ordered = pull_keeps_order m published s number (slice_get s.connections number) kept.fine kept.numbered kept.ordered refl }
step_keeps m laws published s (Receive view) typed spells kept = record { fine = receive_keeps_worlds m laws s view (view_client s.clients view) kept.fine refl; numbered = receive_keeps_numbers m published s view (view_client s.clients view) kept.fine kept.numbered refl; ordered = receive_keeps_order m published s view (view_client s.clients view) kept.fine kept.numbered kept.ordered refl }
step_keeps m laws published s (Cut number ups downs) typed spells kept = record { fine = cut_keeps_worlds m s number ups downs (slice_get s.connections number) kept.fine refl; numbered = cut_keeps_numbers published s number ups downs (slice_get s.connections number) kept.numbered refl; ordered = cut_keeps_order m published s number ups downs (slice_get s.connections number) kept.fine kept.numbered kept.ordered refl }
step_keeps m laws published s (Reconnect view how) typed spells kept = record { fine = reconnect_keeps_worlds m s view how (view_client s.clients view) kept.fine refl; numbered = reconnect_keeps_numbers m published s view how (view_client s.clients view) kept.numbered refl; ordered = reconnect_keeps_order m published s view how (view_client s.clients view) kept.fine kept.ordered refl }
step_keeps m laws published s (Restart view how) typed spells kept = record { fine = restart_keeps_worlds m laws s view how (view_client s.clients view) kept.fine refl; numbered = restart_keeps_numbers m published s view how (view_client s.clients view) kept.numbered refl; ordered = restart_keeps_order m published s view how (view_client s.clients view) kept.fine kept.ordered refl }
step_keeps m laws published s (Snap view) typed spells kept = record { fine = snap_keeps_worlds m s view (view_client s.clients view) kept.fine refl spells; numbered = snap_keeps_numbers m published s (view_client s.clients view) kept.numbered; ordered = snap_keeps_order m published s (view_client s.clients view) kept.fine kept.numbered kept.ordered }

run_keeps : {W O : Type 0} (m : Worlds W O) → AreWorlds m → (published : ViewPayloads) (s : System W O) (steps : List SystemStep) → AreTypedSteps steps → SpellWorlds m s steps → SystemStands m published s → SystemStands m (published_by m s published steps) (run_schedule m s steps)
run_keeps m laws published s [] typed spells kept = kept
run_keeps m laws published s (next ∷ steps) typed spells kept =
    run_keeps m laws (published_after s published next) (after_step m s next) steps typed.1 spells.1 (step_keeps m laws published s next typed.0 spells.0 kept)

pub first_kept : {W O : Type 0} (m : Worlds W O) → SystemStands {W = W} {O = O} m nothing_published first_system
first_kept m = record {
  fine = record {
    sound = record { legal = tt; latest = omega arith; here = omega arith; room = omega arith; bounded = omega arith; kept = tt };
    kept = tt;
    snaps = λ k c at. absurd cc;
    lives = λ view client is. absurd cc;
    connected = λ view client is. absurd cc;
    joined = λ view client c is at. absurd cc;
  };
  numbered = record {
    prefixes = record { events = λ view. refl; enough = λ view. omega arith };
    links = λ k c at. absurd cc;
    boxes = λ view client is. absurd cc;
    unknown = λ view none. refl;
  };
  ordered = record {
    short = λ view k payload at. absurd cc;
    within = λ k c cursor at is. absurd cc;
    apart = λ k j c d a b at_k at_j is_a is_b same. absurd cc;
    runs = λ view client c is at. absurd cc;
  };
}

-- what is true after a schedule from the first system on
pub kept_by : {W O : Type 0} (m : Worlds W O) → AreWorlds m → (steps : List SystemStep) → AreTypedSteps steps → SpellWorlds m first_system steps → SystemStands m (published_by m first_system nothing_published steps) (run_schedule m first_system steps)
kept_by m laws steps typed spells = run_keeps m laws nothing_published first_system steps typed spells (first_kept m)

-- the next frame of a client is taken, or is a refusal
fine_of_none : (fault : Option ReplicaFault) → fault ≡ None → IsNoSurprise fault
fine_of_none fault none = rw none tt

no_surprise_if : {W O : Type 0} (test : Bool) (a b : Taken W O) → IsNoSurprise a.fault → IsNoSurprise b.fault → IsNoSurprise (cond test a b).fault
no_surprise_if true a b held fell = held
no_surprise_if false a b held fell = fell

next_frame_fine : {W O : Type 0} (m : Worlds W O) → AreWorlds m → (published : ViewPayloads) (s : PlainSession) (r : PlainReplica W O) (c : Connection) (frame : ServerFrame) (rest : List ServerFrame) (synced : Bool) → IsSoundSession s → r.synced ≡ synced → c.down ≡ frame ∷ rest → WorldStands m s r → NewestStands m s r c → RunsInOrder s.log r c → LogNumbers published s → ReplicaNumbers published s r → DonesWithin (last_number s.log r.view) (frame ∷ rest) → IsNoSurprise (taken m r frame).fault
next_frame_fine m laws published s r c (Recv entry) rest true sound is down lives joined runs prefixes box dones =
    let begun = rw down at (joined.begun is) in
    fine_of_none _ (behind_entry m laws s.log begun.place r entry sound.legal begun.stands begun.flows.streams.0).read
next_frame_fine m laws published s r c (Tick t) rest true sound is down lives joined runs prefixes box dones =
    let begun = rw down at (joined.begun is) in
    fine_of_none _ (behind_tick m laws s.log begun.place r t sound.legal begun.stands begun.flows.streams.0).read
next_frame_fine m laws published s r c (Sync j last from base) rest true sound is down lives joined runs prefixes box dones = let begun = rw down at (joined.begun is) in absurd begun.flows.streams.0
next_frame_fine m laws published s r c (Done number seq time) rest true sound is down lives joined runs prefixes box dones =
    fine_of_none _ (ap (λ (x : Taken _ _). x.fault) (done_is_taken m published s r number seq time rest is box prefixes dones (subst (DonesRise r.acknowledged) down (runs.dones is))).3)
next_frame_fine m laws published s r c (Done number seq time) rest false sound is down lives joined runs prefixes box dones = absurd (subst (WaitsForSync m s r c.closed c.over c.cursor) down (joined.waits is))
next_frame_fine m laws published s r c (Snapped time) rest true sound is down lives joined runs prefixes box dones = subst (λ (x : Taken _ _). IsNoSurprise x.fault) (sym (when_synced_is r (takes r) is)) tt
next_frame_fine m laws published s r c (Refused about code kept more) rest synced sound is down lives joined runs prefixes box dones = no_surprise_if (eqb about SNAP_TAG) _ _ tt (no_surprise_if (eqb about JOIN_TAG) _ _ tt tt)
next_frame_fine m laws published s r c Alive rest synced sound is down lives joined runs prefixes box dones = tt
next_frame_fine m laws published s r c (Sync j last from base) rest false sound is down lives joined runs prefixes box dones =
    let waits = subst (WaitsForSync m s r c.closed c.over c.cursor) down (joined.waits is) in
    fine_of_none _ (sync_begins m laws s.log r waits.how j last from waits.time base sound.legal waits.awaited waits.begins waits.least waits.most waits.honest (may_join m s r waits.how lives)).fine
next_frame_fine m laws published s r c (Recv entry) rest false sound is down lives joined runs prefixes box dones = absurd (subst (WaitsForSync m s r c.closed c.over c.cursor) down (joined.waits is))
next_frame_fine m laws published s r c (Tick t) rest false sound is down lives joined runs prefixes box dones = absurd (subst (WaitsForSync m s r c.closed c.over c.cursor) down (joined.waits is))
next_frame_fine m laws published s r c (Snapped time) rest false sound is down lives joined runs prefixes box dones = absurd (subst (WaitsForSync m s r c.closed c.over c.cursor) down (joined.waits is))

next_down_fine : {W O : Type 0} (m : Worlds W O) → AreWorlds m → (published : ViewPayloads) (s : PlainSession) (r : PlainReplica W O) (c : Connection) (down : List ServerFrame) → IsSoundSession s → c.down ≡ down → WorldStands m s r → NewestStands m s r c → RunsInOrder s.log r c → LogNumbers published s → ReplicaNumbers published s r → DonesWithin (last_number s.log r.view) down → IsNoSurprise (next_fault_of m r down)
next_down_fine m laws published s r c [] sound down lives joined runs prefixes box dones = tt
next_down_fine m laws published s r c (frame ∷ rest) sound down lives joined runs prefixes box dones = next_frame_fine m laws published s r c frame rest r.synced sound refl down lives joined runs prefixes box dones

pub next_on_fine : {W O : Type 0} (m : Worlds W O) → AreWorlds m → (published : ViewPayloads) (s : System W O) (view : ℕ) (client : Client W O) (found : Option Connection) → SystemStands m published s → view_client s.clients view ≡ Some client → slice_get s.connections client.newest ≡ found → IsNoSurprise (next_fault_on m client.replica found)
next_on_fine m laws published s view client None kept is at = tt
next_on_fine m laws published s view client (Some c) kept is at =
    let joined = kept.fine.joined view client c is at in
    next_down_fine m laws published s.session client.replica c c.down kept.fine.sound refl (kept.fine.lives view client is) joined (kept.ordered.runs view client c is at) kept.numbered.prefixes (kept.numbered.boxes view client is)
    (subst (λ (v : ℕ). DonesWithin (last_number s.session.log v) c.down) joined.owned (kept.numbered.links client.newest c at).dones)

-- ---- a schedule in parts

pub run_schedule-push : {W O : Type 0} (m : Worlds W O) (s : System W O) (steps : List SystemStep) (next : SystemStep) → run_schedule m s (steps ++ next ∷ []) ≡ after_step m (run_schedule m s steps) next
run_schedule-push m s [] next = refl
run_schedule-push m s (first ∷ steps) next = run_schedule-push m (after_step m s first) steps next

pub published_by-push : {W O : Type 0} (m : Worlds W O) (s : System W O) (published : ViewPayloads) (steps : List SystemStep) (next : SystemStep) → published_by m s published (steps ++ next ∷ []) ≡ published_after (run_schedule m s steps) (published_by m s published steps) next
published_by-push m s published [] next = refl
published_by-push m s published (first ∷ steps) next = published_by-push m (after_step m s first) (published_after s published first) steps next

pub traffics_by-push : {W O : Type 0} (m : Worlds W O) (s : System W O) (traffics : Traffics) (steps : List SystemStep) (next : SystemStep) → traffics_by m s traffics (steps ++ next ∷ []) ≡ traffics_after (run_schedule m s steps) (traffics_by m s traffics steps) next
traffics_by-push m s traffics [] next = refl
traffics_by-push m s traffics (first ∷ steps) next = traffics_by-push m (after_step m s first) (traffics_after s traffics first) steps next

pub SpellWorlds-push : {W O : Type 0} (m : Worlds W O) (s : System W O) (steps : List SystemStep) (next : SystemStep) → SpellWorlds m s steps → SpellsWorld m (run_schedule m s steps) next → SpellWorlds m s (steps ++ next ∷ [])
SpellWorlds-push m s [] next spells last = (last, tt)
SpellWorlds-push m s (first ∷ steps) next spells last = (spells.0, SpellWorlds-push m (after_step m s first) steps next spells.1 last)

-- ---- where every valid world's snapshot spells it

spells_on : {W O : Type 0} (m : Worlds W O) (client : Client W O) (found : Option Connection) → m.unsnap (m.snapshot client.replica.world) ≡ Some client.replica.world → SpellsWorldOn m client found
spells_on m client None spells = tt
spells_on m client (Some c) spells = λ opened. spells

spells_by : {W O : Type 0} (m : Worlds W O) (s : System W O) (view : ℕ) (found : Option (Client W O)) → ((w : W) → m.valid w ≡ true → m.unsnap (m.snapshot w) ≡ Some w) → WorldsStand m s → view_client s.clients view ≡ found → SpellsWorldBy m s found
spells_by m s view None each fine is = tt
spells_by m s view (Some client) each fine is = spells_on m client (slice_get s.connections client.newest) (each client.replica.world (fine.lives view client is).follows.valid)

step_spells : {W O : Type 0} (m : Worlds W O) (s : System W O) (next : SystemStep) → ((w : W) → m.valid w ≡ true → m.unsnap (m.snapshot w) ≡ Some w) → WorldsStand m s → SpellsWorld m s next
step_spells m s (Snap view) each fine = spells_by m s view (view_client s.clients view) each fine refl
step_spells m s (Found view) each fine = tt
step_spells m s (Publish view payload) each fine = tt
step_spells m s (Transmit view) each fine = tt
step_spells m s (Take number now) each fine = tt
step_spells m s (Ticks now) each fine = tt
step_spells m s (Pull number) each fine = tt
step_spells m s (Receive view) each fine = tt
step_spells m s (Cut number ups downs) each fine = tt
step_spells m s (Reconnect view how) each fine = tt
step_spells m s (Restart view how) each fine = tt

steps_spell : {W O : Type 0} (m : Worlds W O) → AreWorlds m → ((w : W) → m.valid w ≡ true → m.unsnap (m.snapshot w) ≡ Some w) → (published : ViewPayloads) (s : System W O) (steps : List SystemStep) → AreTypedSteps steps → SystemStands m published s → SpellWorlds m s steps
steps_spell m laws each published s [] typed kept = tt
steps_spell m laws each published s (next ∷ steps) typed kept =
    let spells = step_spells m s next each kept.fine in
    (spells, steps_spell m laws each (published_after s published next) (after_step m s next) steps typed.1 (step_keeps m laws published s next typed.0 spells kept))

pub all_are_schedules : {W O : Type 0} (m : Worlds W O) (steps : List SystemStep) → AreWorlds m → ((w : W) → m.valid w ≡ true → m.unsnap (m.snapshot w) ≡ Some w) → AreTypedSteps steps → IsSchedule m steps
all_are_schedules m steps laws each typed = record { worlds = laws; typed = typed; spelled = steps_spell m laws each nothing_published first_system steps typed (first_kept m) }
