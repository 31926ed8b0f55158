-- The facts of a system stay true when its log grows.
use Rattle.std.proofs.Common.{◌+◌, length, length-append, ℕ, ◌≡◌, ◌≤◌, Bool, List, [], ◌∷◌, Option, Some, None, arith, sym, ap, ◌∙◌, subst}
use Rattle.tea_base.specs.declared.entry.Entry.{Entry}
use Rattle.tea_base.specs.Readings.{count_until}
use Rattle.wire_frames.specs.declared.frame.ClientFrame.{ClientFrame}
use Rattle.wire_frames.specs.declared.frame.ClientFrame.TheVariants as up
use Rattle.wire_frames.specs.declared.frame.ServerFrame.{ServerFrame}
use Rattle.wire_frames.specs.declared.frame.ServerFrame.TheVariants.{Alive, Done, Recv, Refused, Snapped, Sync, Tick}
use Rattle.wire_frames.specs.declared.start.Base.{Base}
use Rattle.wire_frames.specs.declared.start.Want.{Want}
use Rattle.wire_frames.specs.declared.start.Want.TheVariants as want
use Rattle.wire_frames.specs.Served.{BeginsFor, Place, Streams, place_after, place_after_all}
use Rattle.wire_frames.proofs.Times.{count_until-append_later}
use Rattle.reflector_core.specs.PlainSession.{PlainSession}
use Rattle.replica_plain.specs.Calls.{join_want}
use Rattle.replica_plain.specs.Following.{FollowsLog, IsHonestBase}
use Rattle.replica_plain.specs.PlainReplica.{PlainReplica}
use Rattle.replica_plain.specs.Worlds.{IsHonest, Worlds}
use Rattle.replica_plain.proofs.FrameSteps.{StandsAt}
use Rattle.replica_plain.proofs.WorldSteps.{IsHonest-append, WorldFollows-append}
use Rattle.join_sync.specs.declared.cursor.Cursor.{Cursor}
use Rattle.system_plain.specs.System.{Connection}
use Rattle.system_plain.proofs.Facts.{AnswersAwaited, FlowsFrom, HasBegun, Meets, NewestStands, SnapsHonest, TicksWithin, WaitsForSync, WorldStands}
use Rattle.system_plain.proofs.Sessions.{Grows, IsBasedBy, slice_get-grown}

-- a count up to the horizon stays
pub count_stays : (s new : PlainSession) (t : ℕ) → Grows s new → t ≤ s.horizon → count_until new.log t ≡ count_until s.log t
count_stays s new t grows le = ap (λ (l : List Entry). count_until l t) grows.log ∙ count_until-append_later s.horizon t s.log grows.rest grows.later le

streams_grow : (s new : PlainSession) (place : Place) (frames : List ServerFrame) → Grows s new → Streams s.log place frames → TicksWithin s.horizon frames → Streams new.log place frames
streams_grow s new place [] grows streams ticks = tt
streams_grow s new place (Recv entry ∷ rest) grows streams ticks =
    (rw grows.log (slice_get-grown s.log grows.rest place.seen entry streams.0), streams_grow s new (place_after place (Recv entry)) rest grows streams.1 ticks)
streams_grow s new place (Tick t ∷ rest) grows streams ticks =
    ((streams.0.0, streams.0.1, count_stays s new t grows ticks.0 ∙ streams.0.2), streams_grow s new (place_after place (Tick t)) rest grows streams.1 ticks.1)
streams_grow s new place (Sync joined last from base ∷ rest) grows streams ticks = absurd streams.0
streams_grow s new place (Done number seq time ∷ rest) grows streams ticks = (tt, streams_grow s new (place_after place (Done number seq time)) rest grows streams.1 ticks)
streams_grow s new place (Snapped time ∷ rest) grows streams ticks = (tt, streams_grow s new (place_after place (Snapped time)) rest grows streams.1 ticks)
streams_grow s new place (Refused about code kept more ∷ rest) grows streams ticks = (tt, streams_grow s new (place_after place (Refused about code kept more)) rest grows streams.1 ticks)
streams_grow s new place (Alive ∷ rest) grows streams ticks = (tt, streams_grow s new (place_after place Alive) rest grows streams.1 ticks)

ticks_grow : (a b : ℕ) (frames : List ServerFrame) → a ≤ b → TicksWithin a frames → TicksWithin b frames
ticks_grow a b [] le ticks = tt
ticks_grow a b (Tick t ∷ rest) le ticks = (omega (arith, ticks.0), ticks_grow a b rest le ticks.1)
ticks_grow a b (Recv entry ∷ rest) le ticks = ticks_grow a b rest le ticks
ticks_grow a b (Sync joined last from base ∷ rest) le ticks = ticks_grow a b rest le ticks
ticks_grow a b (Done number seq time ∷ rest) le ticks = ticks_grow a b rest le ticks
ticks_grow a b (Snapped time ∷ rest) le ticks = ticks_grow a b rest le ticks
ticks_grow a b (Refused about code kept more ∷ rest) le ticks = ticks_grow a b rest le ticks
ticks_grow a b (Alive ∷ rest) le ticks = ticks_grow a b rest le ticks

meets_grow : (s new : PlainSession) (place : Place) (cursor : Option Cursor) → Grows s new → Meets s place cursor → Meets new place cursor
meets_grow s new place None grows meets = tt
meets_grow s new place (Some cursor) grows meets =
    let long : length new.log ≡ length s.log + length grows.rest = ap length grows.log ∙ length-append s.log grows.rest in
    record {
      within = let within = meets.within in omega arith;
      seen = meets.seen;
      least = λ t above later. meets.least t (let horizon = grows.horizon in omega arith) later;
    }

pub flows_grow : (s new : PlainSession) (place : Place) (frames : List ServerFrame) (closed : Bool) (cursor : Option Cursor) → Grows s new → FlowsFrom s place frames closed cursor → FlowsFrom new place frames closed cursor
flows_grow s new place frames closed cursor grows flows = record {
  streams = streams_grow s new place frames grows flows.streams flows.ticks;
  ticks = ticks_grow s.horizon new.horizon frames grows.horizon flows.ticks;
  meets = λ ready. meets_grow s new (place_after_all place frames) cursor grows (flows.meets ready);
}

pub follows_log_grows : {W O : Type 0} (m : Worlds W O) (s new : PlainSession) (r : PlainReplica W O) → Grows s new → m.time r.world ≤ s.horizon → FollowsLog m s.log r → FollowsLog m new.log r
follows_log_grows m s new r grows within at = record {
  follows = rw grows.log (WorldFollows-append m s.log grows.rest s.horizon r.world grows.later within at.follows);
  whole = at.whole;
  counted = at.counted ∙ sym (count_stays s new (m.time r.world) grows within);
  valid = at.valid;
}

ahead_grows : {W O : Type 0} (m : Worlds W O) (s new : PlainSession) (place : Place) (r : PlainReplica W O) (t : ℕ) → Grows s new → m.time r.world ≤ s.horizon → ((t ≤ s.horizon) → m.time r.world ≤ t) → m.time r.world ≤ t
ahead_grows m s new place r t grows within before = grind arith

pub replica_stands_grow : {W O : Type 0} (m : Worlds W O) (s new : PlainSession) (place : Place) (r : PlainReplica W O) → Grows s new → m.time r.world ≤ s.horizon → StandsAt m s.log place r → StandsAt m new.log place r
replica_stands_grow m s new place r grows within stands = record {
  follows = follows_log_grows m s new r grows within stands.follows;
  placed = stands.placed;
  ahead = λ t least same. ahead_grows m s new place r t grows within (λ le. stands.ahead t least (sym (count_stays s new t grows le) ∙ same));
  synced = stands.synced;
}

honest_in : {W O : Type 0} (m : Worlds W O) (s new : PlainSession) (time : ℕ) (bytes : List ℕ) → Grows s new → time ≤ s.horizon → IsHonest m s.log time bytes → IsHonest m new.log time bytes
honest_in m s new time bytes grows le honest =
    subst (λ (l : List Entry). IsHonest m l time bytes) (sym grows.log) (IsHonest-append m s.log grows.rest s.horizon time bytes grows.later le honest)

pub base_grows : {W O : Type 0} (m : Worlds W O) (s new : PlainSession) (base : Option Base) → Grows s new → IsBasedBy s.horizon base → IsHonestBase m s.log base → IsHonestBase m new.log base
base_grows m s new None grows le honest = tt
base_grows m s new (Some base) grows le honest = honest_in m s new base.time base.bytes grows le honest

pub snaps_grow : {W O : Type 0} (m : Worlds W O) (s new : PlainSession) (frames : List ClientFrame) → Grows s new → SnapsHonest m s frames → SnapsHonest m new frames
snaps_grow m s new [] grows snaps = tt
snaps_grow m s new (up.Snap time bytes ∷ rest) grows snaps =
    ((honest_in m s new time bytes grows snaps.0.1 snaps.0.0, omega (arith, snaps.0.1, grows.horizon)), snaps_grow m s new rest grows snaps.1)
snaps_grow m s new (up.Join session view want ∷ rest) grows snaps = snaps_grow m s new rest grows snaps
snaps_grow m s new (up.Send number payload ∷ rest) grows snaps = snaps_grow m s new rest grows snaps
snaps_grow m s new (up.Leave ∷ rest) grows snaps = snaps_grow m s new rest grows snaps
snaps_grow m s new (up.Alive ∷ rest) grows snaps = snaps_grow m s new rest grows snaps

pub begins_grow : (s new : PlainSession) (want : Want) (time from : ℕ) (base : Option Base) → Grows s new → time ≤ s.horizon → BeginsFor s.log want time from base → BeginsFor new.log want time from base
begins_grow s new want.Fresh time from None grows le begins = begins
begins_grow s new want.Fresh time from (Some base) grows le begins = (begins.0, begins.1 ∙ sym (count_stays s new base.time grows (omega (arith, begins.0))))
begins_grow s new want.Whole time from None grows le begins = begins
begins_grow s new want.Whole time from (Some base) grows le begins = begins
begins_grow s new (want.After after) time from None grows le begins = (begins.0, begins.1 ∙ sym (count_stays s new after grows (omega (arith, begins.0))))
begins_grow s new (want.After after) time from (Some base) grows le begins = begins

-- a base that a join gets is of a time before the join's
pub base_within : (log : List Entry) (want : Want) (time from : ℕ) (base : Option Base) → BeginsFor log want time from base → IsBasedBy time base
base_within log want.Fresh time from None begins = tt
base_within log want.Fresh time from (Some base) begins = omega (arith, begins.0)
base_within log want.Whole time from None begins = tt
base_within log want.Whole time from (Some base) begins = absurd begins
base_within log (want.After after) time from None begins = tt
base_within log (want.After after) time from (Some base) begins = absurd begins

pub based_later : (a b : ℕ) (base : Option Base) → a ≤ b → IsBasedBy a base → IsBasedBy b base
based_later a b None le within = tt
based_later a b (Some base) le within = omega arith

syncs_grow : {W O : Type 0} (m : Worlds W O) (s new : PlainSession) (r : PlainReplica W O) (last from : ℕ) (base : Option Base) (rest : List ServerFrame) (closed : Bool) (cursor : Option Cursor) → Grows s new → AnswersAwaited m s r last from base rest closed cursor → AnswersAwaited m new r last from base rest closed cursor
syncs_grow m s new r last from base rest closed cursor grows syncs = record {
  how = syncs.how;
  time = syncs.time;
  awaited = syncs.awaited;
  begins = begins_grow s new (join_want m r syncs.how) syncs.time from base grows syncs.within syncs.begins;
  within = omega (arith, syncs.within, grows.horizon);
  honest = base_grows m s new base grows (based_later syncs.time s.horizon base syncs.within (base_within s.log (join_want m r syncs.how) syncs.time from base syncs.begins)) syncs.honest;
  least = syncs.least;
  most = syncs.most;
  flows = flows_grow s new _ rest closed cursor grows syncs.flows;
}

waits_grow : {W O : Type 0} (m : Worlds W O) (s new : PlainSession) (r : PlainReplica W O) (closed over : Bool) (cursor : Option Cursor) (frames : List ServerFrame) → Grows s new → WaitsForSync m s r closed over cursor frames → WaitsForSync m new r closed over cursor frames
waits_grow m s new r closed over cursor [] grows waits = waits
waits_grow m s new r closed over cursor (Sync joined last from base ∷ rest) grows waits = syncs_grow m s new r last from base rest closed cursor grows waits
waits_grow m s new r closed over cursor (Refused about code kept more ∷ rest) grows waits = waits
waits_grow m s new r closed over cursor (Recv entry ∷ rest) grows waits = waits
waits_grow m s new r closed over cursor (Tick t ∷ rest) grows waits = waits
waits_grow m s new r closed over cursor (Done number seq time ∷ rest) grows waits = waits
waits_grow m s new r closed over cursor (Snapped time ∷ rest) grows waits = waits
waits_grow m s new r closed over cursor (Alive ∷ rest) grows waits = waits

begun_grows : {W O : Type 0} (m : Worlds W O) (s new : PlainSession) (r : PlainReplica W O) (down : List ServerFrame) (closed : Bool) (cursor : Option Cursor) → Grows s new → m.time r.world ≤ s.horizon → HasBegun m s r down closed cursor → HasBegun m new r down closed cursor
begun_grows m s new r down closed cursor grows within begun = record {
  place = begun.place;
  stands = replica_stands_grow m s new begun.place r grows within begun.stands;
  flows = flows_grow s new begun.place down closed cursor grows begun.flows;
}

pub joined_grows : {W O : Type 0} (m : Worlds W O) (s new : PlainSession) (r : PlainReplica W O) (c : Connection) → Grows s new → WorldStands m s r → NewestStands m s r c → NewestStands m new r c
joined_grows m s new r c grows lives joined = record {
  owned = joined.owned;
  opens = joined.opens;
  waits = λ waiting. waits_grow m s new r c.closed c.over c.cursor c.down grows (joined.waits waiting);
  begun = λ synced. begun_grows m s new r c.down c.closed c.cursor grows lives.within (joined.begun synced);
}

pub lives_grow : {W O : Type 0} (m : Worlds W O) (s new : PlainSession) (r : PlainReplica W O) → Grows s new → WorldStands m s r → WorldStands m new r
lives_grow m s new r grows lives = record {
  follows = follows_log_grows m s new r grows lives.within lives.follows;
  within = omega (arith, lives.within, grows.horizon);
}
