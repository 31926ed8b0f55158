-- What a replica makes of a frame: one row for each.
use Rattle.std.specs.Prelude.{◌≡◌, ◌<◌, ℕ, ◌+◌, ◌-◌, ◌^◌, ◌==◌, min, max, nat_le, nat_lt, true, false, if◌then◌else◌, ⊤, List, [], ◌∷◌, Option, Some, None, Result, Ok, Err}
use Rattle.tea_base.specs.declared.entry.Entry.{Entry}
use Rattle.tea_base.specs.Limits.{time_limit}
use Rattle.wire_frames.specs.declared.start.Base.{Base}
use Rattle.wire_frames.specs.declared.frame.ServerFrame.{ServerFrame}
use Rattle.wire_frames.specs.declared.frame.ServerFrame.TheVariants.{Sync, Recv, Tick, Done, Snapped, Refused, Alive}
use Rattle.wire_frames.specs.declared.tags.TheConstants.{JOIN_TAG, SNAP_TAG}
use Rattle.replica_plain.specs.declared.how.How.{How}
use Rattle.replica_plain.specs.declared.how.How.TheVariants.{Fresh, Whole, Resume}
use Rattle.replica_plain.specs.declared.fault.ReplicaFault.{ReplicaFault}
use Rattle.replica_plain.specs.declared.fault.ReplicaFault.TheVariants as cause
use Rattle.replica_plain.specs.Worlds.{Worlds}
use Rattle.replica_plain.specs.PlainReplica.{PlainReplica, published_count, breaks}

-- the time of an entry or a tick, which moves a world, is one of TeaTime
abbrev pub IsTimely : ServerFrame → Type 0
IsTimely (Sync joined last from base) = Unit {0}
IsTimely (Recv entry) = entry.time < time_limit
IsTimely (Tick t) = t < time_limit
IsTimely (Done number seq time) = Unit {0}
IsTimely (Snapped time) = Unit {0}
IsTimely (Refused about code kept more) = Unit {0}
IsTimely Alive = Unit {0}

-- the replica after a frame, and what is wrong with the frame, if anything
pub record Taken (W O : Type 0) : Type 0 where
  pub replica : PlainReplica W O
  pub fault : Option ReplicaFault

abbrev pub takes : {W O : Type 0} → PlainReplica W O → Taken W O
takes r = record { replica = r; fault = None }

abbrev pub faults : {W O : Type 0} → PlainReplica W O → ReplicaFault → Taken W O
faults r fault = record { replica = r; fault = Some fault }

abbrev pub out_of_order : {W O : Type 0} → PlainReplica W O → ℕ → ℕ → Taken W O
out_of_order r expected found = faults r (cause.OutOfOrder expected found)

-- ---- a Sync

-- the Sync is taken, with this world and what its models published; so many entries count as seen
abbrev pub synced_with : {W O : Type 0} → PlainReplica W O → W → List O → ℕ → Option ℕ → PlainReplica W O
synced_with r world out from base =
    record r {
      world = world;
      out = out;
      broken = false;
      seen = from;
      given = r.acknowledged;
      awaited = None;
      synced = true;
      base = base;
    }

-- the first world again, where all entries are to come
abbrev pub begins_anew : {W O : Type 0} → Worlds W O → PlainReplica W O → ℕ → Taken W O
begins_anew m r from = if from == 0 then takes (synced_with r m.first m.first_out 0 None) else out_of_order r 0 from

-- its own world, where the entries behind those that it has are to come
abbrev pub goes_on_from : {W O : Type 0} → PlainReplica W O → ℕ → Taken W O
goes_on_from r from =
    if from == r.seen then takes (record r { given = r.acknowledged; awaited = None; synced = true })
    else out_of_order r r.seen from

-- the world that a base spells, if it spells one of the base's time
abbrev pub begins_with_world : {W O : Type 0} → Worlds W O → PlainReplica W O → ℕ → ℕ → Option W → Taken W O
begins_with_world m r from time None = faults r cause.BadBase
begins_with_world m r from time (Some world) =
    if m.time world == time then takes (synced_with r world [] from (Some time)) else faults r cause.BadBase

-- a base comes only where one was asked for
abbrev pub begins_with : {W O : Type 0} → Worlds W O → PlainReplica W O → How → ℕ → Option Base → Taken W O
begins_with m r Fresh from None = begins_anew m r from
begins_with m r Fresh from (Some base) = begins_with_world m r from base.time (m.unsnap base.bytes)
begins_with m r Whole from None = begins_anew m r from
begins_with m r Whole from (Some base) = faults r cause.BadBase
begins_with m r Resume from None = goes_on_from r from
begins_with m r Resume from (Some base) = if from == r.seen then faults r cause.BadBase else out_of_order r r.seen from

abbrev pub take_sync : {W O : Type 0} → Worlds W O → PlainReplica W O → Option How → ℕ → ℕ → Option Base → Taken W O
take_sync m r None last from base = faults r cause.Unasked
take_sync m r (Some how) last from base =
    if nat_lt (published_count r) last then out_of_order r (published_count r) last
    else if nat_lt last r.acknowledged then out_of_order r r.acknowledged last
    else begins_with m r how from base

-- ---- an entry, a tick

-- the world went on, over so many entries
abbrev pub moves_to : {W O : Type 0} → PlainReplica W O → W → List O → ℕ → PlainReplica W O
moves_to r world out seen = record r { world = world; out = out; seen = seen }

-- the number of the entry that comes next, as far as a number of 32 bits tells it
abbrev pub next_seq : {W O : Type 0} → PlainReplica W O → ℕ
next_seq r = min (r.seen + 1) (2 ^ 32 - 1)

abbrev pub take_entry : {W O : Type 0} → Worlds W O → PlainReplica W O → Entry → Taken W O
take_entry m r entry =
    if r.broken then faults r cause.Broken
    else if entry.seq == r.seen + 1 then
    (if nat_le entry.time (m.time r.world) then faults r (cause.Back (m.time r.world))
    else takes (moves_to r (m.external r.world entry) (m.external_out r.world entry r.out) (r.seen + 1)))
    else out_of_order r (next_seq r) entry.seq

abbrev pub take_tick : {W O : Type 0} → Worlds W O → PlainReplica W O → ℕ → Taken W O
take_tick m r t =
    if r.broken then faults r cause.Broken
    else if nat_lt t (m.time r.world) then faults r (cause.Back (m.time r.world))
    else takes (moves_to r (m.advance r.world t) (m.advance_out r.world t r.out) r.seen)

-- ---- an answer

-- the least event that is not acknowledged leaves the outbox, and counts as given
abbrev pub acknowledges : {W O : Type 0} → PlainReplica W O → List (List ℕ) → PlainReplica W O
acknowledges r rest = record r {
  outbox = rest;
  acknowledged = r.acknowledged + 1;
  given = max r.given (r.acknowledged + 1);
}

abbrev pub take_done : {W O : Type 0} → PlainReplica W O → List (List ℕ) → ℕ → Taken W O
take_done r [] number = out_of_order r (r.acknowledged + 1) number
take_done r (payload ∷ rest) number =
    if number == r.acknowledged + 1 then takes (acknowledges r rest) else out_of_order r (r.acknowledged + 1) number

-- a refused join is not awaited any more; that a snapshot is refused changes nothing
abbrev pub take_refused : {W O : Type 0} → PlainReplica W O → ℕ → ℕ → ℕ → Taken W O
take_refused r about code kept =
    if about == SNAP_TAG then takes r
    else if about == JOIN_TAG then faults (record r { awaited = None }) (cause.Refused about code kept)
    else faults r (cause.Refused about code kept)

-- ---- the table

-- what may come only once a Sync was taken since the last join
abbrev pub when_synced : {W O : Type 0} → PlainReplica W O → Taken W O → Taken W O
when_synced r taken = if r.synced then taken else faults r cause.Unasked

abbrev pub taken : {W O : Type 0} → Worlds W O → PlainReplica W O → ServerFrame → Taken W O
taken m r (Sync joined last from base) = take_sync m r r.awaited last from base
taken m r (Recv entry) = when_synced r (take_entry m r entry)
taken m r (Tick t) = when_synced r (take_tick m r t)
taken m r (Done number seq time) = when_synced r (take_done r r.outbox number)
taken m r (Snapped time) = when_synced r (takes r)
taken m r (Refused about code kept more) = take_refused r about code kept
taken m r Alive = takes r

-- ---- want of memory

-- the replica that want of memory leaves, at a frame that may want it
abbrev pub lost_at : {W O : Type 0} → Worlds W O → PlainReplica W O → ServerFrame → Option (PlainReplica W O)
lost_at m r (Sync joined last from base) = Some r
lost_at m r (Recv entry) = Some (breaks m r)
lost_at m r (Tick t) = Some (breaks m r)
lost_at m r (Done number seq time) = None
lost_at m r (Snapped time) = None
lost_at m r (Refused about code kept more) = None
lost_at m r Alive = None

-- want of memory may come in place of what the table has: where it takes the frame, or refuses its base
abbrev pub MayWant : Option ReplicaFault → Type 0
MayWant None = Unit {0}
MayWant (Some cause.BadBase) = Unit {0}
MayWant (Some other) = ⊥

-- The result of a call and the replica behind it are those of the table. Want of memory is the one free answer.
abbrev pub IsTaken : {W O : Type 0} → Result ⊤ ReplicaFault → Option (PlainReplica W O) → PlainReplica W O → Taken W O
    → Type 0
IsTaken (Ok done) lost new taken = (taken.fault ≡ None) × (new ≡ taken.replica)
IsTaken (Err cause.WantOfMemory) lost new taken = MayWant taken.fault × (lost ≡ Some new)
IsTaken (Err fault) lost new taken = (taken.fault ≡ Some fault) × (new ≡ taken.replica)
