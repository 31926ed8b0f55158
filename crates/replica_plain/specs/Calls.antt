-- What the other calls make of a replica.
use Rattle.std.specs.Prelude.{◌≡◌, ◌≤◌, ◌<◌, ℕ, ◌+◌, ◌-◌, ◌^◌, min, false, if◌then◌else◌, List, [], ◌∷◌, ◌++◌, length, drop, Some, None, Result, Ok, Err}
use Rattle.tea_base.specs.Limits.{most_payload}
use Rattle.wire_frames.specs.declared.start.Want.{Want}
use Rattle.wire_frames.specs.declared.start.Want.TheVariants as want
use Rattle.wire_frames.specs.declared.frame.ClientFrame.{ClientFrame}
use Rattle.wire_frames.specs.declared.frame.ClientFrame.TheVariants.{Join, Send, Snap}
use Rattle.replica_plain.specs.declared.how.How.{How}
use Rattle.replica_plain.specs.declared.how.How.TheVariants.{Fresh, Whole, Resume}
use Rattle.replica_plain.specs.declared.fault.PublishRefusal.{PublishRefusal}
use Rattle.replica_plain.specs.declared.fault.PublishRefusal.TheVariants.{TooLong, Full, WantOfMemory}
use Rattle.replica_plain.specs.Worlds.{Worlds}
use Rattle.replica_plain.specs.PlainReplica.{PlainReplica, published_count, most_published}

-- ---- joining

-- a Sync is awaited from now on, and each event that is not acknowledged is to be given again
abbrev pub joining : {W O : Type 0} → PlainReplica W O → How → PlainReplica W O
joining r how = record r { given = r.acknowledged; awaited = Some how; synced = false }

abbrev pub join_want : {W O : Type 0} → Worlds W O → PlainReplica W O → How → Want
join_want m r Fresh = want.Fresh
join_want m r Whole = want.Whole
join_want m r Resume = want.After (m.time r.world)

abbrev pub join_frame : {W O : Type 0} → Worlds W O → PlainReplica W O → How → ClientFrame
join_frame m r how = Join (record { 0 = m.session }) r.view (join_want m r how)

-- the first world again, before any join
abbrev pub loses : {W O : Type 0} → Worlds W O → PlainReplica W O → PlainReplica W O
loses m r =
    record r {
      world = m.first;
      out = m.first_out;
      broken = false;
      seen = 0;
      given = r.acknowledged;
      awaited = None;
      synced = false;
      base = None;
    }

-- ---- events

abbrev pub publishes : {W O : Type 0} → PlainReplica W O → List ℕ → PlainReplica W O
publishes r payload = record r { outbox = r.outbox ++ payload ∷ [] }

-- a payload of more than 4,096 bytes is too long, and then an event too many is refused
abbrev pub Publishes : {W O : Type 0} → Result ℕ PublishRefusal → PlainReplica W O → PlainReplica W O → List ℕ → Type 0
Publishes (Ok number) old new payload =
    (length payload ≤ most_payload) × (published_count old < most_published) × (number ≡ published_count old + 1)
    × (new ≡ publishes old payload)
Publishes (Err (TooLong len)) old new payload =
    (most_payload < length payload) × (len ≡ min (length payload) (2 ^ 32 - 1)) × (new ≡ old)
Publishes (Err (Full count)) old new payload =
    (length payload ≤ most_payload) × (published_count old ≡ most_published) × (count ≡ most_published) × (new ≡ old)
Publishes (Err WantOfMemory) old new payload = new ≡ old

-- the SENDs of payloads whose numbers begin behind this one
abbrev pub sends_after : ℕ → List (List ℕ) → List ClientFrame
sends_after number [] = []
sends_after number (payload ∷ rest) = Send (number + 1) payload ∷ sends_after (number + 1) rest

-- the events that are not acknowledged and were not given since the last Sync
abbrev pub unsent : {W O : Type 0} → PlainReplica W O → List ClientFrame
unsent r = if r.synced then sends_after r.given (drop (r.given - r.acknowledged) r.outbox) else []

-- they are given
abbrev pub gives : {W O : Type 0} → PlainReplica W O → PlainReplica W O
gives r = record r { given = if r.synced then published_count r else r.given }

-- ---- what models published, and snapshots

-- what the models published is taken out
abbrev pub takes_out : {W O : Type 0} → PlainReplica W O → PlainReplica W O
takes_out r = record r { out = [] }

abbrev pub snap_frame : {W O : Type 0} → Worlds W O → PlainReplica W O → ClientFrame
snap_frame m r = Snap (m.time r.world) (m.snapshot r.world)
