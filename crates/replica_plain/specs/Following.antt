-- Which replicas follow a log, and what becomes of one that a connection serves.
use Rattle.std.specs.Prelude.{◌≡◌, ◌≤◌, ℕ, true, false, List, [], ◌∷◌, Option, Some, None}
use Rattle.tea_base.specs.declared.entry.Entry.{Entry}
use Rattle.tea_base.specs.Readings.{count_until}
use Rattle.wire_frames.specs.declared.start.Base.{Base}
use Rattle.wire_frames.specs.declared.frame.ClientFrame.{ClientFrame}
use Rattle.wire_frames.specs.declared.frame.ServerFrame.{ServerFrame}
use Rattle.wire_frames.specs.declared.frame.ServerFrame.TheVariants.{Sync, Recv, Tick, Done, Snapped, Refused, Alive}
use Rattle.wire_frames.specs.Served.{Served}
use Rattle.replica_plain.specs.declared.how.How.{How}
use Rattle.replica_plain.specs.declared.how.How.TheVariants.{Fresh, Whole, Resume}
use Rattle.replica_plain.specs.declared.fault.ReplicaFault.{ReplicaFault}
use Rattle.replica_plain.specs.Worlds.{Worlds, WorldFollows, IsHonest}
use Rattle.replica_plain.specs.PlainReplica.{PlainReplica, published_count}
use Rattle.replica_plain.specs.Taking.{taken}
use Rattle.replica_plain.specs.Calls.{join_frame, publishes, gives, takes_out}

-- the replica is not broken, its world is valid and follows the log, and it has seen the entries of its time
pub record FollowsLog {W O : Type 0} (m : Worlds W O) (log : List Entry) (r : PlainReplica W O) : Type 0 where
  pub whole : r.broken ≡ false
  pub valid : m.valid r.world ≡ true
  pub follows : WorldFollows m log r.world
  pub counted : r.seen ≡ count_until log (m.time r.world)

-- a call that changes a replica which has taken its Sync: it takes a frame, publishes an event with this payload, gives its events, or
-- hands over what its models published
pub data ReplicaCall : Type 0 where
  ToTake : ServerFrame → ReplicaCall
  ToPublish : List ℕ → ReplicaCall
  ToGive : ReplicaCall
  ToTakeOut : ReplicaCall

abbrev pub after_call : {W O : Type 0} → Worlds W O → PlainReplica W O → ReplicaCall → PlainReplica W O
after_call m r (ToTake frame) = (taken m r frame).replica
after_call m r (ToPublish payload) = publishes r payload
after_call m r ToGive = gives r
after_call m r ToTakeOut = takes_out r

-- the replica after these calls
abbrev pub after_calls : {W O : Type 0} → Worlds W O → PlainReplica W O → List ReplicaCall → PlainReplica W O
after_calls m r [] = r
after_calls m r (call ∷ rest) = after_calls m (after_call m r call) rest

-- the frames that they took
abbrev pub frames_of_calls : List ReplicaCall → List ServerFrame
frames_of_calls [] = []
frames_of_calls (ToTake frame ∷ rest) = frame ∷ frames_of_calls rest
frames_of_calls (call ∷ rest) = frames_of_calls rest

-- a frame that speaks of the world has no fault
abbrev pub IsReadFrame : ServerFrame → Option ReplicaFault → Type 0
IsReadFrame (Sync joined last from base) fault = fault ≡ None
IsReadFrame (Recv entry) fault = fault ≡ None
IsReadFrame (Tick t) fault = fault ≡ None
IsReadFrame (Done number seq time) fault = Unit {0}
IsReadFrame (Snapped time) fault = Unit {0}
IsReadFrame (Refused about code kept more) fault = Unit {0}
IsReadFrame Alive fault = Unit {0}

abbrev pub IsReadCall : {W O : Type 0} → Worlds W O → PlainReplica W O → ReplicaCall → Type 0
IsReadCall m r (ToTake frame) = IsReadFrame frame (taken m r frame).fault
IsReadCall m r call = Unit {0}

-- and so of each frame that these calls take
abbrev pub AreReadCalls : {W O : Type 0} → Worlds W O → PlainReplica W O → List ReplicaCall → Type 0
AreReadCalls m r [] = Unit {0}
AreReadCalls m r (call ∷ rest) = IsReadCall m r call × AreReadCalls m (after_call m r call) rest

-- a base that comes is honest
abbrev pub IsHonestBase : {W O : Type 0} → Worlds W O → List Entry → Option Base → Type 0
IsHonestBase m log None = Unit {0}
IsHonestBase m log (Some base) = IsHonest m log base.time base.bytes

-- a replica that goes on from its own world follows the log
abbrev pub MayJoin : {W O : Type 0} → Worlds W O → List Entry → PlainReplica W O → How → Type 0
MayJoin m log r Fresh = Unit {0}
MayJoin m log r Whole = Unit {0}
MayJoin m log r Resume = FollowsLog m log r

-- A connection serves a replica that joined so: it was sent a SYNC that answers the replica's own JOIN, and more. The SYNC knows of
-- as many of the view's events as were acknowledged, and of no more than were published; its base, if it has one, is honest.
pub record IsServedTo {W O : Type 0} (m : Worlds W O) (log : List Entry) (r : PlainReplica W O) (how : How)
    (given : List (Option ClientFrame))
    (joined last from : ℕ) (base : Option Base) (rest : List ServerFrame) : Type 0 where
  pub awaited : r.awaited ≡ Some how
  pub served : Served log (Some (join_frame m r how) ∷ given) (Sync joined last from base ∷ rest)
  pub least : r.acknowledged ≤ last
  pub most : last ≤ published_count r
  pub honest : IsHonestBase m log base
  pub may : MayJoin m log r how
