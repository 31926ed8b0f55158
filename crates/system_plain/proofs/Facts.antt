-- What is true of a system between any two steps, as far as its replicas' worlds go.
use Rattle.std.proofs.Common.{ℕ, ◌≡◌, ◌≤◌, ◌<◌, ◌^◌, Bool, true, false, List, [], ◌∷◌, Option, Some, None, length, slice_get}
use Rattle.tea_base.specs.Readings.{last_number}
use Rattle.wire_frames.specs.declared.frame.ClientFrame.{ClientFrame}
use Rattle.wire_frames.specs.declared.frame.ClientFrame.TheVariants as up
use Rattle.wire_frames.specs.declared.frame.ServerFrame.{ServerFrame}
use Rattle.wire_frames.specs.declared.frame.ServerFrame.TheVariants.{Refused, Sync, Tick}
use Rattle.wire_frames.specs.declared.start.Base.{Base}
use Rattle.wire_frames.specs.Served.{BeginsFor, Place, Streams, place_after_all}
use Rattle.reflector_core.specs.PlainSession.{IsSoundSession, PlainSession}
use Rattle.replica_plain.specs.declared.how.How.{How}
use Rattle.replica_plain.specs.Calls.{join_want}
use Rattle.replica_plain.specs.Following.{FollowsLog, IsHonestBase}
use Rattle.replica_plain.specs.PlainReplica.{PlainReplica, published_count}
use Rattle.replica_plain.specs.Worlds.{IsHonest, Worlds}
use Rattle.replica_plain.proofs.FrameSteps.{StandsAt}
use Rattle.join_sync.specs.declared.cursor.Cursor.{Cursor}
use Rattle.join_sync.specs.Standing.{StandsAt as CursorStands}
use Rattle.system_plain.specs.System.{Client, Connection, System, view_client}

-- each tick is at most the horizon
abbrev pub TicksWithin : ℕ → List ServerFrame → Type 0
TicksWithin horizon [] = Unit {0}
TicksWithin horizon (Tick t ∷ rest) = (t ≤ horizon) × TicksWithin horizon rest
TicksWithin horizon (frame ∷ rest) = TicksWithin horizon rest

-- each SNAP is honest
abbrev pub SnapsHonest : {W O : Type 0} → Worlds W O → PlainSession → List ClientFrame → Type 0
SnapsHonest m s [] = Unit {0}
SnapsHonest m s (up.Snap time bytes ∷ rest) = (IsHonest m s.log time bytes × (time ≤ s.horizon)) × SnapsHonest m s rest
SnapsHonest m s (frame ∷ rest) = SnapsHonest m s rest

-- what the connection sends next goes on from this place
abbrev pub Meets : PlainSession → Place → Option Cursor → Type 0
Meets s place None = Unit {0}
Meets s place (Some cursor) = CursorStands s place cursor

-- the frames that go down go on from a place
pub record FlowsFrom (s : PlainSession) (place : Place) (frames : List ServerFrame) (closed : Bool) (cursor : Option Cursor) : Type 0 where
  pub streams : Streams s.log place frames
  pub ticks : TicksWithin s.horizon frames
  pub meets : closed ≡ false → Meets s (place_after_all place frames) cursor

-- a replica that took its Sync reads what goes down
pub record HasBegun {W O : Type 0} (m : Worlds W O) (s : PlainSession) (r : PlainReplica W O) (down : List ServerFrame) (closed : Bool) (cursor : Option Cursor) : Type 0 where
  pub place : Place
  pub stands : StandsAt m s.log place r
  pub flows : FlowsFrom s place down closed cursor

-- the Sync that goes down is the one that the replica awaits
pub record AnswersAwaited {W O : Type 0} (m : Worlds W O) (s : PlainSession) (r : PlainReplica W O) (last from : ℕ) (base : Option Base) (rest : List ServerFrame) (closed : Bool) (cursor : Option Cursor) : Type 0 where
  pub how : How
  pub time : ℕ
  pub awaited : r.awaited ≡ Some how
  pub begins : BeginsFor s.log (join_want m r how) time from base
  pub within : time ≤ s.horizon
  pub honest : IsHonestBase m s.log base
  pub least : r.acknowledged ≤ last
  pub most : last ≤ published_count r
  pub flows : FlowsFrom s (record { seen = from; least = time }) rest closed cursor

-- the same Sync is awaited where other frames come behind it
pub awaited_flows : {W O : Type 0} (m : Worlds W O) (s : PlainSession) (r : PlainReplica W O) (last from : ℕ) (base : Option Base) (rest other : List ServerFrame) (closed ends : Bool) (before after : Option Cursor)
    → (waits : AnswersAwaited m s r last from base rest closed before) → FlowsFrom s (record { seen = from; least = waits.time }) other ends after → AnswersAwaited m s r last from base other ends after
awaited_flows m s r last from base rest other closed ends before after waits flows = record {
  how = waits.how;
  time = waits.time;
  awaited = waits.awaited;
  begins = waits.begins;
  within = waits.within;
  honest = waits.honest;
  least = waits.least;
  most = waits.most;
  flows = flows;
}

-- a replica that waits for its Sync has it first of what goes down, or nothing, or the refusal of its join
abbrev pub WaitsForSync : {W O : Type 0} → Worlds W O → PlainSession → PlainReplica W O → Bool → Bool → Option Cursor → List ServerFrame → Type 0
WaitsForSync m s r closed over cursor [] = closed ≡ false → over ≡ false → cursor ≡ None
WaitsForSync m s r closed over cursor (Sync joined last from base ∷ rest) = AnswersAwaited m s r last from base rest closed cursor
WaitsForSync m s r closed over cursor (Refused about code kept more ∷ rest) = (rest ≡ []) × (over ≡ true)
WaitsForSync m s r closed over cursor (frame ∷ rest) = ⊥

-- the first frame that goes up is the replica's JOIN, unless it was cut off
abbrev pub AsksFor : {W O : Type 0} → Worlds W O → PlainReplica W O → Bool → List ClientFrame → Type 0
AsksFor m r closed [] = closed ≡ true
AsksFor m r closed (up.Join session view want ∷ rest) = (how : How) × (r.awaited ≡ Some how) × (session ≡ record { 0 = m.session }) × (view ≡ r.view) × (want ≡ join_want m r how)
AsksFor m r closed (frame ∷ rest) = ⊥

pub record HasJoinInFlight {W O : Type 0} (m : Worlds W O) (r : PlainReplica W O) (closed : Bool) (up : List ClientFrame) (down : List ServerFrame) : Type 0 where
  pub nothing : down ≡ []
  pub waiting : r.synced ≡ false
  pub asks : AsksFor m r closed up

-- what is true of a replica and its newest connection
pub record NewestStands {W O : Type 0} (m : Worlds W O) (s : PlainSession) (r : PlainReplica W O) (c : Connection) : Type 0 where
  pub owned : c.view ≡ r.view
  pub opens : c.cursor ≡ None → c.over ≡ false → HasJoinInFlight m r c.closed c.up c.down
  pub waits : r.synced ≡ false → WaitsForSync m s r c.closed c.over c.cursor c.down
  pub begun : r.synced ≡ true → HasBegun m s r c.down c.closed c.cursor

-- a replica's world
pub record WorldStands {W O : Type 0} (m : Worlds W O) (s : PlainSession) (r : PlainReplica W O) : Type 0 where
  pub follows : FollowsLog m s.log r
  pub within : m.time r.world ≤ s.horizon

pub record WorldsStand {W O : Type 0} (m : Worlds W O) (s : System W O) : Type 0 where
  pub sound : IsSoundSession s.session
  pub kept : IsHonestBase m s.session.log s.session.kept
  pub snaps : (k : ℕ) (c : Connection) → slice_get s.connections k ≡ Some c → SnapsHonest m s.session c.up
  pub lives : (view : ℕ) (client : Client W O) → view_client s.clients view ≡ Some client → WorldStands m s.session client.replica
  pub connected : (view : ℕ) (client : Client W O) → view_client s.clients view ≡ Some client → client.newest < length s.connections
  pub joined : (view : ℕ) (client : Client W O) (c : Connection) → view_client s.clients view ≡ Some client → slice_get s.connections client.newest ≡ Some c → NewestStands m s.session client.replica c

-- each JOIN names the connection's view
abbrev pub JoinsMeant : ℕ → List ClientFrame → Type 0
JoinsMeant view [] = Unit {0}
JoinsMeant view (up.Join session named want ∷ rest) = (named ≡ view) × JoinsMeant view rest
JoinsMeant view (frame ∷ rest) = JoinsMeant view rest

abbrev pub CursorMeant : ℕ → Option Cursor → Type 0
CursorMeant view None = Unit {0}
CursorMeant view (Some cursor) = cursor.view ≡ view

-- what a connection asks is asked for its view, a number of 32 bits
pub record AsksForItsView (c : Connection) : Type 0 where
  pub bound : c.view < 2 ^ 32
  pub joins : JoinsMeant c.view c.up
  pub cursor : CursorMeant c.view c.cursor

-- what the numbers of events say, which has a proof of its own
pub record EventsStand {W O : Type 0} (s : System W O) : Type 0 where
  pub least : (view : ℕ) (client : Client W O) → view_client s.clients view ≡ Some client → client.replica.acknowledged ≤ last_number s.session.log view
  pub most : (view : ℕ) (client : Client W O) → view_client s.clients view ≡ Some client → last_number s.session.log view ≤ published_count client.replica
  pub named : (k : ℕ) (c : Connection) → slice_get s.connections k ≡ Some c → AsksForItsView c
