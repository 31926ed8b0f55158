-- A session, the replicas of its views and their connections.
use Rattle.std.specs.Prelude.{ℕ, ◌==◌, Bool, true, false, not, ◌&&◌, ◌||◌, if◌then◌else◌, List, [], ◌∷◌, ◌++◌, map, set, slice_get, Option, Some, None}
use Rattle.wire_frames.specs.declared.frame.ClientFrame.{ClientFrame}
use Rattle.wire_frames.specs.declared.frame.ServerFrame.{ServerFrame}
use Rattle.reflector_core.specs.PlainSession.{PlainSession}
use Rattle.reflector_core.specs.Play.{first_session}
use Rattle.join_sync.specs.declared.cursor.Cursor.{Cursor}
use Rattle.replica_plain.specs.PlainReplica.{PlainReplica}

-- up and down: the frames in flight from the view and to it, the next one first. cursor: how far it is served, once it joined. closed: no
-- further frame comes into flight, either way. over: it acts on nothing any more.
pub record Connection : Type 0 where
  pub view : ℕ
  pub up : List ClientFrame
  pub down : List ServerFrame
  pub cursor : Option Cursor
  pub closed : Bool
  pub over : Bool

-- a view's replica, and the number of its newest connection, which alone is read
pub record Client (W O : Type 0) : Type 0 where
  pub replica : PlainReplica W O
  pub newest : ℕ

-- connections are numbered from 0, in the order in which they were made
pub record System (W O : Type 0) : Type 0 where
  pub session : PlainSession
  pub clients : List (Client W O)
  pub connections : List Connection

abbrev pub first_system : {W O : Type 0} → System W O
first_system = record { session = first_session; clients = []; connections = [] }

-- ---- clients

-- the client of a view
abbrev pub view_client : {W O : Type 0} → List (Client W O) → ℕ → Option (Client W O)
view_client [] view = None
view_client (client ∷ rest) view = if client.replica.view == view then Some client else view_client rest view

-- with another client in place of the one of its view
abbrev pub with_client : {W O : Type 0} → List (Client W O) → Client W O → List (Client W O)
with_client clients new = map (λ client. if client.replica.view == new.replica.view then new else client) clients

abbrev pub with_replica : {W O : Type 0} → System W O → Client W O → PlainReplica W O → System W O
with_replica s client replica =
    record s { clients = with_client s.clients (record { replica = replica; newest = client.newest }) }

-- ---- connections

abbrev pub with_connection : {W O : Type 0} → System W O → ℕ → Connection → System W O
with_connection s number c = record s { connections = set s.connections number c }

-- a connection that was just made, with a JOIN in flight
abbrev pub connecting : ℕ → ClientFrame → Connection
connecting view frame = record { view = view; up = frame ∷ []; down = []; cursor = None; closed = false; over = false }

abbrev pub is_open : Connection → Bool
is_open c = not c.closed && not c.over

-- more frames in flight, unless it is closed
abbrev pub put_up : Connection → List ClientFrame → Connection
put_up c frames = record c { up = if c.closed then c.up else c.up ++ frames }

abbrev pub put_down : Connection → List ServerFrame → Connection
put_down c frames = record c { down = if c.closed then c.down else c.down ++ frames }

abbrev pub with_up : Connection → List ClientFrame → Connection
with_up c up = record c { up = up }

abbrev pub with_down : Connection → List ServerFrame → Connection
with_down c down = record c { down = down }

abbrev pub with_cursor : Connection → Option Cursor → Connection
with_cursor c cursor = record c { cursor = cursor }

abbrev pub over_if : Bool → Connection → Connection
over_if over c = record c { over = c.over || over }

abbrev pub closing : Connection → Connection
closing c = record c { closed = true }

abbrev pub close_on : List Connection → ℕ → Option Connection → List Connection
close_on connections number None = connections
close_on connections number (Some c) = set connections number (closing c)

-- the numbered connection is closed
abbrev pub close : List Connection → ℕ → List Connection
close connections number = close_on connections number (slice_get connections number)
