-- The steps of a system, each a few small definitions: `_by` goes by the client that a view has, `_on` by the connection of a number.
use Rattle.std.specs.Prelude.{ℕ, ◌==◌, nat_le, nat_lt, Bool, true, ◌&&◌, ◌||◌, if◌then◌else◌, List, [], ◌∷◌, ◌++◌, length, take, set, slice_get, Option, Some, None, is_some}
use Rattle.tea_base.specs.declared.entry.SessionId.{SessionId}
use Rattle.tea_base.specs.Limits.{most_payload}
use Rattle.wire_frames.specs.declared.frame.ClientFrame.{ClientFrame}
use Rattle.wire_frames.specs.declared.frame.ServerFrame.{ServerFrame}
use Rattle.reflector_core.specs.PlainSession.{PlainSession}
use Rattle.reflector_core.specs.Answer.{answer}
use Rattle.reflector_core.specs.declared.request.Request.TheVariants as request
use Rattle.join_sync.specs.declared.cursor.Cursor.{Cursor}
use Rattle.replica_plain.specs.declared.how.How.{How}
use Rattle.replica_plain.specs.declared.how.How.TheVariants.{Fresh, Whole, Resume}
use Rattle.replica_plain.specs.Worlds.{Worlds}
use Rattle.replica_plain.specs.PlainReplica.{PlainReplica, new_replica, most_published, published_count}
use Rattle.replica_plain.specs.Taking.{taken}
use Rattle.replica_plain.specs.Calls.{gives, join_frame, joining, loses, publishes, snap_frame, unsent}
use Rattle.system_plain.specs.System.{System, Client, Connection, view_client, with_client, with_replica, with_connection, connecting, is_open, put_up, put_down, with_up, with_down, with_cursor, over_if, closing, close}
pub use Rattle.system_plain.specs.Turn.{answer_frames, ends_connection, joined_view}
use Rattle.system_plain.specs.Turn.{Told, Turn, hear_turn, leave_request, pull_turn}

pub data SystemStep : Type 0 where
  Found : (view : ℕ) → SystemStep
  Publish : (view : ℕ) (payload : List ℕ) → SystemStep
  Transmit : (view : ℕ) → SystemStep
  Take : (connection now : ℕ) → SystemStep
  Tick : (now : ℕ) → SystemStep
  Pull : (connection : ℕ) → SystemStep
  Receive : (view : ℕ) → SystemStep
  Cut : (connection up down : ℕ) → SystemStep
  Reconnect : (view : ℕ) (how : How) → SystemStep
  Restart : (view : ℕ) (how : How) → SystemStep
  Snap : (view : ℕ) → SystemStep

-- ---- Found: a view that has no replica founds one, and joins

abbrev pub found : {W O : Type 0} → Worlds W O → System W O → ℕ → System W O
found m s view =
    if view == 0 || is_some (view_client s.clients view) then s
    else record {
      session = s.session;
      clients = s.clients ++ record { replica = joining (new_replica m view) Fresh; newest = length s.connections }
          ∷ [];
      connections = s.connections ++ connecting view (join_frame m (new_replica m view) Fresh) ∷ [];
    }

-- ---- Publish: the replica takes an event of its view into its outbox

-- its payload is short enough, and the replica may publish one more
abbrev pub may_publish : {W O : Type 0} → PlainReplica W O → List ℕ → Bool
may_publish r payload = nat_le (length payload) most_payload && nat_lt (published_count r) most_published

abbrev pub publish_by : {W O : Type 0} → System W O → List ℕ → Option (Client W O) → System W O
publish_by s payload None = s
publish_by s payload (Some client) =
    if may_publish client.replica payload then with_replica s client (publishes client.replica payload) else s

-- ---- Transmit: what is unsent is put on the newest connection, and counts as given

abbrev pub transmit_on : {W O : Type 0} → System W O → Client W O → Option Connection → System W O
transmit_on s client None = s
transmit_on s client (Some c) =
    if is_open c then with_connection (with_replica s client (gives client.replica)) client.newest
    (put_up c (unsent client.replica)) else s

abbrev pub transmit_by : {W O : Type 0} → System W O → Option (Client W O) → System W O
transmit_by s None = s
transmit_by s (Some client) = transmit_on s client (slice_get s.connections client.newest)

-- ---- Snap: the replica's snapshot is put on the newest connection

abbrev pub snap_on : {W O : Type 0} → Worlds W O → System W O → Client W O → Option Connection → System W O
snap_on m s client None = s
snap_on m s client (Some c) =
    if is_open c then with_connection s client.newest (put_up c (snap_frame m client.replica ∷ [])) else s

abbrev pub snap_by : {W O : Type 0} → Worlds W O → System W O → Option (Client W O) → System W O
snap_by m s None = s
snap_by m s (Some client) = snap_on m s client (slice_get s.connections client.newest)

-- ---- Take: the reflector acts on the next frame that a connection gave

-- a connection that is told this
abbrev pub told_connection : Connection → Told → Connection
told_connection c told = over_if told.over (put_down (with_cursor c told.cursor) told.sent)

-- a session, and one of its connections
abbrev pub both : PlainSession → Connection → PlainSession × Connection
both s c = (s, c)

-- they are so behind a turn
abbrev pub behind_turn : Connection → Turn → PlainSession × Connection
behind_turn c turn = both turn.session (told_connection c turn.told)

-- no frame will come any more on a closed connection: its view leaves
abbrev pub after_leave : PlainSession → Connection → Option Cursor → ℕ → PlainSession × Connection
after_leave s c None now = both s c
after_leave s c (Some cursor) now =
    if c.closed then both (answer s (leave_request cursor now)).session (over_if true c) else both s c

-- a frame comes in on a connection that holds those after it
abbrev pub after_next : SessionId → PlainSession → Connection → List ClientFrame → ℕ → PlainSession × Connection
after_next id s c [] now = after_leave s c c.cursor now
after_next id s c (frame ∷ rest) now = behind_turn (with_up c rest) (hear_turn id s c.cursor (Some frame) now)

abbrev pub after_take : SessionId → PlainSession → Connection → ℕ → PlainSession × Connection
after_take id s c now = if c.over then both s c else after_next id s c c.up now

-- the system with this session and this connection of a number
abbrev pub with_both : {W O : Type 0} → System W O → ℕ → PlainSession × Connection → System W O
with_both s number both = record {
  session = both.0;
  clients = s.clients;
  connections = set s.connections number both.1;
}

abbrev pub take_on : {W O : Type 0} → Worlds W O → System W O → ℕ → Option Connection → ℕ → System W O
take_on m s number None now = s
take_on m s number (Some c) now = with_both s number (after_take (record { 0 = m.session }) s.session c now)

-- ---- Pull: a joined connection is sent what is new

abbrev pub after_joined : PlainSession → Connection → Option Cursor → PlainSession × Connection
after_joined s c None = both s c
after_joined s c (Some cursor) = behind_turn c (pull_turn s cursor)

abbrev pub after_pull : PlainSession → Connection → PlainSession × Connection
after_pull s c = if c.over then both s c else after_joined s c c.cursor

abbrev pub pull_on : {W O : Type 0} → System W O → ℕ → Option Connection → System W O
pull_on s number None = s
pull_on s number (Some c) = with_both s number (after_pull s.session c)

-- ---- Receive: the replica takes the next frame of its newest connection

abbrev pub receive_next : {W O : Type 0} → Worlds W O → System W O → Client W O → Connection → List ServerFrame
    → System W O
receive_next m s client c [] = s
receive_next m s client c (frame ∷ rest) =
    with_connection (with_replica s client (taken m client.replica frame).replica) client.newest (with_down c rest)

abbrev pub receive_on : {W O : Type 0} → Worlds W O → System W O → Client W O → Option Connection → System W O
receive_on m s client None = s
receive_on m s client (Some c) = receive_next m s client c c.down

abbrev pub receive_by : {W O : Type 0} → Worlds W O → System W O → Option (Client W O) → System W O
receive_by m s None = s
receive_by m s (Some client) = receive_on m s client (slice_get s.connections client.newest)

-- ---- Cut: a connection is closed, and of the frames in flight the first few are left

abbrev pub cut_on : {W O : Type 0} → System W O → ℕ → ℕ → ℕ → Option Connection → System W O
cut_on s number up down None = s
cut_on s number up down (Some c) =
    with_connection s number (closing (with_down (with_up c (take up c.up)) (take down c.down)))

-- ---- Reconnect and Restart: a replica joins by a new connection, in place of the one that it had

abbrev pub connect : {W O : Type 0} → Worlds W O → System W O → ℕ → PlainReplica W O → How → System W O
connect m s newest replica how =
    record {
      session = s.session;
      clients = with_client s.clients (record { replica = joining replica how; newest = length s.connections });
      connections = close s.connections newest ++ connecting replica.view (join_frame m replica how) ∷ [];
    }

abbrev pub reconnect_by : {W O : Type 0} → Worlds W O → System W O → How → Option (Client W O) → System W O
reconnect_by m s how None = s
reconnect_by m s how (Some client) = connect m s client.newest client.replica how

-- a replica that lost its world has none to go on from
abbrev pub whole_for : How → How
whole_for Fresh = Fresh
whole_for Whole = Whole
whole_for Resume = Whole

abbrev pub restart_by : {W O : Type 0} → Worlds W O → System W O → How → Option (Client W O) → System W O
restart_by m s how None = s
restart_by m s how (Some client) = connect m s client.newest (loses m client.replica) (whole_for how)

-- ---- the table

abbrev pub after_step : {W O : Type 0} → Worlds W O → System W O → SystemStep → System W O
after_step m s (Found view) = found m s view
after_step m s (Publish view payload) = publish_by s payload (view_client s.clients view)
after_step m s (Transmit view) = transmit_by s (view_client s.clients view)
after_step m s (Take number now) = take_on m s number (slice_get s.connections number) now
after_step m s (Tick now) = record s { session = (answer s.session (request.Tick now)).session }
after_step m s (Pull number) = pull_on s number (slice_get s.connections number)
after_step m s (Receive view) = receive_by m s (view_client s.clients view)
after_step m s (Cut number up down) = cut_on s number up down (slice_get s.connections number)
after_step m s (Reconnect view how) = reconnect_by m s how (view_client s.clients view)
after_step m s (Restart view how) = restart_by m s how (view_client s.clients view)
after_step m s (Snap view) = snap_by m s (view_client s.clients view)
