-- What each connection of a system was sent, as far as it was not lost, is served by the log.
use Rattle.std.proofs.lemmas.Bool.Decides.{nat_tests}
use Rattle.std.proofs.lemmas.Option.{slice_get_within}
use Rattle.std.proofs.lemmas.List.{length-set, take-append-drop}
use Rattle.std.proofs.Common.{ℕ, ◌+◌, ◌≡◌, ◌≢◌, ◌≤◌, inl, inr, Bool, true, false, cond, eqb, ◌||◌, List, [], ◌∷◌, ◌++◌, Option, Some, None, is_some, length, length-append, set, slice_get, take, drop, refl, sym, ap, ◌∙◌, subst, arith, append_assoc}
use Rattle.tea_base.specs.declared.entry.SessionId.{SessionId}
use Rattle.wire_frames.specs.declared.frame.ClientFrame.{ClientFrame}
use Rattle.wire_frames.specs.declared.frame.ClientFrame.TheVariants as up
use Rattle.wire_frames.specs.declared.frame.ServerFrame.{ServerFrame}
use Rattle.wire_frames.specs.Served.{Served}
use Rattle.reflector_core.specs.declared.request.Reply.{Reply}
use Rattle.reflector_core.specs.declared.request.Reply.TheVariants as reply
use Rattle.reflector_core.specs.declared.request.Request.{Request}
use Rattle.reflector_core.specs.declared.request.Request.TheVariants as request
use Rattle.reflector_core.specs.Answer.{answer}
use Rattle.reflector_core.specs.PlainSession.{IsSoundSession, PlainSession}
use Rattle.replica_plain.specs.declared.how.How.{How}
use Rattle.replica_plain.specs.declared.how.How.TheVariants.{Fresh}
use Rattle.replica_plain.specs.Calls.{join_frame, loses, snap_frame, unsent}
use Rattle.replica_plain.specs.PlainReplica.{PlainReplica, new_replica}
use Rattle.replica_plain.specs.Worlds.{AreWorlds, Worlds}
use Rattle.join_sync.specs.declared.act.Act.{Act}
use Rattle.join_sync.specs.declared.act.Act.TheVariants.{Answer, Call}
use Rattle.join_sync.specs.declared.cursor.Cursor.{Cursor}
use Rattle.system_plain.specs.ConnectionLine.{ConnectionLine, hears, line_on, open_connection, pulls, with_line}
use Rattle.system_plain.specs.Schedule.{AreTypedSteps, IsSchedule, SpellWorlds, ViewPayloads, after_schedule, nothing_published, published_after, run_schedule}
use Rattle.system_plain.specs.Steps.{Cut, Found, Publish, Pull, Receive, Reconnect, Restart, Snap, SystemStep, Take, Tick, Transmit, after_joined, after_leave, after_step, behind_turn, connect, cut_on, found, may_publish, publish_by, pull_on, receive_by, receive_next, receive_on, reconnect_by, restart_by, snap_by, snap_on, take_on, told_connection, transmit_by, transmit_on, whole_for, with_both}
use Rattle.system_plain.specs.System.{Client, Connection, System, close, closing, connecting, first_system, is_open, over_if, put_up, view_client, with_down, with_up}
use Rattle.system_plain.specs.Turn.{act_turn, heard_act, leave_request}
use Rattle.system_plain.specs.Traffic.{Traffic, Traffics, given_next, given_on, no_traffic, received_by, received_next, received_on, traffics_after, traffics_by, traffics_in, with_given, with_received}
use Rattle.system_plain.proofs.Changes.{get_close_on, length-close_on}
use Rattle.system_plain.proofs.ClosedLines.{ClosedStands, StandsBy, closed_front, closed_grow, closed_more, hears_prefixed, prefixed, pulls_given, pulls_prefixed, stands_by_grow, stands_by_is_served, stands_closed}
use Rattle.system_plain.proofs.LineSteps.{pull_is_turn, take_is_turn}
use Rattle.system_plain.proofs.Lines.{LineStands, Stands, hears_stands, pulls_stands}
use Rattle.system_plain.proofs.Lookups.{get_push, get_set}
use Rattle.system_plain.proofs.NumbersQuiet.{differs}
use Rattle.system_plain.proofs.Schedules.{SystemStands, first_kept, step_keeps}
use Rattle.system_plain.proofs.Sessions.{Grows, Grows-answer, Grows-same}
use Rattle.system_plain.proofs.StepRows.{going_row, over_rests, pull_going}
use Rattle.system_plain.proofs.Turns.{rests}

-- what is true of a connection and its traffic
abbrev CarriesAt : PlainSession → Connection → Traffic → Type 0
CarriesAt s c traffic = StandsBy c.closed s c.cursor c.over traffic.given (traffic.received ++ c.down)

-- each connection stands so, and one that is not made yet has no traffic
pub record TrafficsStand {W O : Type 0} (s : System W O) (traffics : Traffics) : Type 0 where
  pub each : (k : ℕ) (c : Connection) → slice_get s.connections k ≡ Some c → CarriesAt s.session c (traffics k)
  pub fresh : (k : ℕ) → length s.connections ≤ k → traffics k ≡ record { given = []; received = [] }

-- ---- one connection changes, with its traffic

connection_carries : {W O : Type 0} (s : System W O) (new : PlainSession) (clients : List (Client W O)) (number : ℕ) (c changed : Connection) (traffics next : Traffics) → TrafficsStand s traffics → slice_get s.connections number ≡ Some c → Grows s.session new
    → ((k : ℕ) → k ≢ number → next k ≡ traffics k) → CarriesAt new changed (next number) → TrafficsStand (record { session = new; clients = clients; connections = set s.connections number changed }) next
connection_carries s new clients number c changed traffics next stands at grows others carries =
    let within = slice_get_within s.connections number c at in
    record {
      each = λ k found at_k. elim (get_set s.connections number k changed found at_k) [
        | inl hit ↦ subst (λ (x : Connection). CarriesAt new x (next k)) (sym hit.1) (subst (λ (j : ℕ). CarriesAt new changed (next j)) (sym hit.0) carries)
        | inr miss ↦ subst (λ (t : Traffic). CarriesAt new found t) (sym (others k miss.0))
            (stands_by_grow found.closed s.session new found.cursor found.over (traffics k).given ((traffics k).received ++ found.down) grows (stands.each k found miss.1))
      ];
      fresh = λ k long. let there : length s.connections ≤ k = omega (arith, length-set s.connections number changed) in others k (λ same. absurd (omega arith)) ∙ stands.fresh k there;
    }

-- the session alone goes on
session_carries : {W O : Type 0} (s : System W O) (new : PlainSession) (traffics : Traffics) → TrafficsStand s traffics → Grows s.session new → TrafficsStand (record s { session = new }) traffics
session_carries s new traffics stands grows = record {
  each = λ k c at. stands_by_grow c.closed s.session new c.cursor c.over (traffics k).given ((traffics k).received ++ c.down) grows (stands.each k c at);
  fresh = stands.fresh;
}

carries_if : {W O : Type 0} (test : Bool) (a b : System W O) (traffics : Traffics) → TrafficsStand a traffics → TrafficsStand b traffics → TrafficsStand (cond test a b) traffics
carries_if true a b traffics held fell = held
carries_if false a b traffics held fell = fell

-- traffic that changes at one number
at_number : {T : Type 0} (number : ℕ) (new old : T) → cond (eqb number number) new old ≡ new
at_number number new old = let same : eqb number number ≡ true = grind (arith, nat_tests) in rw same refl

elsewhere : {T : Type 0} (number k : ℕ) (new old : T) → k ≢ number → cond (eqb k number) new old ≡ old
elsewhere number k new old far = let other : eqb k number ≡ false = differs k number far in rw other refl

-- ---- a new connection

pushed_carries : {W O : Type 0} (s : System W O) (clients : List (Client W O)) (before : List Connection) (view : ℕ) (frame : ClientFrame) (traffics : Traffics) → TrafficsStand s traffics → length before ≡ length s.connections
    → ((k : ℕ) (c : Connection) → slice_get before k ≡ Some c → CarriesAt s.session c (traffics k)) → TrafficsStand (record { session = s.session; clients = clients; connections = before ++ connecting view frame ∷ [] }) traffics
pushed_carries s clients before view frame traffics stands same each =
    let longer : length (before ++ connecting view frame ∷ []) ≡ length s.connections + 1 = omega (arith, length-append before (connecting view frame ∷ []), same) in
    record {
      each = λ k c at. elim (get_push before k (connecting view frame) c at) [
        | inl old ↦ each k c old
        | inr last ↦
            let none : traffics k ≡ record { given = []; received = [] } = stands.fresh k (omega (arith, last.0)) in
            subst (λ (x : Connection). CarriesAt s.session x (traffics k)) (sym last.1) (subst (λ (t : Traffic). CarriesAt s.session (connecting view frame) t) (sym none) (refl, refl))
      ];
      fresh = λ k long. stands.fresh k (omega arith);
    }

found_carries : {W O : Type 0} (m : Worlds W O) (s : System W O) (view : ℕ) (traffics : Traffics) → TrafficsStand s traffics → TrafficsStand (found m s view) traffics
found_carries m s view traffics stands =
    carries_if (eqb view 0 || is_some (view_client s.clients view)) s _ traffics stands (pushed_carries s _ s.connections view (join_frame m (new_replica m view) Fresh) traffics stands refl stands.each)

-- the newest connection is closed
connect_carries : {W O : Type 0} (m : Worlds W O) (s : System W O) (newest : ℕ) (replica : PlainReplica W O) (how : How) (traffics : Traffics) → TrafficsStand s traffics → TrafficsStand (connect m s newest replica how) traffics
connect_carries m s newest replica how traffics stands =
    pushed_carries s _ (close s.connections newest) replica.view (join_frame m replica how) traffics stands (length-close_on s.connections newest (slice_get s.connections newest))
    (λ k c at. elim (get_close_on s.connections newest k (slice_get s.connections newest) c refl at) [
      | inl hit ↦
          let old = hit.1 in
          let held : CarriesAt s.session old (traffics k) = stands.each k old (subst (λ (j : ℕ). slice_get s.connections j ≡ Some old) (sym hit.0) hit.2) in
          subst (λ (x : Connection). CarriesAt s.session x (traffics k)) (sym hit.3) (stands_closed old.closed s.session old.cursor old.over (traffics k).given ((traffics k).received ++ old.down) held)
      | inr miss ↦ stands.each k c miss
    ])

-- ---- steps that take nothing from a connection and put nothing down

transmit_carries : {W O : Type 0} (s : System W O) (client : Client W O) (found : Option Connection) (traffics : Traffics) → TrafficsStand s traffics → slice_get s.connections client.newest ≡ found → TrafficsStand (transmit_on s client found) traffics
transmit_carries s client None traffics stands at = stands
transmit_carries s client (Some c) traffics stands at =
    carries_if (is_open c) _ s traffics (connection_carries s s.session _ client.newest c (put_up c (unsent client.replica)) traffics traffics stands at (Grows-same s.session) (λ k far. refl) (stands.each client.newest c at)) stands

snap_carries : {W O : Type 0} (m : Worlds W O) (s : System W O) (client : Client W O) (found : Option Connection) (traffics : Traffics) → TrafficsStand s traffics → slice_get s.connections client.newest ≡ found → TrafficsStand (snap_on m s client found) traffics
snap_carries m s client None traffics stands at = stands
snap_carries m s client (Some c) traffics stands at =
    carries_if (is_open c) _ s traffics (connection_carries s s.session _ client.newest c (put_up c (snap_frame m client.replica ∷ [])) traffics traffics stands at (Grows-same s.session) (λ k far. refl) (stands.each client.newest c at)) stands

cut_carries : {W O : Type 0} (s : System W O) (number ups downs : ℕ) (found : Option Connection) (traffics : Traffics) → TrafficsStand s traffics → slice_get s.connections number ≡ found → TrafficsStand (cut_on s number ups downs found) traffics
cut_carries s number ups downs None traffics stands at = stands
cut_carries s number ups downs (Some c) traffics stands at =
    let traffic = traffics number in
    let whole : traffic.received ++ c.down ≡ (traffic.received ++ take downs c.down) ++ drop downs c.down =
    ap (λ (l : List ServerFrame). traffic.received ++ l) (sym (take-append-drop downs c.down)) ∙ sym (append_assoc traffic.received (take downs c.down) (drop downs c.down)) in
    connection_carries s s.session s.clients number c (closing (with_down (with_up c (take ups c.up)) (take downs c.down))) traffics traffics stands at (Grows-same s.session) (λ k far. refl)
    (closed_front s.session traffic.given (traffic.received ++ take downs c.down) (drop downs c.down)
    (subst (ClosedStands s.session traffic.given) whole (stands_closed c.closed s.session c.cursor c.over traffic.given (traffic.received ++ c.down) (stands.each number c at))))

-- ---- Receive

receive_next_carries : {W O : Type 0} (m : Worlds W O) (s : System W O) (client : Client W O) (c : Connection) (down : List ServerFrame) (traffics : Traffics) → TrafficsStand s traffics → slice_get s.connections client.newest ≡ Some c → c.down ≡ down
    → TrafficsStand (receive_next m s client c down) (received_next traffics client.newest down)
receive_next_carries m s client c [] traffics stands at is = stands
receive_next_carries m s client c (frame ∷ rest) traffics stands at is =
    let traffic = traffics client.newest in
    let after : Traffic = record { given = traffic.given; received = traffic.received ++ frame ∷ [] } in
    let same : traffic.received ++ c.down ≡ (traffic.received ++ frame ∷ []) ++ rest = ap (λ (l : List ServerFrame). traffic.received ++ l) is ∙ sym (append_assoc traffic.received (frame ∷ []) rest) in
    connection_carries s s.session _ client.newest c (with_down c rest) traffics (with_received traffics client.newest frame) stands at (Grows-same s.session) (λ k far. elsewhere client.newest k _ (traffics k) far)
    (subst (λ (t : Traffic). CarriesAt s.session (with_down c rest) t) (sym (at_number client.newest after traffic))
    (subst (StandsBy c.closed s.session c.cursor c.over traffic.given) same (stands.each client.newest c at)))

receive_on_carries : {W O : Type 0} (m : Worlds W O) (s : System W O) (client : Client W O) (found : Option Connection) (traffics : Traffics) → TrafficsStand s traffics → slice_get s.connections client.newest ≡ found → TrafficsStand (receive_on m s client found) (received_on traffics client.newest found)
receive_on_carries m s client None traffics stands at = stands
receive_on_carries m s client (Some c) traffics stands at = receive_next_carries m s client c c.down traffics stands at refl

receive_carries : {W O : Type 0} (m : Worlds W O) (s : System W O) (found : Option (Client W O)) (traffics : Traffics) → TrafficsStand s traffics → TrafficsStand (receive_by m s found) (received_by s traffics found)
receive_carries m s None traffics stands = stands
receive_carries m s (Some client) traffics stands = receive_on_carries m s client (slice_get s.connections client.newest) traffics stands refl

-- ---- how the session of a line grows

act_grows : (s : PlainSession) (cursor : Option Cursor) (act : Act) → IsSoundSession (act_turn s cursor act).session → Grows s (act_turn s cursor act).session
act_grows s cursor (Call asked) sound = Grows-answer s asked sound
act_grows s cursor (Answer frame) sound = Grows-same s

pulls_grow : (s : PlainSession) (cursor : Option Cursor) (given : List (Option ClientFrame)) (sent : List ServerFrame) → Grows s (pulls (line_on s cursor given sent) cursor).session
pulls_grow s None given sent = Grows-same s
pulls_grow s (Some cursor) given sent = Grows-same s

-- ---- Take and Pull on an open connection: what a line does

-- it is a line, sent no more than is in flight
is_line : (s : PlainSession) (c : Connection) (ups : List ClientFrame) (given : List (Option ClientFrame)) → c.closed ≡ false → c.over ≡ false → c.up ≡ ups → c ≡ open_connection c.view ups (line_on s c.cursor given c.down)
is_line s c ups given opened going is =
    ap (λ (closed : Bool). record c { closed = closed }) opened ∙ ap (λ (over : Bool). record c { closed = false; over = over }) going ∙ ap (λ (l : List ClientFrame). record c { closed = false; over = false; up = l }) is

with_line_carries : {W O : Type 0} (s : System W O) (number : ℕ) (c : Connection) (ups : List ClientFrame) (line : ConnectionLine) (traffics next : Traffics) → TrafficsStand s traffics → slice_get s.connections number ≡ Some c → Grows s.session line.session
    → ((k : ℕ) → k ≢ number → next k ≡ traffics k) → (next number).given ≡ line.given → (next number).received ≡ (traffics number).received → LineStands (prefixed (traffics number).received line) → TrafficsStand (with_line s number c.view ups line) next
with_line_carries s number c ups line traffics next stands at grows others given received line_stands =
    connection_carries s line.session s.clients number c (open_connection c.view ups line) traffics next stands at grows others
    (subst (λ (l : List (Option ClientFrame)). Stands line.session line.cursor line.over l ((next number).received ++ line.sent)) (sym given)
    (subst (λ (front : List ServerFrame). Stands line.session line.cursor line.over line.given (front ++ line.sent)) (sym received) line_stands.stands))

open_take_carries : {W O : Type 0} (m : Worlds W O) (s : System W O) (number now : ℕ) (c : Connection) (frame : ClientFrame) (rest : List ClientFrame) (traffics : Traffics) → TrafficsStand s traffics → IsSoundSession s.session → IsSoundSession (after_step m s (Take number now)).session
    → slice_get s.connections number ≡ Some c → c.closed ≡ false → c.over ≡ false → c.up ≡ frame ∷ rest → TrafficsStand (after_step m s (Take number now)) (with_given traffics number frame)
open_take_carries m s number now c frame rest traffics stands old sound at opened going ups =
    let traffic = traffics number in
    let id : SessionId = record { 0 = m.session } in
    let line = hears id (line_on s.session c.cursor traffic.given c.down) c.cursor (Some frame) now in
    let turned = take_is_turn m s number c.view now c.cursor traffic.given frame rest c.down (at ∙ ap (λ (x : Connection). Some x) (is_line s.session c (frame ∷ rest) traffic.given opened going ups)) in
    let new : IsSoundSession line.session = subst (λ (x : System _ _). IsSoundSession x.session) turned sound in
    let prefix = hears_prefixed id s.session c.cursor traffic.given traffic.received c.down frame now in
    let held : Stands s.session c.cursor false traffic.given (traffic.received ++ c.down) =
    subst (λ (over : Bool). Stands s.session c.cursor over traffic.given (traffic.received ++ c.down)) going (subst (λ (closed : Bool). StandsBy closed s.session c.cursor c.over traffic.given (traffic.received ++ c.down)) opened (stands.each number c at)) in
    let heard = subst LineStands prefix
    (hears_stands id (line_on s.session c.cursor traffic.given (traffic.received ++ c.down)) c.cursor (Some frame) now old (subst (λ (x : ConnectionLine). IsSoundSession x.session) (sym prefix) new) held) in
    let after : Traffic = record { given = traffic.given ++ Some frame ∷ []; received = traffic.received } in
    subst (λ (x : System _ _). TrafficsStand x (with_given traffics number frame)) (sym turned)
    (with_line_carries s number c rest line traffics (with_given traffics number frame) stands at (act_grows s.session c.cursor (heard_act id c.cursor (Some frame) now) new) (λ k far. elsewhere number k _ (traffics k) far)
    (ap (λ (t : Traffic). t.given) (at_number number after traffic)) (ap (λ (t : Traffic). t.received) (at_number number after traffic)) heard)

open_pull_carries : {W O : Type 0} (m : Worlds W O) (s : System W O) (number : ℕ) (c : Connection) (traffics : Traffics) → TrafficsStand s traffics → IsSoundSession s.session → slice_get s.connections number ≡ Some c → c.closed ≡ false → c.over ≡ false
    → TrafficsStand (after_step m s (Pull number)) traffics
open_pull_carries m s number c traffics stands old at opened going =
    let traffic = traffics number in
    let line = pulls (line_on s.session c.cursor traffic.given c.down) c.cursor in
    let turned = pull_is_turn m s number c.view c.cursor traffic.given c.up c.down (at ∙ ap (λ (x : Connection). Some x) (is_line s.session c c.up traffic.given opened going refl)) in
    let prefix = pulls_prefixed s.session c.cursor traffic.given traffic.received c.down in
    let held : Stands s.session c.cursor false traffic.given (traffic.received ++ c.down) =
    subst (λ (over : Bool). Stands s.session c.cursor over traffic.given (traffic.received ++ c.down)) going (subst (λ (closed : Bool). StandsBy closed s.session c.cursor c.over traffic.given (traffic.received ++ c.down)) opened (stands.each number c at)) in
    let pulled = subst LineStands prefix (pulls_stands (line_on s.session c.cursor traffic.given (traffic.received ++ c.down)) c.cursor refl refl old held) in
    subst (λ (x : System _ _). TrafficsStand x traffics) (sym turned)
    (with_line_carries s number c c.up line traffics traffics stands at (pulls_grow s.session c.cursor traffic.given c.down) (λ k far. refl) (sym (pulls_given s.session c.cursor traffic.given c.down)) refl pulled)

-- ---- Take and Pull on a closed connection: nothing is put down

closed_put : (closed : Bool) (down frames : List ServerFrame) → closed ≡ true → cond closed down (down ++ frames) ≡ down
closed_put true down frames is = refl
closed_put false down frames is = absurd cc

-- a connection that is closed still, with the same frames in flight down
closed_carries : (s : PlainSession) (c changed : Connection) (traffic : Traffic) → changed.closed ≡ true → changed.down ≡ c.down → ClosedStands s traffic.given (traffic.received ++ c.down) → CarriesAt s changed traffic
closed_carries s c changed traffic closed same held =
    subst (λ (x : Bool). StandsBy x s changed.cursor changed.over traffic.given (traffic.received ++ changed.down)) (sym closed) (subst (λ (l : List ServerFrame). ClosedStands s traffic.given (traffic.received ++ l)) (sym same) held)

closed_heard : {W O : Type 0} (s : System W O) (new : PlainSession) (number : ℕ) (c changed : Connection) (frame : ClientFrame) (traffics : Traffics) → TrafficsStand s traffics → slice_get s.connections number ≡ Some c → c.closed ≡ true → Grows s.session new → changed.closed ≡ true → changed.down ≡ c.down
    → TrafficsStand (record { session = new; clients = s.clients; connections = set s.connections number changed }) (with_given traffics number frame)
closed_heard s new number c changed frame traffics stands at closed grows still same =
    let traffic = traffics number in
    let after : Traffic = record { given = traffic.given ++ Some frame ∷ []; received = traffic.received } in
    let held = closed_grow s.session new traffic.given (traffic.received ++ c.down) grows (stands_closed c.closed s.session c.cursor c.over traffic.given (traffic.received ++ c.down) (stands.each number c at)) in
    connection_carries s new s.clients number c changed traffics (with_given traffics number frame) stands at grows (λ k far. elsewhere number k _ (traffics k) far)
    (subst (λ (t : Traffic). CarriesAt new changed t) (sym (at_number number after traffic)) (closed_carries new c changed after still same (closed_more new traffic.given (Some frame ∷ []) (traffic.received ++ c.down) held)))

closed_take : {W O : Type 0} (s : System W O) (number : ℕ) (c : Connection) (cursor : Option Cursor) (frame : ClientFrame) (rest : List ClientFrame) (act : Act) (traffics : Traffics) → TrafficsStand s traffics → slice_get s.connections number ≡ Some c → c.closed ≡ true → IsSoundSession (act_turn s.session cursor act).session
    → TrafficsStand (with_both s number (behind_turn (with_up c rest) (act_turn s.session cursor act))) (with_given traffics number frame)
closed_take s number c cursor frame rest act traffics stands at closed sound =
    let turn = act_turn s.session cursor act in
    closed_heard s turn.session number c (told_connection (with_up c rest) turn.told) frame traffics stands at closed (act_grows s.session cursor act sound) closed (closed_put c.closed c.down _ closed)

closed_changes : {W O : Type 0} (s : System W O) (new : PlainSession) (number : ℕ) (c changed : Connection) (traffics : Traffics) → TrafficsStand s traffics → slice_get s.connections number ≡ Some c → Grows s.session new → changed.closed ≡ true → changed.down ≡ c.down
    → TrafficsStand (record { session = new; clients = s.clients; connections = set s.connections number changed }) traffics
closed_changes s new number c changed traffics stands at grows still same =
    let traffic = traffics number in
    let held = closed_grow s.session new traffic.given (traffic.received ++ c.down) grows (stands_closed c.closed s.session c.cursor c.over traffic.given (traffic.received ++ c.down) (stands.each number c at)) in
    connection_carries s new s.clients number c changed traffics traffics stands at grows (λ k far. refl) (closed_carries new c changed traffic still same held)

closed_pull : {W O : Type 0} (s : System W O) (number : ℕ) (c : Connection) (cursor : Option Cursor) (traffics : Traffics) → TrafficsStand s traffics → slice_get s.connections number ≡ Some c → c.closed ≡ true → TrafficsStand (with_both s number (after_joined s.session c cursor)) traffics
closed_pull s number c None traffics stands at closed = rests (λ (x : System _ _). TrafficsStand x traffics) s number c at stands
closed_pull s number c (Some cursor) traffics stands at closed = closed_changes s s.session number c _ traffics stands at (Grows-same s.session) closed (closed_put c.closed c.down _ closed)

-- ---- Take

leave_if : {W O : Type 0} (s : System W O) (number : ℕ) (c : Connection) (cursor : Cursor) (now : ℕ) (closed : Bool) (traffics : Traffics) → TrafficsStand s traffics → slice_get s.connections number ≡ Some c → c.closed ≡ closed
    → IsSoundSession (with_both s number (cond closed ((answer s.session (leave_request cursor now)).session, over_if true c) (s.session, c))).session
    → TrafficsStand (with_both s number (cond closed ((answer s.session (leave_request cursor now)).session, over_if true c) (s.session, c))) traffics
leave_if s number c cursor now true traffics stands at is sound = closed_changes s (answer s.session (leave_request cursor now)).session number c (over_if true c) traffics stands at (Grows-answer s.session (leave_request cursor now) sound) is refl
leave_if s number c cursor now false traffics stands at is sound = rests (λ (x : System _ _). TrafficsStand x traffics) s number c at stands

leave_carries : {W O : Type 0} (s : System W O) (number : ℕ) (c : Connection) (cursor : Option Cursor) (now : ℕ) (traffics : Traffics) → TrafficsStand s traffics → slice_get s.connections number ≡ Some c → IsSoundSession (with_both s number (after_leave s.session c cursor now)).session
    → TrafficsStand (with_both s number (after_leave s.session c cursor now)) traffics
leave_carries s number c None now traffics stands at sound = rests (λ (x : System _ _). TrafficsStand x traffics) s number c at stands
leave_carries s number c (Some cursor) now traffics stands at sound = leave_if s number c cursor now c.closed traffics stands at refl sound

frame_carries : {W O : Type 0} (m : Worlds W O) (s : System W O) (number now : ℕ) (c : Connection) (frame : ClientFrame) (rest : List ClientFrame) (closed : Bool) (traffics : Traffics) → TrafficsStand s traffics → IsSoundSession s.session → IsSoundSession (after_step m s (Take number now)).session
    → slice_get s.connections number ≡ Some c → c.closed ≡ closed → c.over ≡ false → c.up ≡ frame ∷ rest → TrafficsStand (after_step m s (Take number now)) (with_given traffics number frame)
frame_carries m s number now c frame rest false traffics stands old sound at is going ups = open_take_carries m s number now c frame rest traffics stands old sound at is going ups
frame_carries m s number now c frame rest true traffics stands old sound at is going ups =
    let row = going_row m s number now c (frame ∷ rest) at going ups in
    subst (λ (x : System _ _). TrafficsStand x (with_given traffics number frame)) (sym row)
    (closed_take s number c c.cursor frame rest (heard_act (record { 0 = m.session }) c.cursor (Some frame) now) traffics stands at is (subst (λ (x : System _ _). IsSoundSession x.session) row sound))

ups_carry : {W O : Type 0} (m : Worlds W O) (s : System W O) (number now : ℕ) (c : Connection) (ups : List ClientFrame) (traffics : Traffics) → TrafficsStand s traffics → IsSoundSession s.session → IsSoundSession (after_step m s (Take number now)).session
    → slice_get s.connections number ≡ Some c → c.over ≡ false → c.up ≡ ups → TrafficsStand (after_step m s (Take number now)) (given_next traffics number ups)
ups_carry m s number now c [] traffics stands old sound at going is =
    let row = going_row m s number now c [] at going is in
    subst (λ (x : System _ _). TrafficsStand x traffics) (sym row) (leave_carries s number c c.cursor now traffics stands at (subst (λ (x : System _ _). IsSoundSession x.session) row sound))
ups_carry m s number now c (frame ∷ rest) traffics stands old sound at going is = frame_carries m s number now c frame rest c.closed traffics stands old sound at refl going is

take_over_carries : {W O : Type 0} (m : Worlds W O) (s : System W O) (number now : ℕ) (c : Connection) (over : Bool) (traffics : Traffics) → TrafficsStand s traffics → IsSoundSession s.session → IsSoundSession (after_step m s (Take number now)).session
    → slice_get s.connections number ≡ Some c → c.over ≡ over → TrafficsStand (after_step m s (Take number now)) (cond over traffics (given_next traffics number c.up))
take_over_carries m s number now c true traffics stands old sound at is =
    subst (λ (x : System _ _). TrafficsStand x traffics) (sym (over_rests m s number now c at is).0) stands
take_over_carries m s number now c false traffics stands old sound at is = ups_carry m s number now c c.up traffics stands old sound at is refl

take_carries : {W O : Type 0} (m : Worlds W O) (s : System W O) (number now : ℕ) (found : Option Connection) (traffics : Traffics) → TrafficsStand s traffics → IsSoundSession s.session → IsSoundSession (after_step m s (Take number now)).session → slice_get s.connections number ≡ found
    → TrafficsStand (after_step m s (Take number now)) (given_on traffics number found)
take_carries m s number now None traffics stands old sound at = subst (λ (x : System _ _). TrafficsStand x traffics) (sym (ap (λ (found : Option Connection). take_on m s number found now) at)) stands
take_carries m s number now (Some c) traffics stands old sound at = take_over_carries m s number now c c.over traffics stands old sound at refl

-- ---- Pull

going_pull : {W O : Type 0} (m : Worlds W O) (s : System W O) (number : ℕ) (c : Connection) (closed : Bool) (traffics : Traffics) → TrafficsStand s traffics → IsSoundSession s.session → slice_get s.connections number ≡ Some c → c.closed ≡ closed → c.over ≡ false → TrafficsStand (after_step m s (Pull number)) traffics
going_pull m s number c false traffics stands old at is going = open_pull_carries m s number c traffics stands old at is going
going_pull m s number c true traffics stands old at is going = subst (λ (x : System _ _). TrafficsStand x traffics) (sym (pull_going m s number c at going)) (closed_pull s number c c.cursor traffics stands at is)

pull_over_carries : {W O : Type 0} (m : Worlds W O) (s : System W O) (number : ℕ) (c : Connection) (over : Bool) (traffics : Traffics) → TrafficsStand s traffics → IsSoundSession s.session → slice_get s.connections number ≡ Some c → c.over ≡ over → TrafficsStand (after_step m s (Pull number)) traffics
pull_over_carries m s number c true traffics stands old at is = subst (λ (x : System _ _). TrafficsStand x traffics) (sym (over_rests m s number 0 c at is).1) stands
pull_over_carries m s number c false traffics stands old at is = going_pull m s number c c.closed traffics stands old at refl is

pull_carries : {W O : Type 0} (m : Worlds W O) (s : System W O) (number : ℕ) (found : Option Connection) (traffics : Traffics) → TrafficsStand s traffics → IsSoundSession s.session → slice_get s.connections number ≡ found → TrafficsStand (after_step m s (Pull number)) traffics
pull_carries m s number None traffics stands old at = subst (λ (x : System _ _). TrafficsStand x traffics) (sym (ap (λ (found : Option Connection). pull_on s number found) at)) stands
pull_carries m s number (Some c) traffics stands old at = pull_over_carries m s number c c.over traffics stands old at refl

-- ---- each step, and a schedule

publish_carries : {W O : Type 0} (s : System W O) (payload : List ℕ) (found : Option (Client W O)) (traffics : Traffics) → TrafficsStand s traffics → TrafficsStand (publish_by s payload found) traffics
publish_carries s payload None traffics stands = stands
publish_carries s payload (Some client) traffics stands = carries_if (may_publish client.replica payload) _ s traffics (record { each = stands.each; fresh = stands.fresh }) stands

transmit_by_carries : {W O : Type 0} (s : System W O) (found : Option (Client W O)) (traffics : Traffics) → TrafficsStand s traffics → TrafficsStand (transmit_by s found) traffics
transmit_by_carries s None traffics stands = stands
transmit_by_carries s (Some client) traffics stands = transmit_carries s client (slice_get s.connections client.newest) traffics stands refl

snap_by_carries : {W O : Type 0} (m : Worlds W O) (s : System W O) (found : Option (Client W O)) (traffics : Traffics) → TrafficsStand s traffics → TrafficsStand (snap_by m s found) traffics
snap_by_carries m s None traffics stands = stands
snap_by_carries m s (Some client) traffics stands = snap_carries m s client (slice_get s.connections client.newest) traffics stands refl

reconnect_carries : {W O : Type 0} (m : Worlds W O) (s : System W O) (how : How) (found : Option (Client W O)) (traffics : Traffics) → TrafficsStand s traffics → TrafficsStand (reconnect_by m s how found) traffics
reconnect_carries m s how None traffics stands = stands
reconnect_carries m s how (Some client) traffics stands = connect_carries m s client.newest client.replica how traffics stands

restart_carries : {W O : Type 0} (m : Worlds W O) (s : System W O) (how : How) (found : Option (Client W O)) (traffics : Traffics) → TrafficsStand s traffics → TrafficsStand (restart_by m s how found) traffics
restart_carries m s how None traffics stands = stands
restart_carries m s how (Some client) traffics stands = connect_carries m s client.newest (loses m client.replica) (whole_for how) traffics stands

step_carries : {W O : Type 0} (m : Worlds W O) (s : System W O) (step : SystemStep) (traffics : Traffics) → TrafficsStand s traffics → IsSoundSession s.session → IsSoundSession (after_step m s step).session → TrafficsStand (after_step m s step) (traffics_after s traffics step)
step_carries m s (Found view) traffics stands old sound = found_carries m s view traffics stands
step_carries m s (Publish view payload) traffics stands old sound = publish_carries s payload (view_client s.clients view) traffics stands
step_carries m s (Transmit view) traffics stands old sound = transmit_by_carries s (view_client s.clients view) traffics stands
step_carries m s (Take number now) traffics stands old sound = take_carries m s number now (slice_get s.connections number) traffics stands old sound refl
step_carries m s (Tick now) traffics stands old sound = session_carries s (answer s.session (request.Tick now)).session traffics stands (Grows-answer s.session (request.Tick now) sound)
step_carries m s (Pull number) traffics stands old sound = pull_carries m s number (slice_get s.connections number) traffics stands old refl
step_carries m s (Receive view) traffics stands old sound = receive_carries m s (view_client s.clients view) traffics stands
step_carries m s (Cut number ups downs) traffics stands old sound = cut_carries s number ups downs (slice_get s.connections number) traffics stands refl
step_carries m s (Reconnect view how) traffics stands old sound = reconnect_carries m s how (view_client s.clients view) traffics stands
step_carries m s (Restart view how) traffics stands old sound = restart_carries m s how (view_client s.clients view) traffics stands
step_carries m s (Snap view) traffics stands old sound = snap_by_carries m s (view_client s.clients view) traffics stands

steps_carry : {W O : Type 0} (m : Worlds W O) → AreWorlds m → (published : ViewPayloads) (s : System W O) (steps : List SystemStep) (traffics : Traffics) → AreTypedSteps steps → SpellWorlds m s steps → SystemStands m published s → TrafficsStand s traffics → TrafficsStand (run_schedule m s steps) (traffics_by m s traffics steps)
steps_carry m laws published s [] traffics typed spells kept stands = stands
steps_carry m laws published s (step ∷ steps) traffics typed spells kept stands =
    let next = step_keeps m laws published s step typed.0 spells.0 kept in
    steps_carry m laws (published_after s published step) (after_step m s step) steps (traffics_after s traffics step) typed.1 spells.1 next (step_carries m s step traffics stands kept.fine.sound next.fine.sound)

-- what went down a connection and was received, with what is in flight on it, is served by the log for what it gave
pub traffic_is_served : {W O : Type 0} (m : Worlds W O) (steps : List SystemStep) (number : ℕ) (c : Connection) → IsSchedule m steps → slice_get (after_schedule m steps).connections number ≡ Some c
    → Served (after_schedule m steps).session.log (traffics_in m steps number).given ((traffics_in m steps number).received ++ c.down)
traffic_is_served m steps number c is at =
    let stands = steps_carry m is.worlds nothing_published first_system steps no_traffic is.typed is.spelled (first_kept m) (record { each = λ k d none. absurd cc; fresh = λ k long. refl }) in
    stands_by_is_served c.closed (after_schedule m steps).session c.cursor c.over (traffics_in m steps number).given ((traffics_in m steps number).received ++ c.down) (stands.each number c at)
