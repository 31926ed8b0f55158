-- The steps that take no frame keep the order of SENDs and DONEs.
use Rattle.std.proofs.Common.{ℕ, ◌+◌, ◌-◌, ◌≡◌, ◌≤◌, inl, inr, Bool, true, false, cond, eqb, not, ◌&&◌, ◌||◌, List, [], ◌∷◌, ◌++◌, Option, Some, None, is_some, zero, suc, length, length-append, take, drop, set, slice_get, refl, arith, sym, ap, ◌∙◌, subst}
use Rattle.std.proofs.lemmas.Bool.Decides.{nat_tests}
use Rattle.std.proofs.lemmas.Option.{slice_get_within}
use Rattle.std.proofs.lemmas.List.{length-drop}
use Rattle.tea_base.specs.declared.entry.Entry.{Entry}
use Rattle.tea_base.specs.Limits.{most_payload}
use Rattle.wire_frames.specs.declared.frame.ClientFrame.{ClientFrame}
use Rattle.wire_frames.specs.declared.frame.ClientFrame.TheVariants as up
use Rattle.wire_frames.specs.declared.frame.ServerFrame.{ServerFrame}
use Rattle.wire_frames.specs.declared.frame.ServerFrame.TheVariants.{Alive, Done, Recv, Refused, Snapped, Sync, Tick}
use Rattle.replica_plain.specs.declared.how.How.{How}
use Rattle.replica_plain.specs.declared.how.How.TheVariants.{Fresh}
use Rattle.replica_plain.specs.Calls.{gives, join_frame, joining, loses, publishes, sends_after, snap_frame, unsent}
use Rattle.replica_plain.specs.PlainReplica.{PlainReplica, new_replica, published_count}
use Rattle.replica_plain.specs.Worlds.{Worlds}
use Rattle.join_sync.specs.declared.cursor.Cursor.{Cursor}
use Rattle.system_plain.specs.Schedule.{ViewPayloads}
use Rattle.system_plain.specs.Steps.{connect, cut_on, found, may_publish, publish_by, reconnect_by, restart_by, snap_by, snap_on, transmit_by, transmit_on, whole_for}
use Rattle.system_plain.specs.System.{Client, Connection, System, close, closing, connecting, is_open, put_up, view_client, with_client, with_down, with_replica, with_up}
use Rattle.system_plain.proofs.Changes.{get_close_on, length-close_on, newest_apart}
use Rattle.system_plain.proofs.Facts.{WorldsStand}
use Rattle.system_plain.proofs.Lookups.{client_of-push, client_of-with, client_view, get_push, get_set}
use Rattle.system_plain.proofs.Numbers.{NumbersStand, published_with}
use Rattle.system_plain.proofs.Order.{NoDones, NoSends, OrderStands, RunsInOrder, Sending, moves_same}
use Rattle.system_plain.proofs.OrderTake.{order_changes, rise_above}
use Rattle.system_plain.proofs.Pace.{AreShortPayloads, DonesRise, SendsAbove, SendsRise, dones_end, sends_end}

pub order_if : {W O : Type 0} (published : ViewPayloads) (test : Bool) (a b : System W O) → (test ≡ true → OrderStands published a) → (test ≡ false → OrderStands published b) → OrderStands published (cond test a b)
order_if published true a b held fell = held refl
order_if published false a b held fell = fell refl

-- a replica that waits for its Sync has no SEND up and no DONE down
pub waiting_runs : {W O : Type 0} (log : List Entry) (r : PlainReplica W O) (c : Connection) → r.synced ≡ false → NoSends c.up → NoDones c.down → r.given ≤ published_count r → RunsInOrder log r c
waiting_runs log r c waiting ups downs given = record { dones = λ synced. absurd cc; sends = λ synced ready going. absurd cc; none_up = λ w. ups; none_down = λ w. downs; given = given }

-- clients and connections change, and no cursor is new
abbrev CursorsOf : List Connection → List Connection → Type 0
CursorsOf old new = (k : ℕ) (c : Connection) (cursor : Cursor) → slice_get new k ≡ Some c → c.cursor ≡ Some cursor → (before : Connection) × (slice_get old k ≡ Some before) × (before.cursor ≡ Some cursor)

ordered_by : {W O : Type 0} (published after : ℕ → List (List ℕ)) (s : System W O) (clients : List (Client W O)) (connections : List Connection) → OrderStands published s → AreShortPayloads after → CursorsOf s.connections connections
    → ((view : ℕ) (client : Client W O) (c : Connection) → view_client clients view ≡ Some client → slice_get connections client.newest ≡ Some c → RunsInOrder s.session.log client.replica c)
    → OrderStands after (record { session = s.session; clients = clients; connections = connections })
ordered_by published after s clients connections ordered short cursors runs = record {
  short = short;
  within = λ k c cursor at is. let old = cursors k c cursor at is in ordered.within k old.0 cursor old.1 old.2;
  apart = λ k j c d a b at_k at_j is_a is_b same. let x = cursors k c a at_k is_a in let y = cursors j d b at_j is_b in ordered.apart k j x.0 y.0 a b x.1 y.1 x.2 y.2 same;
  runs = runs;
}

-- a replica and its newest connection change
pub order_both : {W O : Type 0} (m : Worlds W O) (published : ViewPayloads) (s : System W O) (view : ℕ) (client : Client W O) (c changed : Connection) (replica : PlainReplica W O)
    → WorldsStand m s → OrderStands published s → view_client s.clients view ≡ Some client → slice_get s.connections client.newest ≡ Some c → replica.view ≡ client.replica.view → changed.cursor ≡ c.cursor → RunsInOrder s.session.log replica changed
    → OrderStands published (record { session = s.session; clients = with_client s.clients (record { replica = replica; newest = client.newest }); connections = set s.connections client.newest changed })
order_both {W = W} {O = O} m published s view client c changed replica fine ordered is at same_view same_cursor runs =
    let new : Client W O = record { replica = replica; newest = client.newest } in
    let after = set s.connections client.newest changed in
    ordered_by published published s (with_client s.clients new) after ordered ordered.short
    (λ k held cursor at_k is_cursor. elim (get_set s.connections client.newest k changed held at_k) [
      | inl hit ↦ (c, subst (λ (j : ℕ). slice_get s.connections j ≡ Some c) (sym hit.0) at, sym same_cursor ∙ subst (λ (x : Connection). x.cursor ≡ Some cursor) hit.1 is_cursor)
      | inr miss ↦ (held, miss.1, is_cursor)
    ])
    (λ other held there is_held at_k. elim (client_of-with s.clients new held other is_held) [
      | inl hit ↦ subst (λ (x : Client W O). RunsInOrder s.session.log x.replica there) (sym hit.1)
          (elim (get_set s.connections client.newest client.newest changed there (subst (λ (x : Client W O). slice_get after x.newest ≡ Some there) hit.1 at_k)) [
            | inl near ↦ subst (RunsInOrder s.session.log replica) (sym near.1) runs
            | inr far ↦ absurd (far.0 refl)
          ])
      | inr miss ↦ elim (get_set s.connections client.newest held.newest changed there at_k) [
        | inl near ↦ absurd (miss.0 (newest_apart m s view other client held c fine is miss.1 at near.0 ∙ sym (client_view s.clients view client is) ∙ sym same_view))
        | inr far ↦ ordered.runs other held there miss.1 far.1
      ]
    ])

-- Publish
publishes_runs : {W O : Type 0} (log : List Entry) (r : PlainReplica W O) (c : Connection) (payload : List ℕ) → RunsInOrder log r c → RunsInOrder log (publishes r payload) c
publishes_runs log r c payload runs = record {
  dones = runs.dones;
  sends = runs.sends;
  none_up = runs.none_up;
  none_down = runs.none_down;
  given = let h = runs.given in omega (arith, length-append r.outbox (payload ∷ []));
}

short_if : (test : Bool) (payloads : List (List ℕ)) (payload : List ℕ) → length payload ≤ most_payload → ((k : ℕ) (x : List ℕ) → slice_get payloads k ≡ Some x → length x ≤ most_payload) → (k : ℕ) (x : List ℕ) → slice_get (cond test (payloads ++ payload ∷ []) payloads) k ≡ Some x → length x ≤ most_payload
short_if true payloads payload short all k x at = elim (get_push payloads k payload x at) [ inl old ↦ all k x old | inr last ↦ subst (λ (p : List ℕ). length p ≤ most_payload) (sym last.1) short ]
short_if false payloads payload short all k x at = all k x at

published_keeps_order : {W O : Type 0} (published : ViewPayloads) (s : System W O) (view : ℕ) (client : Client W O) (payload : List ℕ) → length payload ≤ most_payload → OrderStands published s → view_client s.clients view ≡ Some client → OrderStands (λ other. cond (eqb other view) (published other ++ payload ∷ []) (published other)) (with_replica s client (publishes client.replica payload))
published_keeps_order {W = W} {O = O} published s view client payload short ordered is =
    let new : Client W O = record { replica = publishes client.replica payload; newest = client.newest } in
    ordered_by published _ s (with_client s.clients new) s.connections ordered
    (λ other k x at. short_if (eqb other view) (published other) payload short (λ j y at_j. ordered.short other j y at_j) k x at)
    (λ k c cursor at_k is_cursor. (c, at_k, is_cursor))
    (λ other held c is_held at_k. elim (client_of-with s.clients new held other is_held) [
      | inl hit ↦ subst (λ (x : Client W O). RunsInOrder s.session.log x.replica c) (sym hit.1)
          (publishes_runs s.session.log client.replica c payload (ordered.runs view client c is (subst (λ (x : Client W O). slice_get s.connections x.newest ≡ Some c) hit.1 at_k)))
      | inr miss ↦ ordered.runs other held c miss.1 at_k
    ])

publish_if : {W O : Type 0} (published : ViewPayloads) (view : ℕ) (payload : List ℕ) (test : Bool) (a b : System W O) → (test ≡ true → OrderStands (λ other. cond (eqb other view) (published other ++ payload ∷ []) (published other)) a) → OrderStands published b → OrderStands (λ other. cond (test && eqb other view) (published other ++ payload ∷ []) (published other)) (cond test a b)
publish_if published view payload true a b held fell = held refl
publish_if published view payload false a b held fell = fell

pub publish_keeps_order : {W O : Type 0} (published : ViewPayloads) (s : System W O) (view : ℕ) (payload : List ℕ) (found : Option (Client W O)) → OrderStands published s → view_client s.clients view ≡ found → OrderStands (published_with published view payload found) (publish_by s payload found)
publish_keeps_order published s view payload None ordered is = ordered
publish_keeps_order published s view payload (Some client) ordered is =
    publish_if published view payload (may_publish client.replica payload) (with_replica s client (publishes client.replica payload)) s
    (λ may. published_keeps_order published s view client payload (grind (arith, nat_tests, may)) ordered is) ordered

-- SENDs behind SENDs
sends_end-append : (k : ℕ) (ups more : List ClientFrame) → sends_end k (ups ++ more) ≡ sends_end (sends_end k ups) more
sends_end-append k [] more = refl
sends_end-append k (up.Send number payload ∷ rest) more = sends_end-append (k + 1) rest more
sends_end-append k (up.Join session view want ∷ rest) more = sends_end-append k rest more
sends_end-append k (up.Snap time bytes ∷ rest) more = sends_end-append k rest more
sends_end-append k (up.Leave ∷ rest) more = sends_end-append k rest more
sends_end-append k (up.Alive ∷ rest) more = sends_end-append k rest more

sends_rise-append : (k : ℕ) (ups more : List ClientFrame) → SendsRise k ups → SendsRise (sends_end k ups) more → SendsRise k (ups ++ more)
sends_rise-append k [] more first then = then
sends_rise-append k (up.Send number payload ∷ rest) more first then = (first.0, sends_rise-append (k + 1) rest more first.1 then)
sends_rise-append k (up.Join session view want ∷ rest) more first then = sends_rise-append k rest more first then
sends_rise-append k (up.Snap time bytes ∷ rest) more first then = sends_rise-append k rest more first then
sends_rise-append k (up.Leave ∷ rest) more first then = sends_rise-append k rest more first then
sends_rise-append k (up.Alive ∷ rest) more first then = sends_rise-append k rest more first then

above-append : (k : ℕ) (ups more : List ClientFrame) → SendsAbove k ups → SendsAbove k more → SendsAbove k (ups ++ more)
above-append k [] more first then = then
above-append k (up.Send number payload ∷ rest) more first then = (first.0, above-append k rest more first.1 then)
above-append k (up.Join session view want ∷ rest) more first then = above-append k rest more first then
above-append k (up.Snap time bytes ∷ rest) more first then = above-append k rest more first then
above-append k (up.Leave ∷ rest) more first then = above-append k rest more first then
above-append k (up.Alive ∷ rest) more first then = above-append k rest more first then

none_up-append : (ups more : List ClientFrame) → NoSends ups → NoSends more → NoSends (ups ++ more)
none_up-append [] more first then = then
none_up-append (up.Send number payload ∷ rest) more first then = absurd first
none_up-append (up.Join session view want ∷ rest) more first then = none_up-append rest more first then
none_up-append (up.Snap time bytes ∷ rest) more first then = none_up-append rest more first then
none_up-append (up.Leave ∷ rest) more first then = none_up-append rest more first then
none_up-append (up.Alive ∷ rest) more first then = none_up-append rest more first then

pub none_sends_rise : (k : ℕ) (ups : List ClientFrame) → NoSends ups → SendsRise k ups × (sends_end k ups ≡ k)
none_sends_rise k [] none = (tt, refl)
none_sends_rise k (up.Send number payload ∷ rest) none = absurd none
none_sends_rise k (up.Join session view want ∷ rest) none = none_sends_rise k rest none
none_sends_rise k (up.Snap time bytes ∷ rest) none = none_sends_rise k rest none
none_sends_rise k (up.Leave ∷ rest) none = none_sends_rise k rest none
none_sends_rise k (up.Alive ∷ rest) none = none_sends_rise k rest none

rise_of_sends : (k : ℕ) (payloads : List (List ℕ)) → SendsRise k (sends_after k payloads) × (sends_end k (sends_after k payloads) ≡ k + length payloads)
rise_of_sends k [] = (tt, omega arith)
rise_of_sends k (payload ∷ rest) = let more = rise_of_sends (k + 1) rest in ((refl, more.0), omega (arith, more.1))

sending_given : (log : List Entry) (view first given all : ℕ) (closed synced : Bool) (ups more : List ClientFrame) (cursor : Option Cursor) → closed ≡ false → synced ≡ true → SendsRise given more → sends_end given more ≡ all → given ≤ all → Sending log view first given ups cursor → Sending log view first (cond synced all given) (cond closed ups (ups ++ cond synced more [])) cursor
sending_given log view first given all true synced ups more cursor ready is rise end le sending = absurd cc
sending_given log view first given all false false ups more cursor ready is rise end le sending = absurd cc
sending_given log view first given all false true ups more cursor ready is rise end le sending = elim sending [
  | inl flowing ↦ inl (record {
    rise = sends_rise-append first ups more flowing.rise (subst (λ (n : ℕ). SendsRise n more) (sym flowing.whole) rise);
    whole = sends_end-append first ups more ∙ ap (λ (n : ℕ). sends_end n more) flowing.whole ∙ end;
  })
  | inr rest ↦ elim rest [
    | inl blocked ↦ inr (inl (record { number = blocked.number; missing = blocked.missing; above = above-append blocked.number ups more blocked.above (rise_above given blocked.number more blocked.within rise); within = let h = blocked.within in omega arith }))
    | inr stale ↦ inr (inr stale)
  ]
]

-- Transmit
none_given : (closed synced : Bool) (ups more : List ClientFrame) → synced ≡ false → NoSends ups → NoSends (cond closed ups (ups ++ cond synced more []))
none_given true synced ups more is none = none
none_given false true ups more is none = absurd cc
none_given false false ups more is none = none_up-append ups [] none tt

given_within : (test : Bool) (all given : ℕ) → given ≤ all → cond test all given ≤ all
given_within true all given le = omega arith
given_within false all given le = le

transmits_runs : {W O : Type 0} (log : List Entry) (r : PlainReplica W O) (c : Connection) → c.closed ≡ false → r.acknowledged ≤ r.given → RunsInOrder log r c → RunsInOrder log (gives r) (put_up c (unsent r))
transmits_runs log r c open_ begun runs =
    let le = runs.given in
    let left = drop (r.given - r.acknowledged) r.outbox in
    let rise = rise_of_sends r.given left in
    let long = length-drop (r.given - r.acknowledged) r.outbox in
    record {
      dones = runs.dones;
      sends = λ synced ready going. sending_given log r.view (dones_end r.acknowledged c.down) r.given (published_count r) c.closed r.synced c.up (sends_after r.given left) c.cursor open_ synced rise.0 (let e = rise.1 in omega arith) le (runs.sends synced ready going);
      none_up = λ waiting. none_given c.closed r.synced c.up (sends_after r.given left) waiting (runs.none_up waiting);
      none_down = runs.none_down;
      given = given_within r.synced (published_count r) r.given le;
    }

transmit_on_keeps_order : {W O : Type 0} (m : Worlds W O) (published : ViewPayloads) (s : System W O) (view : ℕ) (client : Client W O) (found : Option Connection) → WorldsStand m s → NumbersStand published s → OrderStands published s → view_client s.clients view ≡ Some client → slice_get s.connections client.newest ≡ found → OrderStands published (transmit_on s client found)
transmit_on_keeps_order m published s view client None fine numbered ordered is at = ordered
transmit_on_keeps_order m published s view client (Some c) fine numbered ordered is at =
    order_if published (is_open c) _ s
    (λ ready. order_both m published s view client c (put_up c (unsent client.replica)) (gives client.replica) fine ordered is at refl refl
    (transmits_runs s.session.log client.replica c (ready_open c.closed c.over ready) (numbered.boxes view client is).given (ordered.runs view client c is at)))
    (λ h. ordered)
  where
    ready_open : (closed over : Bool) → (not closed && not over) ≡ true → closed ≡ false
    ready_open true over is = absurd cc
    ready_open false over is = refl

pub transmit_keeps_order : {W O : Type 0} (m : Worlds W O) (published : ViewPayloads) (s : System W O) (view : ℕ) (found : Option (Client W O)) → WorldsStand m s → NumbersStand published s → OrderStands published s → view_client s.clients view ≡ found → OrderStands published (transmit_by s found)
transmit_keeps_order m published s view None fine numbered ordered is = ordered
transmit_keeps_order m published s view (Some client) fine numbered ordered is = transmit_on_keeps_order m published s view client (slice_get s.connections client.newest) fine numbered ordered is refl

-- Snap
snap_runs : {W O : Type 0} (log : List Entry) (r : PlainReplica W O) (c : Connection) (time : ℕ) (bytes : List ℕ) → RunsInOrder log r c → RunsInOrder log r (put_up c (up.Snap time bytes ∷ []))
snap_runs log r c time bytes runs = record {
  dones = runs.dones;
  sends = λ synced ready going. sending_given log r.view (dones_end r.acknowledged c.down) r.given r.given c.closed true c.up (up.Snap time bytes ∷ []) c.cursor ready refl tt refl (omega arith) (runs.sends synced ready going);
  none_up = λ waiting. none_snap c.closed c.up (runs.none_up waiting);
  none_down = runs.none_down;
  given = runs.given;
}
  where
    none_snap : (closed : Bool) (ups : List ClientFrame) → NoSends ups → NoSends (cond closed ups (ups ++ up.Snap time bytes ∷ []))
    none_snap true ups none = none
    none_snap false ups none = none_up-append ups (up.Snap time bytes ∷ []) none tt

snap_on_keeps_order : {W O : Type 0} (m : Worlds W O) (published : ViewPayloads) (s : System W O) (client : Client W O) (found : Option Connection) → WorldsStand m s → NumbersStand published s → OrderStands published s → slice_get s.connections client.newest ≡ found → OrderStands published (snap_on m s client found)
snap_on_keeps_order m published s client None fine numbered ordered at = ordered
snap_on_keeps_order m published s client (Some c) fine numbered ordered at =
    order_if published (is_open c) _ s
    (λ ready. order_changes m published s s.session client.newest c (put_up c (snap_frame m client.replica ∷ [])) fine numbered ordered at (moves_same s.session c.cursor)
    (λ cursor is. inl (cursor, is, refl))
    (λ other held is_held same runs. snap_runs s.session.log held.replica c _ _ runs))
    (λ h. ordered)

pub snap_keeps_order : {W O : Type 0} (m : Worlds W O) (published : ViewPayloads) (s : System W O) (found : Option (Client W O)) → WorldsStand m s → NumbersStand published s → OrderStands published s → OrderStands published (snap_by m s found)
snap_keeps_order m published s None fine numbered ordered = ordered
snap_keeps_order m published s (Some client) fine numbered ordered = snap_on_keeps_order m published s client (slice_get s.connections client.newest) fine numbered ordered refl

-- Cut
rise_cut : (k n : ℕ) (frames : List ServerFrame) → DonesRise k frames → DonesRise k (take n frames)
rise_cut k zero frames rise = tt
rise_cut k (suc n) [] rise = tt
rise_cut k (suc n) (Done number seq time ∷ rest) rise = (rise.0, rise_cut (k + 1) n rest rise.1)
rise_cut k (suc n) (Recv entry ∷ rest) rise = rise_cut k n rest rise
rise_cut k (suc n) (Tick t ∷ rest) rise = rise_cut k n rest rise
rise_cut k (suc n) (Sync joined last from base ∷ rest) rise = rise_cut k n rest rise
rise_cut k (suc n) (Snapped time ∷ rest) rise = rise_cut k n rest rise
rise_cut k (suc n) (Refused about code kept more ∷ rest) rise = rise_cut k n rest rise
rise_cut k (suc n) (Alive ∷ rest) rise = rise_cut k n rest rise

none_down_cut : (n : ℕ) (frames : List ServerFrame) → NoDones frames → NoDones (take n frames)
none_down_cut zero frames none = tt
none_down_cut (suc n) [] none = tt
none_down_cut (suc n) (Done number seq time ∷ rest) none = absurd none
none_down_cut (suc n) (Recv entry ∷ rest) none = none_down_cut n rest none
none_down_cut (suc n) (Tick t ∷ rest) none = none_down_cut n rest none
none_down_cut (suc n) (Sync joined last from base ∷ rest) none = none_down_cut n rest none
none_down_cut (suc n) (Snapped time ∷ rest) none = none_down_cut n rest none
none_down_cut (suc n) (Refused about code kept more ∷ rest) none = none_down_cut n rest none
none_down_cut (suc n) (Alive ∷ rest) none = none_down_cut n rest none

none_up_cut : (n : ℕ) (frames : List ClientFrame) → NoSends frames → NoSends (take n frames)
none_up_cut zero frames none = tt
none_up_cut (suc n) [] none = tt
none_up_cut (suc n) (up.Send number payload ∷ rest) none = absurd none
none_up_cut (suc n) (up.Join session view want ∷ rest) none = none_up_cut n rest none
none_up_cut (suc n) (up.Snap time bytes ∷ rest) none = none_up_cut n rest none
none_up_cut (suc n) (up.Leave ∷ rest) none = none_up_cut n rest none
none_up_cut (suc n) (up.Alive ∷ rest) none = none_up_cut n rest none

pub cut_keeps_order : {W O : Type 0} (m : Worlds W O) (published : ViewPayloads) (s : System W O) (number ups downs : ℕ) (found : Option Connection) → WorldsStand m s → NumbersStand published s → OrderStands published s → slice_get s.connections number ≡ found → OrderStands published (cut_on s number ups downs found)
cut_keeps_order m published s number ups downs None fine numbered ordered at = ordered
cut_keeps_order m published s number ups downs (Some c) fine numbered ordered at =
    order_changes m published s s.session number c (closing (with_down (with_up c (take ups c.up)) (take downs c.down))) fine numbered ordered at (moves_same s.session c.cursor)
    (λ cursor is. inl (cursor, is, refl))
    (λ other held is_held same runs. record {
      dones = λ synced. rise_cut held.replica.acknowledged downs c.down (runs.dones synced);
      sends = λ synced ready going. absurd cc;
      none_up = λ waiting. none_up_cut ups c.up (runs.none_up waiting);
      none_down = λ waiting. none_down_cut downs c.down (runs.none_down waiting);
      given = runs.given;
    })

-- Found, Reconnect and Restart: a replica joins by a new connection
joining_runs : {W O : Type 0} (m : Worlds W O) (log : List Entry) (r : PlainReplica W O) (how : How) → RunsInOrder log (joining r how) (connecting r.view (join_frame m r how))
joining_runs m log r how = waiting_runs log (joining r how) (connecting r.view (join_frame m r how)) refl tt tt (omega arith)

connect_keeps_order : {W O : Type 0} (m : Worlds W O) (published : ViewPayloads) (s : System W O) (view : ℕ) (client : Client W O) (replica : PlainReplica W O) (how : How) → WorldsStand m s → OrderStands published s → view_client s.clients view ≡ Some client → replica.view ≡ client.replica.view → OrderStands published (connect m s client.newest replica how)
connect_keeps_order {W = W} {O = O} m published s view client replica how fine ordered is same_view =
    let new : Client W O = record { replica = joining replica how; newest = length s.connections } in
    let added = connecting replica.view (join_frame m replica how) in
    let before = close s.connections client.newest in
    let same_length : length before ≡ length s.connections = length-close_on s.connections client.newest (slice_get s.connections client.newest) in
    ordered_by published published s (with_client s.clients new) (before ++ added ∷ []) ordered ordered.short
    (λ k held cursor at_k is_cursor. elim (get_push before k added held at_k) [
      | inl old ↦ elim (get_close_on s.connections client.newest k (slice_get s.connections client.newest) held refl old) [
        | inl hit ↦ (hit.1, subst (λ (j : ℕ). slice_get s.connections j ≡ Some hit.1) (sym hit.0) hit.2, subst (λ (x : Connection). x.cursor ≡ Some cursor) hit.3 is_cursor)
        | inr miss ↦ (held, miss, is_cursor)
      ]
      | inr last ↦ let none : None ≡ Some cursor = subst (λ (x : Connection). x.cursor ≡ Some cursor) last.1 is_cursor in absurd cc
    ])
    (λ other held there is_held at_k. elim (client_of-with s.clients new held other is_held) [
      | inl hit ↦ subst (λ (x : Client W O). RunsInOrder s.session.log x.replica there) (sym hit.1)
          (elim (get_push before (length s.connections) added there (subst (λ (x : Client W O). slice_get (before ++ added ∷ []) x.newest ≡ Some there) hit.1 at_k)) [
            | inl old ↦ let n = slice_get_within before (length s.connections) there old in absurd (omega arith)
            | inr last ↦ subst (RunsInOrder s.session.log (joining replica how)) (sym last.1) (joining_runs m s.session.log replica how)
          ])
      | inr miss ↦ elim (get_push before held.newest added there at_k) [
        | inl old ↦ elim (get_close_on s.connections client.newest held.newest (slice_get s.connections client.newest) there refl old) [
          | inl hit ↦ absurd (miss.0 (newest_apart m s view other client held hit.1 fine is miss.1 hit.2 hit.0 ∙ sym (client_view s.clients view client is) ∙ sym same_view))
          | inr far ↦ ordered.runs other held there miss.1 far
        ]
        | inr last ↦ let n = fine.connected other held miss.1 in absurd (omega (arith, last.0))
      ]
    ])

pub reconnect_keeps_order : {W O : Type 0} (m : Worlds W O) (published : ViewPayloads) (s : System W O) (view : ℕ) (how : How) (found : Option (Client W O)) → WorldsStand m s → OrderStands published s → view_client s.clients view ≡ found → OrderStands published (reconnect_by m s how found)
reconnect_keeps_order m published s view how None fine ordered is = ordered
reconnect_keeps_order m published s view how (Some client) fine ordered is = connect_keeps_order m published s view client client.replica how fine ordered is refl

pub restart_keeps_order : {W O : Type 0} (m : Worlds W O) (published : ViewPayloads) (s : System W O) (view : ℕ) (how : How) (found : Option (Client W O)) → WorldsStand m s → OrderStands published s → view_client s.clients view ≡ found → OrderStands published (restart_by m s how found)
restart_keeps_order m published s view how None fine ordered is = ordered
restart_keeps_order m published s view how (Some client) fine ordered is = connect_keeps_order m published s view client (loses m client.replica) (whole_for how) fine ordered is refl

founds_order : {W O : Type 0} (m : Worlds W O) (published : ViewPayloads) (s : System W O) (replica : PlainReplica W O) (how : How) → WorldsStand m s → OrderStands published s
    → OrderStands published (record { session = s.session; clients = s.clients ++ record { replica = joining replica how; newest = length s.connections } ∷ []; connections = s.connections ++ connecting replica.view (join_frame m replica how) ∷ [] })
founds_order {W = W} {O = O} m published s replica how fine ordered =
    let new : Client W O = record { replica = joining replica how; newest = length s.connections } in
    let added = connecting replica.view (join_frame m replica how) in
    ordered_by published published s (s.clients ++ new ∷ []) (s.connections ++ added ∷ []) ordered ordered.short
    (λ k held cursor at_k is_cursor. elim (get_push s.connections k added held at_k) [
      | inl old ↦ (held, old, is_cursor)
      | inr last ↦ let none : None ≡ Some cursor = subst (λ (x : Connection). x.cursor ≡ Some cursor) last.1 is_cursor in absurd cc
    ])
    (λ other held there is_held at_k. elim (client_of-push s.clients new held other is_held) [
      | inl old ↦ elim (get_push s.connections held.newest added there at_k) [
        | inl far ↦ ordered.runs other held there old far
        | inr last ↦ let n = fine.connected other held old in absurd (omega (arith, last.0))
      ]
      | inr hit ↦ subst (λ (x : Client W O). RunsInOrder s.session.log x.replica there) (sym hit.1)
          (elim (get_push s.connections (length s.connections) added there (subst (λ (x : Client W O). slice_get (s.connections ++ added ∷ []) x.newest ≡ Some there) hit.1 at_k)) [
            | inl old ↦ let n = slice_get_within s.connections (length s.connections) there old in absurd (omega arith)
            | inr last ↦ subst (RunsInOrder s.session.log (joining replica how)) (sym last.1) (joining_runs m s.session.log replica how)
          ])
    ])

pub found_keeps_order : {W O : Type 0} (m : Worlds W O) (published : ViewPayloads) (s : System W O) (view : ℕ) → WorldsStand m s → OrderStands published s → OrderStands published (found m s view)
found_keeps_order m published s view fine ordered = order_if published (eqb view 0 || is_some (view_client s.clients view)) s _ (λ h. ordered) (λ fresh. founds_order m published s (new_replica m view) Fresh fine ordered)
