-- The other steps keep the facts of the numbers.
use Rattle.std.proofs.Common.{◌<◌, ◌^◌, ℕ, ◌+◌, ◌-◌, ◌≡◌, inl, inr, ◌≤◌, Bool, true, false, cond, eqb, nat_lt, nat_le, ◌&&◌, ◌||◌, List, [], ◌∷◌, ◌++◌, Option, Some, None, is_some, zero, suc, length, length-append, take, drop, set, slice_get, refl, arith, sym, ap, ◌∙◌, subst}
use Rattle.std.proofs.lemmas.Bool.Decides.{nat_tests}
use Rattle.std.proofs.lemmas.List.{take-append-le, drop-append-le, drop-drop}
use Rattle.tea_base.specs.Readings.{last_number}
use Rattle.wire_frames.specs.declared.frame.ClientFrame.{ClientFrame}
use Rattle.wire_frames.specs.declared.frame.ClientFrame.TheVariants as up
use Rattle.wire_frames.specs.declared.frame.ServerFrame.{ServerFrame}
use Rattle.wire_frames.specs.declared.frame.ServerFrame.TheVariants.{Alive, Done, Recv, Refused, Snapped, Sync, Tick}
use Rattle.wire_frames.specs.declared.tags.TheConstants.{JOIN_TAG, SNAP_TAG}
use Rattle.reflector_core.specs.Answer.{joins}
use Rattle.reflector_core.specs.PlainSession.{PlainSession}
use Rattle.replica_plain.specs.declared.how.How.{How}
use Rattle.replica_plain.specs.declared.how.How.TheVariants.{Fresh}
use Rattle.replica_plain.specs.Calls.{gives, join_frame, joining, loses, publishes, sends_after, snap_frame, unsent}
use Rattle.replica_plain.specs.PlainReplica.{PlainReplica, new_replica}
use Rattle.replica_plain.specs.Taking.{Taken, acknowledges, take_done, taken}
use Rattle.replica_plain.specs.Worlds.{Worlds}
use Rattle.replica_plain.proofs.Numbers.{SyncAnswers, sync_answers}
use Rattle.system_plain.specs.Schedule.{ViewPayloads}
use Rattle.system_plain.specs.Steps.{connect, cut_on, found, may_publish, publish_by, receive_by, receive_next, receive_on, reconnect_by, restart_by, snap_by, snap_on, transmit_by, transmit_on, whole_for}
use Rattle.system_plain.specs.System.{Client, Connection, System, close, closing, connecting, is_open, put_up, view_client, with_client, with_connection, with_down, with_replica, with_up}
use Rattle.system_plain.proofs.Changes.{get_close_on}
use Rattle.system_plain.proofs.Facts.{JoinsMeant, WorldsStand}
use Rattle.system_plain.proofs.Lookups.{client_of-push, client_of-with, client_view, get_push, get_set}
use Rattle.system_plain.proofs.Numbers.{ConnectionNumbers, DonesWithin, NumbersStand, ReplicaNumbers, SendsMeant, published_with}
use Rattle.system_plain.proofs.NumbersKeep.{numbered_if}
use Rattle.system_plain.proofs.Receives.{taken_view}

none_if : {W O : Type 0} (view : ℕ) (first new : Client W O) (changed : Bool) (before after : Option (Client W O)) → eqb first.replica.view new.replica.view ≡ changed → (after ≡ None → before ≡ None) → (test : Bool) → eqb (cond changed new first).replica.view view ≡ test → cond test (Some (cond changed new first)) after ≡ None → cond (eqb first.replica.view view) (Some first) before ≡ None
none_if view first new changed before after is rest true hit none = absurd cc
none_if view first new true before after is rest false hit none = let far : eqb first.replica.view view ≡ false = grind (arith, nat_tests) in rw far (rest none)
none_if view first new false before after is rest false hit none = rw hit (rest none)

-- a view that has no client had none
none_before : {W O : Type 0} (clients : List (Client W O)) (new : Client W O) (view : ℕ) → view_client (with_client clients new) view ≡ None → view_client clients view ≡ None
none_before [] new view none = refl
none_before (first ∷ rest) new view none = none_if view first new (eqb first.replica.view new.replica.view) (view_client rest view) (view_client (with_client rest new) view) refl (none_before rest new view) _ refl none

none_pushed_if : {W O : Type 0} (test : Bool) (first : Client W O) (before after : Option (Client W O)) → (after ≡ None → before ≡ None) → cond test (Some first) after ≡ None → cond test (Some first) before ≡ None
none_pushed_if true first before after rest none = absurd cc
none_pushed_if false first before after rest none = rest none

none_pushed : {W O : Type 0} (clients : List (Client W O)) (new : Client W O) (view : ℕ) → view_client (clients ++ new ∷ []) view ≡ None → view_client clients view ≡ None
none_pushed [] new view none = refl
none_pushed (first ∷ rest) new view none = none_pushed_if (eqb first.replica.view view) first (view_client rest view) (view_client (rest ++ new ∷ []) view) (none_pushed rest new view) none

-- a replica and the connections change
box_changes : {W O : Type 0} (published : ViewPayloads) (s : System W O) (new : Client W O) (connections : List Connection) → NumbersStand published s → ReplicaNumbers published s.session new.replica → ((k : ℕ) (c : Connection) → slice_get connections k ≡ Some c → ConnectionNumbers published s.session c) → NumbersStand published (record { session = s.session; clients = with_client s.clients new; connections = connections })
box_changes {W = W} {O = O} published s new connections numbered box links = record {
  prefixes = numbered.prefixes;
  links = links;
  boxes = λ view client is. elim (client_of-with s.clients new client view is) [
    | inl hit ↦ subst (λ (x : Client W O). ReplicaNumbers published s.session x.replica) (sym hit.1) box
    | inr miss ↦ numbered.boxes view client miss.1
  ];
  unknown = λ view none. numbered.unknown view (none_before s.clients new view none);
}

links_set : {W O : Type 0} (published : ViewPayloads) (s : System W O) (number : ℕ) (changed : Connection) → NumbersStand published s → ConnectionNumbers published s.session changed → (k : ℕ) (c : Connection) → slice_get (set s.connections number changed) k ≡ Some c → ConnectionNumbers published s.session c
links_set published s number changed numbered link k c at = elim (get_set s.connections number k changed c at) [
  | inl hit ↦ subst (ConnectionNumbers published s.session) (sym hit.1) link
  | inr miss ↦ numbered.links k c miss.1
]

connection_keeps_numbers : {W O : Type 0} (published : ViewPayloads) (s : System W O) (number : ℕ) (changed : Connection) → NumbersStand published s → ConnectionNumbers published s.session changed → NumbersStand published (with_connection s number changed)
connection_keeps_numbers published s number changed numbered link = record { prefixes = numbered.prefixes; links = links_set published s number changed numbered link; boxes = numbered.boxes; unknown = numbered.unknown }

sends_append : (published : List (List ℕ)) (frames more : List ClientFrame) → SendsMeant published frames → SendsMeant published more → SendsMeant published (frames ++ more)
sends_append published [] more first then = then
sends_append published (up.Send number payload ∷ rest) more first then = (first.0, sends_append published rest more first.1 then)
sends_append published (up.Join session view want ∷ rest) more first then = sends_append published rest more first then
sends_append published (up.Snap time bytes ∷ rest) more first then = sends_append published rest more first then
sends_append published (up.Leave ∷ rest) more first then = sends_append published rest more first then
sends_append published (up.Alive ∷ rest) more first then = sends_append published rest more first then

joins_append : (view : ℕ) (frames more : List ClientFrame) → JoinsMeant view frames → JoinsMeant view more → JoinsMeant view (frames ++ more)
joins_append view [] more first then = then
joins_append view (up.Join session named want ∷ rest) more first then = (first.0, joins_append view rest more first.1 then)
joins_append view (up.Send number payload ∷ rest) more first then = joins_append view rest more first then
joins_append view (up.Snap time bytes ∷ rest) more first then = joins_append view rest more first then
joins_append view (up.Leave ∷ rest) more first then = joins_append view rest more first then
joins_append view (up.Alive ∷ rest) more first then = joins_append view rest more first then

sends_cut : (published : List (List ℕ)) (n : ℕ) (frames : List ClientFrame) → SendsMeant published frames → SendsMeant published (take n frames)
sends_cut published zero frames sends = tt
sends_cut published (suc n) [] sends = tt
sends_cut published (suc n) (up.Send number payload ∷ rest) sends = (sends.0, sends_cut published n rest sends.1)
sends_cut published (suc n) (up.Join session view want ∷ rest) sends = sends_cut published n rest sends
sends_cut published (suc n) (up.Snap time bytes ∷ rest) sends = sends_cut published n rest sends
sends_cut published (suc n) (up.Leave ∷ rest) sends = sends_cut published n rest sends
sends_cut published (suc n) (up.Alive ∷ rest) sends = sends_cut published n rest sends

joins_cut : (view n : ℕ) (frames : List ClientFrame) → JoinsMeant view frames → JoinsMeant view (take n frames)
joins_cut view zero frames joins = tt
joins_cut view (suc n) [] joins = tt
joins_cut view (suc n) (up.Join session named want ∷ rest) joins = (joins.0, joins_cut view n rest joins.1)
joins_cut view (suc n) (up.Send number payload ∷ rest) joins = joins_cut view n rest joins
joins_cut view (suc n) (up.Snap time bytes ∷ rest) joins = joins_cut view n rest joins
joins_cut view (suc n) (up.Leave ∷ rest) joins = joins_cut view n rest joins
joins_cut view (suc n) (up.Alive ∷ rest) joins = joins_cut view n rest joins

dones_cut : (bound n : ℕ) (frames : List ServerFrame) → DonesWithin bound frames → DonesWithin bound (take n frames)
dones_cut bound zero frames dones = tt
dones_cut bound (suc n) [] dones = tt
dones_cut bound (suc n) (Done number seq time ∷ rest) dones = (dones.0, dones_cut bound n rest dones.1)
dones_cut bound (suc n) (Recv entry ∷ rest) dones = dones_cut bound n rest dones
dones_cut bound (suc n) (Tick t ∷ rest) dones = dones_cut bound n rest dones
dones_cut bound (suc n) (Sync joined last from base ∷ rest) dones = dones_cut bound n rest dones
dones_cut bound (suc n) (Snapped time ∷ rest) dones = dones_cut bound n rest dones
dones_cut bound (suc n) (Refused about code kept more ∷ rest) dones = dones_cut bound n rest dones
dones_cut bound (suc n) (Alive ∷ rest) dones = dones_cut bound n rest dones

dones_rest : (bound : ℕ) (frame : ServerFrame) (rest : List ServerFrame) → DonesWithin bound (frame ∷ rest) → DonesWithin bound rest
dones_rest bound (Done number seq time) rest dones = dones.1
dones_rest bound (Recv entry) rest dones = dones
dones_rest bound (Tick t) rest dones = dones
dones_rest bound (Sync joined last from base) rest dones = dones
dones_rest bound (Snapped time) rest dones = dones
dones_rest bound (Refused about code kept more) rest dones = dones
dones_rest bound Alive rest dones = dones

link_up : (published : ViewPayloads) (s : PlainSession) (c : Connection) (more : List ClientFrame) (closed : Bool) → SendsMeant (published c.view) more → JoinsMeant c.view more → ConnectionNumbers published s c → ConnectionNumbers published s (with_up c (cond closed c.up (c.up ++ more)))
link_up published s c more true sends joins link = record { bound = link.bound; sends = link.sends; joins = link.joins; cursor = link.cursor; dones = link.dones }
link_up published s c more false sends joins link = record { bound = link.bound; sends = sends_append (published c.view) c.up more link.sends sends; joins = joins_append c.view c.up more link.joins joins; cursor = link.cursor; dones = link.dones }

slice_get-drop : (xs : List (List ℕ)) (k : ℕ) (x : List ℕ) (rest : List (List ℕ)) → drop k xs ≡ x ∷ rest → (slice_get xs k ≡ Some x) × (drop (suc k) xs ≡ rest)
slice_get-drop [] zero x rest is = absurd cc
slice_get-drop [] (suc k) x rest is = absurd cc
slice_get-drop (y ∷ xs) zero x rest is = (cc, cc)
slice_get-drop (y ∷ xs) (suc k) x rest is = slice_get-drop xs k x rest is

-- what is given is what was published
sends_of : (published : List (List ℕ)) (k : ℕ) (rest : List (List ℕ)) → drop k published ≡ rest → SendsMeant published (sends_after k rest)
sends_of published k [] is = tt
sends_of published k (payload ∷ rest) is =
    let next = slice_get-drop published k payload rest is in
    let place : k + 1 - 1 ≡ k = omega arith in
    let more : k + 1 ≡ suc k = omega arith in
    ((omega arith, rw place next.0), sends_of published (k + 1) rest (rw more next.1))

sends_if : (published : List (List ℕ)) (test : Bool) (frames : List ClientFrame) → SendsMeant published frames → SendsMeant published (cond test frames [])
sends_if published true frames sends = sends
sends_if published false frames sends = tt

unsent_meant : {W O : Type 0} (published : ViewPayloads) (s : PlainSession) (r : PlainReplica W O) → ReplicaNumbers published s r → SendsMeant (published r.view) (unsent r)
unsent_meant published s r box =
    let given = box.given in
    let left = drop (r.given - r.acknowledged) r.outbox in
    let place : r.acknowledged + (r.given - r.acknowledged) ≡ r.given = omega arith in
    let is : drop r.given (published r.view) ≡ left = sym (ap (drop (r.given - r.acknowledged)) box.outbox ∙ drop-drop (r.given - r.acknowledged) r.acknowledged (published r.view) ∙ ap (λ (n : ℕ). drop n (published r.view)) place) in
    sends_if (published r.view) r.synced (sends_after r.given left) (sends_of (published r.view) r.given left is)

no_joins_of : (view k : ℕ) (payloads : List (List ℕ)) → JoinsMeant view (sends_after k payloads)
no_joins_of view k [] = tt
no_joins_of view k (payload ∷ rest) = no_joins_of view (k + 1) rest

no_joins_if : (view : ℕ) (test : Bool) (frames : List ClientFrame) → JoinsMeant view frames → JoinsMeant view (cond test frames [])
no_joins_if view true frames joins = joins
no_joins_if view false frames joins = tt

given_if : (test : Bool) (acknowledged more given : ℕ) → acknowledged ≤ given → acknowledged ≤ cond test (acknowledged + more) given
given_if true acknowledged more given le = omega arith
given_if false acknowledged more given le = le

transmit_on_keeps_numbers : {W O : Type 0} (m : Worlds W O) (published : ViewPayloads) (s : System W O) (view : ℕ) (client : Client W O) (found : Option Connection) → WorldsStand m s → NumbersStand published s → view_client s.clients view ≡ Some client → slice_get s.connections client.newest ≡ found → NumbersStand published (transmit_on s client found)
transmit_on_keeps_numbers m published s view client None fine numbered is at = numbered
transmit_on_keeps_numbers m published s view client (Some c) fine numbered is at =
    let r = client.replica in
    let box = numbered.boxes view client is in
    let owned = (fine.joined view client c is at).owned in
    numbered_if published (is_open c) _ s
    (box_changes published s (record { replica = gives r; newest = client.newest }) (set s.connections client.newest (put_up c (unsent r))) numbered
    (record { bound = box.bound; outbox = box.outbox; acked = box.acked; given = given_if r.synced r.acknowledged (length r.outbox) r.given box.given })
    (links_set published s client.newest (put_up c (unsent r)) numbered
    (link_up published s.session c (unsent r) c.closed (rw owned (unsent_meant published s.session r box)) (no_joins_if c.view r.synced _ (no_joins_of c.view r.given (drop (r.given - r.acknowledged) r.outbox))) (numbered.links client.newest c at))))
    numbered

pub transmit_keeps_numbers : {W O : Type 0} (m : Worlds W O) (published : ViewPayloads) (s : System W O) (view : ℕ) (found : Option (Client W O)) → WorldsStand m s → NumbersStand published s → view_client s.clients view ≡ found → NumbersStand published (transmit_by s found)
transmit_keeps_numbers m published s view None fine numbered is = numbered
transmit_keeps_numbers m published s view (Some client) fine numbered is = transmit_on_keeps_numbers m published s view client (slice_get s.connections client.newest) fine numbered is refl

snap_on_keeps_numbers : {W O : Type 0} (m : Worlds W O) (published : ViewPayloads) (s : System W O) (client : Client W O) (found : Option Connection) → NumbersStand published s → slice_get s.connections client.newest ≡ found → NumbersStand published (snap_on m s client found)
snap_on_keeps_numbers m published s client None numbered at = numbered
snap_on_keeps_numbers m published s client (Some c) numbered at =
    numbered_if published (is_open c) _ s (connection_keeps_numbers published s client.newest (put_up c (snap_frame m client.replica ∷ [])) numbered (link_up published s.session c (snap_frame m client.replica ∷ []) c.closed tt tt (numbered.links client.newest c at))) numbered

pub snap_keeps_numbers : {W O : Type 0} (m : Worlds W O) (published : ViewPayloads) (s : System W O) (found : Option (Client W O)) → NumbersStand published s → NumbersStand published (snap_by m s found)
snap_keeps_numbers m published s None numbered = numbered
snap_keeps_numbers m published s (Some client) numbered = snap_on_keeps_numbers m published s client (slice_get s.connections client.newest) numbered refl

pub cut_keeps_numbers : {W O : Type 0} (published : ViewPayloads) (s : System W O) (number ups downs : ℕ) (found : Option Connection) → NumbersStand published s → slice_get s.connections number ≡ found → NumbersStand published (cut_on s number ups downs found)
cut_keeps_numbers published s number ups downs None numbered at = numbered
cut_keeps_numbers published s number ups downs (Some c) numbered at =
    let link = numbered.links number c at in
    connection_keeps_numbers published s number (closing (with_down (with_up c (take ups c.up)) (take downs c.down))) numbered
    (record { bound = link.bound; sends = sends_cut (published c.view) ups c.up link.sends; joins = joins_cut c.view ups c.up link.joins; cursor = link.cursor; dones = dones_cut (last_number s.session.log c.view) downs c.down link.dones })

connect_keeps_numbers : {W O : Type 0} (m : Worlds W O) (published : ViewPayloads) (s : System W O) (newest : ℕ) (replica : PlainReplica W O) (how : How) → NumbersStand published s → ReplicaNumbers published s.session (joining replica how) → NumbersStand published (connect m s newest replica how)
connect_keeps_numbers m published s newest replica how numbered box =
    box_changes published s (record { replica = joining replica how; newest = length s.connections }) _ numbered box
    (λ k c at. elim (get_push (close s.connections newest) k (connecting replica.view (join_frame m replica how)) c at) [
      | inl old ↦ elim (get_close_on s.connections newest k (slice_get s.connections newest) c refl old) [
        | inl hit ↦ let link = numbered.links newest hit.1 hit.2 in subst (ConnectionNumbers published s.session) (sym hit.3) (record { bound = link.bound; sends = link.sends; joins = link.joins; cursor = link.cursor; dones = link.dones })
        | inr miss ↦ numbered.links k c miss
      ]
      | inr last ↦ subst (ConnectionNumbers published s.session) (sym last.1) (record { bound = box.bound; sends = tt; joins = (refl, tt); cursor = tt; dones = tt })
    ])

pub reconnect_keeps_numbers : {W O : Type 0} (m : Worlds W O) (published : ViewPayloads) (s : System W O) (view : ℕ) (how : How) (found : Option (Client W O)) → NumbersStand published s → view_client s.clients view ≡ found → NumbersStand published (reconnect_by m s how found)
reconnect_keeps_numbers m published s view how None numbered is = numbered
reconnect_keeps_numbers m published s view how (Some client) numbered is =
    let box = numbered.boxes view client is in connect_keeps_numbers m published s client.newest client.replica how numbered (record { bound = box.bound; outbox = box.outbox; acked = box.acked; given = omega arith })

pub restart_keeps_numbers : {W O : Type 0} (m : Worlds W O) (published : ViewPayloads) (s : System W O) (view : ℕ) (how : How) (found : Option (Client W O)) → NumbersStand published s → view_client s.clients view ≡ found → NumbersStand published (restart_by m s how found)
restart_keeps_numbers m published s view how None numbered is = numbered
restart_keeps_numbers m published s view how (Some client) numbered is =
    let box = numbered.boxes view client is in connect_keeps_numbers m published s client.newest (loses m client.replica) (whole_for how) numbered (record { bound = box.bound; outbox = box.outbox; acked = box.acked; given = omega arith })

-- Receive
box_if : {W O : Type 0} (published : ViewPayloads) (s : PlainSession) (test : Bool) (a b : Taken W O) → (test ≡ true → ReplicaNumbers published s a.replica) → ReplicaNumbers published s b.replica → ReplicaNumbers published s (cond test a b).replica
box_if published s true a b held fell = held refl
box_if published s false a b held fell = fell

same_box : {W O : Type 0} (published : ViewPayloads) (s : PlainSession) (r new : PlainReplica W O) → new.view ≡ r.view → new.outbox ≡ r.outbox → new.acknowledged ≡ r.acknowledged → new.acknowledged ≤ new.given → ReplicaNumbers published s r → ReplicaNumbers published s new
same_box published s r new view outbox acknowledged given box = record {
  bound = rw view box.bound;
  outbox = rw (view, outbox, acknowledged) box.outbox;
  acked = rw (view, acknowledged) box.acked;
  given = given;
}

sync_box_by : {W O : Type 0} (published : ViewPayloads) (s : PlainSession) (r : PlainReplica W O) (made : Taken W O) → made.replica.view ≡ r.view → SyncAnswers r made → ReplicaNumbers published s r → ReplicaNumbers published s made.replica
sync_box_by published s r made view (inl refused) box = subst (λ (x : Taken _ _). ReplicaNumbers published s x.replica) (sym refused.1) box
sync_box_by published s r made view (inr begins) box = same_box published s r made.replica view begins.outbox begins.acknowledged (omega (arith, begins.acknowledged, begins.given)) box

acknowledged_box : {W O : Type 0} (published : ViewPayloads) (s : PlainSession) (r : PlainReplica W O) (payload : List ℕ) (rest : List (List ℕ)) → r.outbox ≡ payload ∷ rest → r.acknowledged + 1 ≤ last_number s.log r.view → ReplicaNumbers published s r → ReplicaNumbers published s (acknowledges r rest)
acknowledged_box published s r payload rest held within box = record {
  bound = box.bound;
  outbox = ap (drop 1) (sym held ∙ box.outbox) ∙ drop-drop 1 r.acknowledged (published r.view);
  acked = within;
  given = omega arith;
}

done_box : {W O : Type 0} (published : ViewPayloads) (s : PlainSession) (r : PlainReplica W O) (outbox : List (List ℕ)) (number : ℕ) → r.outbox ≡ outbox → number ≤ last_number s.log r.view → ReplicaNumbers published s r → ReplicaNumbers published s (take_done r outbox number).replica
done_box published s r [] number held within box = box
done_box published s r (payload ∷ rest) number held within box =
    box_if published s (eqb number (r.acknowledged + 1)) _ _ (λ fits. acknowledged_box published s r payload rest held (let n : number ≡ r.acknowledged + 1 = grind (arith, nat_tests) in omega arith) box) box

taken_box : {W O : Type 0} (m : Worlds W O) (published : ViewPayloads) (s : PlainSession) (r : PlainReplica W O) (frame : ServerFrame) (rest : List ServerFrame) → DonesWithin (last_number s.log r.view) (frame ∷ rest) → ReplicaNumbers published s r → ReplicaNumbers published s (taken m r frame).replica
taken_box m published s r (Sync joined last from base) rest dones box = sync_box_by published s r _ (taken_view m r (Sync joined last from base)) (sync_answers m r r.awaited last from base) box
taken_box m published s r (Recv entry) rest dones box =
    box_if published s r.synced _ _ (λ h. box_if published s r.broken _ _ (λ h. box) (box_if published s (eqb entry.seq (r.seen + 1)) _ _ (λ h. box_if published s (nat_le entry.time (m.time r.world)) _ _ (λ h. box) (same_box published s r _ refl refl refl box.given box)) box)) box
taken_box m published s r (Tick t) rest dones box =
    box_if published s r.synced _ _ (λ h. box_if published s r.broken _ _ (λ h. box) (box_if published s (nat_lt t (m.time r.world)) _ _ (λ h. box) (same_box published s r _ refl refl refl box.given box))) box
taken_box m published s r (Done number seq time) rest dones box = box_if published s r.synced _ _ (λ h. done_box published s r r.outbox number refl dones.0 box) box
taken_box m published s r (Snapped time) rest dones box = box_if published s r.synced _ _ (λ h. box) box
taken_box m published s r (Refused about code kept more) rest dones box = box_if published s (eqb about SNAP_TAG) _ _ (λ h. box) (box_if published s (eqb about JOIN_TAG) _ _ (λ h. same_box published s r _ refl refl refl box.given box) box)
taken_box m published s r Alive rest dones box = box

receive_next_keeps_numbers : {W O : Type 0} (m : Worlds W O) (published : ViewPayloads) (s : System W O) (view : ℕ) (client : Client W O) (c : Connection) (down : List ServerFrame) → WorldsStand m s → NumbersStand published s → view_client s.clients view ≡ Some client → slice_get s.connections client.newest ≡ Some c → c.down ≡ down → NumbersStand published (receive_next m s client c down)
receive_next_keeps_numbers m published s view client c [] fine numbered is at down = numbered
receive_next_keeps_numbers m published s view client c (frame ∷ rest) fine numbered is at down =
    let r = client.replica in
    let owned = (fine.joined view client c is at).owned in
    let link = numbered.links client.newest c at in
    let dones = subst (DonesWithin (last_number s.session.log c.view)) down link.dones in
    box_changes published s (record { replica = (taken m r frame).replica; newest = client.newest }) (set s.connections client.newest (with_down c rest)) numbered
    (taken_box m published s.session r frame rest (subst (λ (v : ℕ). DonesWithin (last_number s.session.log v) (frame ∷ rest)) owned dones) (numbered.boxes view client is))
    (links_set published s client.newest (with_down c rest) numbered (record { bound = link.bound; sends = link.sends; joins = link.joins; cursor = link.cursor; dones = dones_rest (last_number s.session.log c.view) frame rest dones }))

receive_on_keeps_numbers : {W O : Type 0} (m : Worlds W O) (published : ViewPayloads) (s : System W O) (view : ℕ) (client : Client W O) (found : Option Connection) → WorldsStand m s → NumbersStand published s → view_client s.clients view ≡ Some client → slice_get s.connections client.newest ≡ found → NumbersStand published (receive_on m s client found)
receive_on_keeps_numbers m published s view client None fine numbered is at = numbered
receive_on_keeps_numbers m published s view client (Some c) fine numbered is at = receive_next_keeps_numbers m published s view client c c.down fine numbered is at refl

pub receive_keeps_numbers : {W O : Type 0} (m : Worlds W O) (published : ViewPayloads) (s : System W O) (view : ℕ) (found : Option (Client W O)) → WorldsStand m s → NumbersStand published s → view_client s.clients view ≡ found → NumbersStand published (receive_by m s found)
receive_keeps_numbers m published s view None fine numbered is = numbered
receive_keeps_numbers m published s view (Some client) fine numbered is = receive_on_keeps_numbers m published s view client (slice_get s.connections client.newest) fine numbered is refl

-- Found
none_of : {W O : Type 0} (found : Option (Client W O)) → is_some found ≡ false → found ≡ None
none_of None is = refl
none_of (Some client) is = absurd cc

found_if : {W O : Type 0} (published : ViewPayloads) (test : Bool) (a b : System W O) → NumbersStand published a → (test ≡ false → NumbersStand published b) → NumbersStand published (cond test a b)
found_if published true a b held fell = held
found_if published false a b held fell = fell refl

pub found_keeps_numbers : {W O : Type 0} (m : Worlds W O) (published : ViewPayloads) (s : System W O) (view : ℕ) → view < 2 ^ 32 → NumbersStand published s → NumbersStand published (found m s view)
found_keeps_numbers {W = W} {O = O} m published s view bound numbered =
    found_if published (eqb view 0 || is_some (view_client s.clients view)) s _ numbered (λ fresh.
    let new : Client W O = record { replica = joining (new_replica m view) Fresh; newest = length s.connections } in
    let none = numbered.unknown view (none_of (view_client s.clients view) (grind (arith, fresh))) in
    record {
      prefixes = numbered.prefixes;
      links = λ k c at. elim (get_push s.connections k (connecting view (join_frame m (new_replica m view) Fresh)) c at) [
        | inl old ↦ numbered.links k c old
        | inr last ↦ subst (ConnectionNumbers published s.session) (sym last.1) (record { bound = bound; sends = tt; joins = (refl, tt); cursor = tt; dones = tt })
      ];
      boxes = λ other client is. elim (client_of-push s.clients new client other is) [
        | inl old ↦ numbered.boxes other client old
        | inr hit ↦ subst (λ (x : Client W O). ReplicaNumbers published s.session x.replica) (sym hit.1) (record { bound = bound; outbox = sym none; acked = omega arith; given = omega arith })
      ];
      unknown = λ other away. numbered.unknown other (none_pushed s.clients new other away);
    })

-- Publish
got_more : (xs more : List (List ℕ)) (k : ℕ) (x : List ℕ) → slice_get xs k ≡ Some x → slice_get (xs ++ more) k ≡ Some x
got_more [] more k x at = absurd cc
got_more (y ∷ xs) more zero x at = at
got_more (y ∷ xs) more (suc k) x at = got_more xs more k x at

sends_meant_more : (published more : List (List ℕ)) (frames : List ClientFrame) → SendsMeant published frames → SendsMeant (published ++ more) frames
sends_meant_more published more [] sends = tt
sends_meant_more published more (up.Send number payload ∷ rest) sends = ((sends.0.0, got_more published more (number - 1) payload sends.0.1), sends_meant_more published more rest sends.1)
sends_meant_more published more (up.Join session view want ∷ rest) sends = sends_meant_more published more rest sends
sends_meant_more published more (up.Snap time bytes ∷ rest) sends = sends_meant_more published more rest sends
sends_meant_more published more (up.Leave ∷ rest) sends = sends_meant_more published more rest sends
sends_meant_more published more (up.Alive ∷ rest) sends = sends_meant_more published more rest sends

sends_more_if : (test : Bool) (published more : List (List ℕ)) (frames : List ClientFrame) → SendsMeant published frames → SendsMeant (cond test (published ++ more) published) frames
sends_more_if true published more frames sends = sends_meant_more published more frames sends
sends_more_if false published more frames sends = sends

take_more_if : (test : Bool) (published more : List (List ℕ)) (n : ℕ) → n ≤ length published → (take n (cond test (published ++ more) published) ≡ take n published) × (n ≤ length (cond test (published ++ more) published))
take_more_if true published more n enough = (take-append-le n published more enough, omega (arith, length-append published more))
take_more_if false published more n enough = (refl, enough)

differs_if : (test : Bool) (a b : ℕ) → eqb a b ≡ test → (a ≡ b → ⊥) → test ≡ false
differs_if true a b is far = absurd (far (grind (arith, nat_tests)))
differs_if false a b is far = refl

pub differs : (a b : ℕ) → (a ≡ b → ⊥) → eqb a b ≡ false
differs a b far = differs_if (eqb a b) a b refl far

published_keeps_numbers : {W O : Type 0} (published : ViewPayloads) (s : System W O) (view : ℕ) (client : Client W O) (payload : List ℕ) → NumbersStand published s → view_client s.clients view ≡ Some client → NumbersStand (λ other. cond (eqb other view) (published other ++ payload ∷ []) (published other)) (with_replica s client (publishes client.replica payload))
published_keeps_numbers {W = W} {O = O} published s view client payload numbered is =
    let after : ℕ → List (List ℕ) = λ other. cond (eqb other view) (published other ++ payload ∷ []) (published other) in
    let r = client.replica in
    let new : Client W O = record { replica = publishes r payload; newest = client.newest } in
    let named : r.view ≡ view = client_view s.clients view client is in
    let hit_is : eqb r.view view ≡ true = grind (arith, nat_tests) in
    let box = numbered.boxes view client is in
    let short : r.acknowledged ≤ length (published r.view) = let a = box.acked in let b = numbered.prefixes.enough r.view in omega arith in
    record {
      prefixes = record {
        events = λ other. numbered.prefixes.events other ∙ sym (take_more_if (eqb other view) (published other) (payload ∷ []) (last_number s.session.log other) (numbered.prefixes.enough other)).0;
        enough = λ other. (take_more_if (eqb other view) (published other) (payload ∷ []) (last_number s.session.log other) (numbered.prefixes.enough other)).1;
      };
      links = λ k c at. let link = numbered.links k c at in record { bound = link.bound; sends = sends_more_if (eqb c.view view) (published c.view) (payload ∷ []) c.up link.sends; joins = link.joins; cursor = link.cursor; dones = link.dones };
      boxes = λ other found is_found. elim (client_of-with s.clients new found other is_found) [
        | inl hit ↦ subst (λ (x : Client W O). ReplicaNumbers after s.session x.replica) (sym hit.1) (record {
          bound = box.bound;
          outbox = rw hit_is (ap (λ (l : List (List ℕ)). l ++ payload ∷ []) box.outbox ∙ sym (drop-append-le r.acknowledged (published r.view) (payload ∷ []) short));
          acked = box.acked;
          given = box.given;
        })
        | inr miss ↦
            let old = numbered.boxes other found miss.1 in
            let v = client_view s.clients other found miss.1 in
            let far : eqb found.replica.view view ≡ false = differs found.replica.view view (λ same. miss.0 (sym v ∙ same ∙ sym named)) in
            record { bound = old.bound; outbox = rw far old.outbox; acked = old.acked; given = old.given }
      ];
      unknown = λ other none.
          let before = none_before s.clients new other none in
          let far : eqb other view ≡ false = differs other view (λ same. absurd (let h = subst (λ (v : ℕ). view_client s.clients v ≡ None) same before in cc)) in
          rw far (numbered.unknown other before);
    }

publish_if : {W O : Type 0} (published : ViewPayloads) (view : ℕ) (payload : List ℕ) (test : Bool) (a b : System W O) → NumbersStand (λ other. cond (eqb other view) (published other ++ payload ∷ []) (published other)) a → NumbersStand published b → NumbersStand (λ other. cond (test && eqb other view) (published other ++ payload ∷ []) (published other)) (cond test a b)
publish_if published view payload true a b held fell = held
publish_if published view payload false a b held fell = fell

pub publish_keeps_numbers : {W O : Type 0} (published : ViewPayloads) (s : System W O) (view : ℕ) (payload : List ℕ) (found : Option (Client W O)) → NumbersStand published s → view_client s.clients view ≡ found → NumbersStand (published_with published view payload found) (publish_by s payload found)
publish_keeps_numbers published s view payload None numbered is = numbered
publish_keeps_numbers published s view payload (Some client) numbered is =
    publish_if published view payload (may_publish client.replica payload) (with_replica s client (publishes client.replica payload)) s (published_keeps_numbers published s view client payload numbered is) numbered
