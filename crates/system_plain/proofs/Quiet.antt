-- The steps that take no frame: Found, Publish, Transmit, Snap, Cut, Reconnect and Restart keep the facts.
use Rattle.std.proofs.Common.{ℕ, ◌+◌, ◌-◌, ◌≡◌, ◌≢◌, ◌≤◌, ◌<◌, ◌⊎◌, inl, inr, Bool, true, false, cond, eqb, ◌||◌, List, [], ◌∷◌, ◌++◌, Option, Some, None, is_some, zero, suc, length, length-append, set, take, drop, slice_get, refl, arith, sym, ◌∙◌, subst}
use Rattle.std.proofs.lemmas.Bool.Decides.{nat_tests}
use Rattle.std.proofs.lemmas.List.{length-set}
use Rattle.tea_base.specs.declared.entry.Entry.{Entry}
use Rattle.wire_frames.specs.declared.frame.ClientFrame.{ClientFrame}
use Rattle.wire_frames.specs.declared.frame.ClientFrame.TheVariants as up
use Rattle.wire_frames.specs.declared.frame.ServerFrame.{ServerFrame}
use Rattle.wire_frames.specs.declared.frame.ServerFrame.TheVariants.{Alive, Done, Recv, Refused, Snapped, Sync, Tick}
use Rattle.wire_frames.specs.Served.{Place, Streams, place_after}
use Rattle.reflector_core.specs.PlainSession.{IsSoundSession, PlainSession}
use Rattle.replica_plain.specs.declared.how.How.{How}
use Rattle.replica_plain.specs.declared.how.How.TheVariants.{Fresh, Resume, Whole}
use Rattle.replica_plain.specs.Calls.{gives, join_want, joining, loses, publishes, sends_after, snap_frame, unsent}
use Rattle.replica_plain.specs.PlainReplica.{PlainReplica, new_replica, published_count}
use Rattle.replica_plain.specs.Worlds.{AreWorlds, IsHonest, Worlds}
use Rattle.replica_plain.proofs.FrameSteps.{same_stands}
use Rattle.replica_plain.proofs.SyncSteps.{first_world_follows}
use Rattle.join_sync.specs.declared.cursor.Cursor.{Cursor}
use Rattle.system_plain.specs.Schedule.{SpellsWorldBy, SpellsWorldOn}
use Rattle.system_plain.specs.Steps.{cut_on, found, may_publish, publish_by, reconnect_by, restart_by, snap_by, snap_on, transmit_by, transmit_on, whole_for}
use Rattle.system_plain.specs.System.{Client, Connection, System, closing, is_open, put_up, view_client, with_client, with_down, with_replica, with_up}
use Rattle.system_plain.proofs.Changes.{connection_changes, founds, joins_anew, replica_changes}
use Rattle.system_plain.proofs.Facts.{AsksFor, FlowsFrom, NewestStands, SnapsHonest, TicksWithin, WaitsForSync, WorldStands, WorldsStand, awaited_flows}
use Rattle.system_plain.proofs.Lookups.{get_set}
use Rattle.system_plain.proofs.Sessions.{Grows-same}

-- the first world lives in every session
pub lives_first : {W O : Type 0} (m : Worlds W O) → AreWorlds m → (s : PlainSession) (r : PlainReplica W O) → IsSoundSession s → r.world ≡ m.first → r.seen ≡ 0 → r.broken ≡ false → WorldStands m s r
lives_first m laws s r sound world seen whole = record {
  follows = first_world_follows m s.log r laws sound.legal world seen whole;
  within = rw (world, laws.first_time) (omega arith);
}

pub same_lives : {W O : Type 0} (m : Worlds W O) (s : PlainSession) (r new : PlainReplica W O) → new.world ≡ r.world → new.seen ≡ r.seen → new.broken ≡ r.broken → WorldStands m s r → WorldStands m s new
same_lives m s r new world seen whole lives = record {
  follows = record { whole = whole ∙ lives.follows.whole; valid = rw world lives.follows.valid; follows = rw world lives.follows.follows; counted = rw (world, seen) lives.follows.counted };
  within = rw world lives.within;
}

-- replicas that differ only in what they published and gave
pub record DiffersInEvents {W O : Type 0} (m : Worlds W O) (r new : PlainReplica W O) : Type 0 where
  pub view : new.view ≡ r.view
  pub world : new.world ≡ r.world
  pub seen : new.seen ≡ r.seen
  pub broken : new.broken ≡ r.broken
  pub synced : new.synced ≡ r.synced
  pub awaited : new.awaited ≡ r.awaited
  pub acknowledged : new.acknowledged ≡ r.acknowledged
  pub published : published_count r ≤ published_count new
  pub wants : (how : How) → join_want m new how ≡ join_want m r how

alike_waits : {W O : Type 0} (m : Worlds W O) (s : PlainSession) (r new : PlainReplica W O) (closed over : Bool) (cursor : Option Cursor) (frames : List ServerFrame) → DiffersInEvents m r new → WaitsForSync m s r closed over cursor frames → WaitsForSync m s new closed over cursor frames
alike_waits m s r new closed over cursor [] alike waits = waits
alike_waits m s r new closed over cursor (Sync joined last from base ∷ rest) alike waits = record {
  how = waits.how;
  time = waits.time;
  awaited = alike.awaited ∙ waits.awaited;
  begins = rw (alike.wants waits.how) waits.begins;
  within = waits.within;
  honest = waits.honest;
  least = let h = waits.least in omega (arith, alike.acknowledged);
  most = let h = waits.most in omega (arith, alike.published);
  flows = waits.flows;
}
alike_waits m s r new closed over cursor (Refused about code kept more ∷ rest) alike waits = waits
alike_waits m s r new closed over cursor (Recv entry ∷ rest) alike waits = waits
alike_waits m s r new closed over cursor (Tick t ∷ rest) alike waits = waits
alike_waits m s r new closed over cursor (Done number seq time ∷ rest) alike waits = waits
alike_waits m s r new closed over cursor (Snapped time ∷ rest) alike waits = waits
alike_waits m s r new closed over cursor (Alive ∷ rest) alike waits = waits

alike_asks : {W O : Type 0} (m : Worlds W O) (r new : PlainReplica W O) (closed : Bool) (frames : List ClientFrame) → DiffersInEvents m r new → AsksFor m r closed frames → AsksFor m new closed frames
alike_asks m r new closed [] alike asks = asks
alike_asks m r new closed (up.Join session view want ∷ rest) alike asks = (asks.0, alike.awaited ∙ asks.1, asks.2, asks.3 ∙ sym alike.view, asks.4 ∙ sym (alike.wants asks.0))
alike_asks m r new closed (up.Send number payload ∷ rest) alike asks = asks
alike_asks m r new closed (up.Snap time bytes ∷ rest) alike asks = asks
alike_asks m r new closed (up.Leave ∷ rest) alike asks = asks
alike_asks m r new closed (up.Alive ∷ rest) alike asks = asks

-- with an alike replica, and other frames going up
pub alike_joined : {W O : Type 0} (m : Worlds W O) (s : PlainSession) (r new : PlainReplica W O) (c : Connection) (up : List ClientFrame) → DiffersInEvents m r new → (c.cursor ≡ None → c.over ≡ false → AsksFor m r c.closed c.up → AsksFor m r c.closed up) → NewestStands m s r c → NewestStands m s new (with_up c up)
alike_joined m s r new c up alike more joined = record {
  owned = joined.owned ∙ sym alike.view;
  opens = λ fresh going. let opens = joined.opens fresh going in record { nothing = opens.nothing; waiting = alike.synced ∙ opens.waiting; asks = alike_asks m r new c.closed up alike (more fresh going opens.asks) };
  waits = λ waiting. alike_waits m s r new c.closed c.over c.cursor c.down alike (joined.waits (sym alike.synced ∙ waiting));
  begun = λ synced. let begun = joined.begun (sym alike.synced ∙ synced) in record { place = begun.place; stands = same_stands m s.log begun.place r new (record { world = alike.world; seen = alike.seen; broken = alike.broken; synced = alike.synced }) begun.stands; flows = begun.flows };
}

same_wants : {W O : Type 0} (m : Worlds W O) (r new : PlainReplica W O) → new.world ≡ r.world → (how : How) → join_want m new how ≡ join_want m r how
same_wants m r new world Fresh = refl
same_wants m r new world Whole = refl
same_wants m r new world Resume = rw world refl

publishes_alike : {W O : Type 0} (m : Worlds W O) (r : PlainReplica W O) (payload : List ℕ) → DiffersInEvents m r (publishes r payload)
publishes_alike m r payload = record { view = refl; world = refl; seen = refl; broken = refl; synced = refl; awaited = refl; acknowledged = refl; published = omega (arith, length-append r.outbox (payload ∷ [])); wants = same_wants m r (publishes r payload) refl }

gives_alike : {W O : Type 0} (m : Worlds W O) (r : PlainReplica W O) → DiffersInEvents m r (gives r)
gives_alike m r = record { view = refl; world = refl; seen = refl; broken = refl; synced = refl; awaited = refl; acknowledged = refl; published = omega arith; wants = same_wants m r (gives r) refl }

alike_self : {W O : Type 0} (m : Worlds W O) (r : PlainReplica W O) → DiffersInEvents m r r
alike_self m r = record { view = refl; world = refl; seen = refl; broken = refl; synced = refl; awaited = refl; acknowledged = refl; published = omega arith; wants = λ how. refl }

-- more frames behind those that ask
asks_more : {W O : Type 0} (m : Worlds W O) (r : PlainReplica W O) (closed : Bool) (frames more : List ClientFrame) → closed ≡ false → AsksFor m r closed frames → AsksFor m r closed (frames ++ more)
asks_more m r closed [] more ready asks = absurd cc
asks_more m r closed (up.Join session view want ∷ rest) more ready asks = asks
asks_more m r closed (up.Send number payload ∷ rest) more ready asks = asks
asks_more m r closed (up.Snap time bytes ∷ rest) more ready asks = asks
asks_more m r closed (up.Leave ∷ rest) more ready asks = asks
asks_more m r closed (up.Alive ∷ rest) more ready asks = asks

snaps_append : {W O : Type 0} (m : Worlds W O) (s : PlainSession) (frames more : List ClientFrame) → SnapsHonest m s frames → SnapsHonest m s more → SnapsHonest m s (frames ++ more)
snaps_append m s [] more first then = then
snaps_append m s (up.Snap time bytes ∷ rest) more first then = (first.0, snaps_append m s rest more first.1 then)
snaps_append m s (up.Join session view want ∷ rest) more first then = snaps_append m s rest more first then
snaps_append m s (up.Send number payload ∷ rest) more first then = snaps_append m s rest more first then
snaps_append m s (up.Leave ∷ rest) more first then = snaps_append m s rest more first then
snaps_append m s (up.Alive ∷ rest) more first then = snaps_append m s rest more first then

snaps_of_sends : {W O : Type 0} (m : Worlds W O) (s : PlainSession) (number : ℕ) (payloads : List (List ℕ)) → SnapsHonest m s (sends_after number payloads)
snaps_of_sends m s number [] = tt
snaps_of_sends m s number (payload ∷ rest) = snaps_of_sends m s (number + 1) rest

snaps_if : {W O : Type 0} (m : Worlds W O) (s : PlainSession) (test : Bool) (frames : List ClientFrame) → SnapsHonest m s frames → SnapsHonest m s (cond test frames [])
snaps_if m s true frames snaps = snaps
snaps_if m s false frames snaps = tt

snaps_of_unsent : {W O : Type 0} (m : Worlds W O) (s : PlainSession) (r : PlainReplica W O) → SnapsHonest m s (unsent r)
snaps_of_unsent m s r = snaps_if m s r.synced (sends_after r.given (drop (r.given - r.acknowledged) r.outbox)) (snaps_of_sends m s r.given (drop (r.given - r.acknowledged) r.outbox))

snaps_first : {W O : Type 0} (m : Worlds W O) (s : PlainSession) (n : ℕ) (frames : List ClientFrame) → SnapsHonest m s frames → SnapsHonest m s (take n frames)
snaps_first m s zero frames snaps = tt
snaps_first m s (suc n) [] snaps = tt
snaps_first m s (suc n) (up.Snap time bytes ∷ rest) snaps = (snaps.0, snaps_first m s n rest snaps.1)
snaps_first m s (suc n) (up.Join session view want ∷ rest) snaps = snaps_first m s n rest snaps
snaps_first m s (suc n) (up.Send number payload ∷ rest) snaps = snaps_first m s n rest snaps
snaps_first m s (suc n) (up.Leave ∷ rest) snaps = snaps_first m s n rest snaps
snaps_first m s (suc n) (up.Alive ∷ rest) snaps = snaps_first m s n rest snaps

asks_put : {W O : Type 0} (m : Worlds W O) (r : PlainReplica W O) (closed : Bool) (frames more : List ClientFrame) → AsksFor m r closed frames → AsksFor m r closed (cond closed frames (frames ++ more))
asks_put m r true frames more asks = asks
asks_put m r false frames more asks = asks_more m r false frames more refl asks

snaps_put : {W O : Type 0} (m : Worlds W O) (s : PlainSession) (closed : Bool) (frames more : List ClientFrame) → SnapsHonest m s frames → SnapsHonest m s more → SnapsHonest m s (cond closed frames (frames ++ more))
snaps_put m s true frames more first then = first
snaps_put m s false frames more first then = snaps_append m s frames more first then

pub worlds_if : {W O : Type 0} (m : Worlds W O) (test : Bool) (a b : System W O) → WorldsStand m a → WorldsStand m b → WorldsStand m (cond test a b)
worlds_if m true a b held fell = held
worlds_if m false a b held fell = fell

there : (connections : List Connection) (k : ℕ) → k < length connections → (c : Connection) × (slice_get connections k ≡ Some c)
there [] k below = absurd (omega arith)
there (c ∷ rest) zero below = (c, refl)
there (c ∷ rest) (suc k) below = there rest k (omega arith)

same_or_other_if : (test : Bool) (a b : ℕ) → eqb a b ≡ test → (a ≢ b) ⊎ (a ≡ b)
same_or_other_if true a b is = inr (grind (arith, nat_tests))
same_or_other_if false a b is = inl (λ same. absurd (grind (arith, nat_tests)))

-- a replica and its newest connection change
pub both_change : {W O : Type 0} (m : Worlds W O) (s : System W O) (view : ℕ) (client : Client W O) (c changed : Connection) (replica : PlainReplica W O)
    → WorldsStand m s → view_client s.clients view ≡ Some client → slice_get s.connections client.newest ≡ Some c → replica.view ≡ client.replica.view → WorldStands m s.session replica → SnapsHonest m s.session changed.up → NewestStands m s.session replica changed
    → WorldsStand m (record { session = s.session; clients = with_client s.clients (record { replica = replica; newest = client.newest }); connections = set s.connections client.newest changed })
both_change m s view client c changed replica fine is at same_view lives snaps joined =
    replica_changes m s view client c replica (set s.connections client.newest changed) fine is at same_view lives (length-set s.connections client.newest changed)
    (λ k found at_k. elim (get_set s.connections client.newest k changed found at_k) [
      | inl hit ↦ inr (hit.0, subst (λ (x : Connection). SnapsHonest m s.session x.up) (sym hit.1) snaps, subst (NewestStands m s.session replica) (sym hit.1) joined)
      | inr miss ↦ inl miss
    ])

pub found_keeps_worlds : {W O : Type 0} (m : Worlds W O) → AreWorlds m → (s : System W O) (view : ℕ) → WorldsStand m s → WorldsStand m (found m s view)
found_keeps_worlds m laws s view fine =
    worlds_if m (eqb view 0 || is_some (view_client s.clients view)) s _ fine (founds m s (new_replica m view) Fresh fine (lives_first m laws s.session (joining (new_replica m view) Fresh) fine.sound refl refl refl))

published_keeps_worlds : {W O : Type 0} (m : Worlds W O) (s : System W O) (view : ℕ) (client : Client W O) (payload : List ℕ) → WorldsStand m s → view_client s.clients view ≡ Some client → WorldsStand m (with_replica s client (publishes client.replica payload))
published_keeps_worlds m s view client payload fine is =
    let held = there s.connections client.newest (fine.connected view client is) in
    let r = client.replica in
    replica_changes m s view client held.0 (publishes r payload) s.connections fine is held.1 refl (same_lives m s.session r (publishes r payload) refl refl refl (fine.lives view client is)) refl
    (λ k c at_k. elim (same_or_other_if (eqb k client.newest) k client.newest refl) [
      | inl far ↦ inl (far, at_k)
      | inr near ↦ inr (near, fine.snaps k c at_k, alike_joined m s.session r (publishes r payload) c c.up (publishes_alike m r payload) (λ n o asks. asks) (fine.joined view client c is (subst (λ j. slice_get s.connections j ≡ Some c) near at_k)))
    ])

pub publish_keeps_worlds : {W O : Type 0} (m : Worlds W O) (s : System W O) (view : ℕ) (payload : List ℕ) (found : Option (Client W O)) → WorldsStand m s → view_client s.clients view ≡ found → WorldsStand m (publish_by s payload found)
publish_keeps_worlds m s view payload None fine is = fine
publish_keeps_worlds m s view payload (Some client) fine is = worlds_if m (may_publish client.replica payload) _ s (published_keeps_worlds m s view client payload fine is) fine

transmit_on_keeps_worlds : {W O : Type 0} (m : Worlds W O) (s : System W O) (view : ℕ) (client : Client W O) (found : Option Connection) → WorldsStand m s → view_client s.clients view ≡ Some client → slice_get s.connections client.newest ≡ found → WorldsStand m (transmit_on s client found)
transmit_on_keeps_worlds m s view client None fine is at = fine
transmit_on_keeps_worlds m s view client (Some c) fine is at =
    let r = client.replica in
    worlds_if m (is_open c) _ s
    (both_change m s view client c (put_up c (unsent r)) (gives r) fine is at refl (same_lives m s.session r (gives r) refl refl refl (fine.lives view client is))
    (snaps_put m s.session c.closed c.up (unsent r) (fine.snaps client.newest c at) (snaps_of_unsent m s.session r))
    (alike_joined m s.session r (gives r) c (cond c.closed c.up (c.up ++ unsent r)) (gives_alike m r) (λ n o asks. asks_put m r c.closed c.up (unsent r) asks) (fine.joined view client c is at)))
    fine

pub transmit_keeps_worlds : {W O : Type 0} (m : Worlds W O) (s : System W O) (view : ℕ) (found : Option (Client W O)) → WorldsStand m s → view_client s.clients view ≡ found → WorldsStand m (transmit_by s found)
transmit_keeps_worlds m s view None fine is = fine
transmit_keeps_worlds m s view (Some client) fine is = transmit_on_keeps_worlds m s view client (slice_get s.connections client.newest) fine is refl

opened_if : {W O : Type 0} (m : Worlds W O) (test : Bool) (a b : System W O) → (test ≡ true → WorldsStand m a) → WorldsStand m b → WorldsStand m (cond test a b)
opened_if m true a b held fell = held refl
opened_if m false a b held fell = fell

snap_on_keeps_worlds : {W O : Type 0} (m : Worlds W O) (s : System W O) (view : ℕ) (client : Client W O) (found : Option Connection) → WorldsStand m s → view_client s.clients view ≡ Some client → slice_get s.connections client.newest ≡ found → SpellsWorldOn m client found → WorldsStand m (snap_on m s client found)
snap_on_keeps_worlds m s view client None fine is at spells = fine
snap_on_keeps_worlds m s view client (Some c) fine is at spells =
    let r = client.replica in
    let lives = fine.lives view client is in
    opened_if m (is_open c) _ s
    (λ opened.
    let honest : IsHonest m s.session.log (m.time r.world) (m.snapshot r.world) = record { world = r.world; spelled = spells opened; timed = refl; follows = lives.follows.follows } in
    connection_changes m s s.session client.newest c (put_up c (snap_frame m r ∷ [])) fine at (Grows-same s.session) fine.sound fine.kept
    (snaps_put m s.session c.closed c.up (snap_frame m r ∷ []) (fine.snaps client.newest c at) ((honest, lives.within), tt))
    (λ other held is_held same joined. alike_joined m s.session held.replica held.replica c (cond c.closed c.up (c.up ++ snap_frame m r ∷ [])) (alike_self m held.replica) (λ n o asks. asks_put m held.replica c.closed c.up (snap_frame m r ∷ []) asks) joined))
    fine

pub snap_keeps_worlds : {W O : Type 0} (m : Worlds W O) (s : System W O) (view : ℕ) (found : Option (Client W O)) → WorldsStand m s → view_client s.clients view ≡ found → SpellsWorldBy m s found → WorldsStand m (snap_by m s found)
snap_keeps_worlds m s view None fine is spells = fine
snap_keeps_worlds m s view (Some client) fine is spells = snap_on_keeps_worlds m s view client (slice_get s.connections client.newest) fine is refl spells

pub reconnect_keeps_worlds : {W O : Type 0} (m : Worlds W O) (s : System W O) (view : ℕ) (how : How) (found : Option (Client W O)) → WorldsStand m s → view_client s.clients view ≡ found → WorldsStand m (reconnect_by m s how found)
reconnect_keeps_worlds m s view how None fine is = fine
reconnect_keeps_worlds m s view how (Some client) fine is =
    joins_anew m s view client client.replica how fine is refl (same_lives m s.session client.replica (joining client.replica how) refl refl refl (fine.lives view client is))

pub restart_keeps_worlds : {W O : Type 0} (m : Worlds W O) → AreWorlds m → (s : System W O) (view : ℕ) (how : How) (found : Option (Client W O)) → WorldsStand m s → view_client s.clients view ≡ found → WorldsStand m (restart_by m s how found)
restart_keeps_worlds m laws s view how None fine is = fine
restart_keeps_worlds m laws s view how (Some client) fine is =
    joins_anew m s view client (loses m client.replica) (whole_for how) fine is refl (lives_first m laws s.session (joining (loses m client.replica) (whole_for how)) fine.sound refl refl refl)

take_none : (n : ℕ) → take {A = ServerFrame} n [] ≡ []
take_none zero = refl
take_none (suc n) = refl

streams_cut : (log : List Entry) (place : Place) (n : ℕ) (frames : List ServerFrame) → Streams log place frames → Streams log place (take n frames)
streams_cut log place zero frames streams = tt
streams_cut log place (suc n) [] streams = tt
streams_cut log place (suc n) (frame ∷ rest) streams = (streams.0, streams_cut log (place_after place frame) n rest streams.1)

ticks_cut : (horizon n : ℕ) (frames : List ServerFrame) → TicksWithin horizon frames → TicksWithin horizon (take n frames)
ticks_cut horizon zero frames ticks = tt
ticks_cut horizon (suc n) [] ticks = tt
ticks_cut horizon (suc n) (Tick t ∷ rest) ticks = (ticks.0, ticks_cut horizon n rest ticks.1)
ticks_cut horizon (suc n) (Recv entry ∷ rest) ticks = ticks_cut horizon n rest ticks
ticks_cut horizon (suc n) (Sync joined last from base ∷ rest) ticks = ticks_cut horizon n rest ticks
ticks_cut horizon (suc n) (Done number seq time ∷ rest) ticks = ticks_cut horizon n rest ticks
ticks_cut horizon (suc n) (Snapped time ∷ rest) ticks = ticks_cut horizon n rest ticks
ticks_cut horizon (suc n) (Refused about code kept more ∷ rest) ticks = ticks_cut horizon n rest ticks
ticks_cut horizon (suc n) (Alive ∷ rest) ticks = ticks_cut horizon n rest ticks

-- what is left of frames after a cut
flows_first : (s : PlainSession) (place : Place) (frames : List ServerFrame) (n : ℕ) (closed : Bool) (cursor : Option Cursor) → FlowsFrom s place frames closed cursor → FlowsFrom s place (take n frames) true cursor
flows_first s place frames n closed cursor flows = record { streams = streams_cut s.log place n frames flows.streams; ticks = ticks_cut s.horizon n frames flows.ticks; meets = λ ready. absurd cc }

waits_cut : {W O : Type 0} (m : Worlds W O) (s : PlainSession) (r : PlainReplica W O) (closed over : Bool) (cursor : Option Cursor) (n : ℕ) (frames : List ServerFrame) → WaitsForSync m s r closed over cursor frames → WaitsForSync m s r true over cursor (take n frames)
waits_cut m s r closed over cursor zero frames waits = λ ready going. absurd cc
waits_cut m s r closed over cursor (suc n) [] waits = λ ready going. absurd cc
waits_cut m s r closed over cursor (suc n) (Sync joined last from base ∷ rest) waits =
    awaited_flows m s r last from base rest (take n rest) closed true cursor cursor waits (flows_first s _ rest n closed cursor waits.flows)
waits_cut m s r closed over cursor (suc n) (Refused about code kept more ∷ rest) waits = (rw waits.0 (take_none n), waits.1)
waits_cut m s r closed over cursor (suc n) (Recv entry ∷ rest) waits = waits
waits_cut m s r closed over cursor (suc n) (Tick t ∷ rest) waits = waits
waits_cut m s r closed over cursor (suc n) (Done number seq time ∷ rest) waits = waits
waits_cut m s r closed over cursor (suc n) (Snapped time ∷ rest) waits = waits
waits_cut m s r closed over cursor (suc n) (Alive ∷ rest) waits = waits

asks_cut : {W O : Type 0} (m : Worlds W O) (r : PlainReplica W O) (closed : Bool) (n : ℕ) (frames : List ClientFrame) → AsksFor m r closed frames → AsksFor m r true (take n frames)
asks_cut m r closed zero frames asks = refl
asks_cut m r closed (suc n) [] asks = refl
asks_cut m r closed (suc n) (up.Join session view want ∷ rest) asks = asks
asks_cut m r closed (suc n) (up.Send number payload ∷ rest) asks = asks
asks_cut m r closed (suc n) (up.Snap time bytes ∷ rest) asks = asks
asks_cut m r closed (suc n) (up.Leave ∷ rest) asks = asks
asks_cut m r closed (suc n) (up.Alive ∷ rest) asks = asks

joined_cut : {W O : Type 0} (m : Worlds W O) (s : PlainSession) (r : PlainReplica W O) (c : Connection) (ups downs : ℕ) → NewestStands m s r c → NewestStands m s r (closing (with_down (with_up c (take ups c.up)) (take downs c.down)))
joined_cut m s r c ups downs joined = record {
  owned = joined.owned;
  opens = λ fresh going. let opens = joined.opens fresh going in record { nothing = rw opens.nothing (take_none downs); waiting = opens.waiting; asks = asks_cut m r c.closed ups c.up opens.asks };
  waits = λ waiting. waits_cut m s r c.closed c.over c.cursor downs c.down (joined.waits waiting);
  begun = λ synced. let begun = joined.begun synced in record { place = begun.place; stands = begun.stands; flows = flows_first s begun.place c.down downs c.closed c.cursor begun.flows };
}

pub cut_keeps_worlds : {W O : Type 0} (m : Worlds W O) (s : System W O) (number ups downs : ℕ) (found : Option Connection) → WorldsStand m s → slice_get s.connections number ≡ found → WorldsStand m (cut_on s number ups downs found)
cut_keeps_worlds m s number ups downs None fine at = fine
cut_keeps_worlds m s number ups downs (Some c) fine at =
    connection_changes m s s.session number c (closing (with_down (with_up c (take ups c.up)) (take downs c.down))) fine at (Grows-same s.session) fine.sound fine.kept (snaps_first m s.session ups c.up (fine.snaps number c at))
    (λ other held is_held same joined. joined_cut m s.session held.replica c ups downs joined)
