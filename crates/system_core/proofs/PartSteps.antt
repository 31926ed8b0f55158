-- What the parts of a system are behind each step.
use Rattle.std.proofs.Common.{ℕ, ◌≡◌, ◌≢◌, Bool, true, false, cond, List, [], ◌∷◌, ◌++◌, Some, None, length, map, set, slice_get, refl, sym, ap, ◌∙◌, subst}
use Rattle.std.specs.Arc.{arc_value}
use Rattle.std.specs.List.{AllByRecursion}
use Rattle.model_solved.specs.Founding.{CheckedView, founding_of, IsFounding}
use Rattle.world_plain.specs.Messages.{PlainOutgoing}
use Rattle.world_plain.specs.World.{WorldRecord}
use Rattle.wire_frames.specs.declared.frame.ServerFrame.{ServerFrame}
use Rattle.replica_plain.specs.Worlds.{Worlds}
use Rattle.replica_plain.specs.PlainReplica.{PlainReplica, new_replica}
use Rattle.replica_plain.specs.Taking.{taken}
use Rattle.replica_plain.specs.Calls.{gives, join_frame, joining, loses, publishes, snap_frame, unsent}
use Rattle.replica_plain.specs.declared.how.How.{How}
use Rattle.replica_plain.specs.declared.how.How.TheVariants.{Fresh}
use Rattle.replica.specs.RealWorlds.{worlds}
use Rattle.replica.specs.View.{founded_replica, with_plain}
use Rattle.system_plain.specs.System.{Client, Connection, System, close, connecting, is_open, put_up, view_client, with_client, with_connection, with_down, with_replica}
use Rattle.system_plain.specs.Steps.{SystemStep, Found, Publish, Receive, Reconnect, Restart, Snap, Transmit, after_step, connect, may_publish, publish_by, receive_by, receive_next, receive_on, reconnect_by, restart_by, snap_by, snap_on, transmit_by, transmit_on, whole_for}
use Rattle.system_plain.specs.Schedule.{IsTypedStep, SpellsWorld, SpellsWorldBy, SpellsWorldOn}
use Rattle.system_plain.proofs.StepRows.{found_row}
use Rattle.system_core.specs.declared.member.Member.{Member}
use Rattle.system_core.specs.declared.parts.Parts.{Parts}
use Rattle.system_core.specs.Parts.{AreApart, Connects, IsNoneOf, IsMember, IsSound, Takes, member_view, part_worlds, plain_client, plain_system}
use Rattle.system_core.proofs.Members.{all-at, all-push, all-set, apart-push, client-absent, client-changed, client-found, get-set, map-push, set-again, views-set}

-- ---- members

-- a member with another replica state and newest connection
abbrev pub member_with : Member → PlainReplica WorldRecord PlainOutgoing → ℕ → Member
member_with m plain newest = record { view = m.view; replica = with_plain m.replica plain; newest = newest }

pub is-member-with : (classes : CheckedView) (name : List ℕ) (m : Member) (plain : PlainReplica WorldRecord PlainOutgoing) (newest : ℕ) → IsMember classes name m → plain.view ≡ m.replica.plain.view → plain.broken ≡ false
    → IsMember classes name (member_with m plain newest)
is-member-with classes name m plain newest is same whole = record { program = is.program; session = is.session; viewed = is.viewed ∙ sym same; whole = whole }

pub member-at : (p : Parts) (k : ℕ) (m : Member) → IsSound p → slice_get p.members.items k ≡ Some m → IsMember (arc_value p.program) p.id.0 m
member-at p k m sound at = all-at (IsMember (arc_value p.program) p.id.0) p.members.items k m sound.members at

-- the member's worlds are those of the parts
pub worlds-at : (p : Parts) (k : ℕ) (m : Member) → IsSound p → slice_get p.members.items k ≡ Some m → worlds (founding_of m.replica.program) m.replica.id ≡ part_worlds p
worlds-at p k m sound at =
    let is = member-at p k m sound at in
    ap (λ classes. worlds (founding_of classes) m.replica.id) is.program ∙ ap (worlds (founding_of (arc_value p.program))) is.session

pub found-at : (p : Parts) (k view : ℕ) (m : Member) → IsSound p → slice_get p.members.items k ≡ Some m → m.view ≡ view → view_client (plain_system p).clients view ≡ Some (plain_client m)
found-at p k view m sound at same =
    subst (λ v. view_client (plain_system p).clients v ≡ Some (plain_client m)) same (client-found (arc_value p.program) p.id.0 p.members.items k m sound.members sound.apart at)

pub absent-in : (p : Parts) (view : ℕ) → IsSound p → IsNoneOf view (map member_view p.members.items) → view_client (plain_system p).clients view ≡ None
absent-in p view sound absent = client-absent (arc_value p.program) p.id.0 p.members.items view sound.members absent

-- ---- a step that is taken

-- the parts of the same program and session are sound by their members
stays-sound : (old new : Parts) (members : List Member) → IsSound old → new.program ≡ old.program → new.id ≡ old.id → new.members.items ≡ members
    → AllByRecursion (IsMember (arc_value old.program) old.id.0) members → AreApart (map member_view members) → IsSound new
stays-sound old new members sound program name are each apart = record {
  founded = subst (λ held. IsFounding (founding_of (arc_value held))) (sym program) sound.founded;
  members =
      subst (λ held. AllByRecursion (IsMember (arc_value held) new.id.0) new.members.items) (sym program)
      (subst (λ id. AllByRecursion (IsMember (arc_value old.program) id.0) new.members.items) (sym name)
      (subst (AllByRecursion (IsMember (arc_value old.program) old.id.0)) (sym are) each));
  apart = subst (λ ms. AreApart (map member_view ms)) (sym are) apart;
}

-- that changes a member and whatever else, not the program and the session's name
pub changes : (old new : Parts) (step : SystemStep) (k : ℕ) (m changed : Member) → IsSound old → IsTypedStep step → SpellsWorld (part_worlds old) (plain_system old) step
    → new.program ≡ old.program → new.id ≡ old.id → slice_get old.members.items k ≡ Some m → new.members.items ≡ set old.members.items k changed
    → changed.view ≡ m.view → IsMember (arc_value old.program) old.id.0 changed
    → (let s : System WorldRecord PlainOutgoing = record { session = new.session.plain; clients = with_client (plain_system old).clients (plain_client changed); connections = new.connections.items } in s ≡ after_step (part_worlds old) (plain_system old) step)
    → Takes old new step
changes old new step k m changed sound typed spelled program name at members same is made =
    let classes = arc_value old.program in
    let clients = client-changed classes old.id.0 old.members.items k m changed sound.members sound.apart at (sym is.viewed ∙ same) in
    record {
      typed = typed;
      spelled = spelled;
      program = program;
      session = name;
      sound =
          stays-sound old new (set old.members.items k changed) sound program name members (all-set (IsMember classes old.id.0) old.members.items k changed sound.members is)
          (subst AreApart (sym (views-set old.members.items k m changed at same)) sound.apart);
      system = ap (λ cs. let s : System WorldRecord PlainOutgoing = record { session = new.session.plain; clients = cs; connections = new.connections.items } in s) (ap (map plain_client) members ∙ clients) ∙ made;
    }

-- that leaves the members as they are
pub keeps-members : (old new : Parts) (step : SystemStep) → IsSound old → IsTypedStep step → SpellsWorld (part_worlds old) (plain_system old) step
    → new.program ≡ old.program → new.id ≡ old.id → new.members.items ≡ old.members.items
    → (let s : System WorldRecord PlainOutgoing = record { session = new.session.plain; clients = (plain_system old).clients; connections = new.connections.items } in s ≡ after_step (part_worlds old) (plain_system old) step)
    → Takes old new step
keeps-members old new step sound typed spelled program name members made = record {
  typed = typed;
  spelled = spelled;
  program = program;
  session = name;
  sound = stays-sound old new old.members.items sound program name members sound.members sound.apart;
  system = ap (λ ms. let s : System WorldRecord PlainOutgoing = record { session = new.session.plain; clients = map plain_client ms; connections = new.connections.items } in s) members ∙ made;
}

-- that cannot be made
pub unmade : (p : Parts) (step : SystemStep) → IsSound p → IsTypedStep step → SpellsWorld (part_worlds p) (plain_system p) step → after_step (part_worlds p) (plain_system p) step ≡ plain_system p → Takes p p step
unmade p step sound typed spelled made = keeps-members p p step sound typed spelled refl refl refl (sym made)

-- ---- open connections

if-open : {W O : Type 0} (s made : System W O) (test : Bool) → test ≡ true → cond {A = System W O} test made s ≡ made
if-open s made test is = ap (λ b. cond b made s) is

if-shut : {W O : Type 0} (s made : System W O) (test : Bool) → test ≡ false → cond {A = System W O} test made s ≡ s
if-shut s made test is = ap (λ b. cond b made s) is

pub transmits : {W O : Type 0} (m : Worlds W O) (s : System W O) (view : ℕ) (client : Client W O) (c : Connection) → view_client s.clients view ≡ Some client → slice_get s.connections client.newest ≡ Some c → is_open c ≡ true
    → with_connection (with_replica s client (gives client.replica)) client.newest (put_up c (unsent client.replica)) ≡ after_step m s (Transmit view)
transmits m s view client c found at opened =
    sym (ap (transmit_by s) found ∙ ap (transmit_on s client) at
    ∙ if-open s (with_connection (with_replica s client (gives client.replica)) client.newest (put_up c (unsent client.replica))) (is_open c) opened)

pub transmits-none : {W O : Type 0} (m : Worlds W O) (s : System W O) (view : ℕ) (client : Client W O) → view_client s.clients view ≡ Some client → slice_get s.connections client.newest ≡ None → after_step m s (Transmit view) ≡ s
transmits-none m s view client found at = ap (transmit_by s) found ∙ ap (transmit_on s client) at

pub transmits-shut : {W O : Type 0} (m : Worlds W O) (s : System W O) (view : ℕ) (client : Client W O) (c : Connection) → view_client s.clients view ≡ Some client → slice_get s.connections client.newest ≡ Some c → is_open c ≡ false → after_step m s (Transmit view) ≡ s
transmits-shut m s view client c found at shut =
    ap (transmit_by s) found ∙ ap (transmit_on s client) at
    ∙ if-shut s (with_connection (with_replica s client (gives client.replica)) client.newest (put_up c (unsent client.replica))) (is_open c) shut

pub snaps : {W O : Type 0} (m : Worlds W O) (s : System W O) (view : ℕ) (client : Client W O) (c : Connection) → view_client s.clients view ≡ Some client → slice_get s.connections client.newest ≡ Some c → is_open c ≡ true
    → with_connection s client.newest (put_up c (snap_frame m client.replica ∷ [])) ≡ after_step m s (Snap view)
snaps m s view client c found at opened =
    sym (ap (snap_by m s) found ∙ ap (snap_on m s client) at ∙ if-open s (with_connection s client.newest (put_up c (snap_frame m client.replica ∷ []))) (is_open c) opened)

pub snaps-none : {W O : Type 0} (m : Worlds W O) (s : System W O) (view : ℕ) (client : Client W O) → view_client s.clients view ≡ Some client → slice_get s.connections client.newest ≡ None → after_step m s (Snap view) ≡ s
snaps-none m s view client found at = ap (snap_by m s) found ∙ ap (snap_on m s client) at

pub snaps-shut : {W O : Type 0} (m : Worlds W O) (s : System W O) (view : ℕ) (client : Client W O) (c : Connection) → view_client s.clients view ≡ Some client → slice_get s.connections client.newest ≡ Some c → is_open c ≡ false → after_step m s (Snap view) ≡ s
snaps-shut m s view client c found at shut =
    ap (snap_by m s) found ∙ ap (snap_on m s client) at ∙ if-shut s (with_connection s client.newest (put_up c (snap_frame m client.replica ∷ []))) (is_open c) shut

pub spells-none : {W O : Type 0} (m : Worlds W O) (s : System W O) (view : ℕ) → view_client s.clients view ≡ None → SpellsWorld m s (Snap view)
spells-none m s view none = subst (SpellsWorldBy m s) (sym none) tt

pub spells-lost : {W O : Type 0} (m : Worlds W O) (s : System W O) (view : ℕ) (client : Client W O) → view_client s.clients view ≡ Some client → slice_get s.connections client.newest ≡ None → SpellsWorld m s (Snap view)
spells-lost m s view client found at = subst (SpellsWorldBy m s) (sym found) (subst (SpellsWorldOn m client) (sym at) tt)

pub spells-shut : {W O : Type 0} (m : Worlds W O) (s : System W O) (view : ℕ) (client : Client W O) (c : Connection) → view_client s.clients view ≡ Some client → slice_get s.connections client.newest ≡ Some c → is_open c ≡ false → SpellsWorld m s (Snap view)
spells-shut m s view client c found at shut = subst (SpellsWorldBy m s) (sym found) (subst (SpellsWorldOn m client) (sym at) (λ opened. absurd cc))

pub spells-open : {W O : Type 0} (m : Worlds W O) (s : System W O) (view : ℕ) (client : Client W O) (c : Connection) → view_client s.clients view ≡ Some client → slice_get s.connections client.newest ≡ Some c
    → m.unsnap (m.snapshot client.replica.world) ≡ Some client.replica.world → SpellsWorld m s (Snap view)
spells-open m s view client c found at spelled = subst (SpellsWorldBy m s) (sym found) (subst (SpellsWorldOn m client) (sym at) (λ opened. spelled))

-- ---- Receive

pub receives : {W O : Type 0} (m : Worlds W O) (s : System W O) (view : ℕ) (client : Client W O) (c : Connection) (frame : ServerFrame) (rest : List ServerFrame) → view_client s.clients view ≡ Some client → slice_get s.connections client.newest ≡ Some c → c.down ≡ frame ∷ rest
    → with_connection (with_replica s client (taken m client.replica frame).replica) client.newest (with_down c rest) ≡ after_step m s (Receive view)
receives m s view client c frame rest found at down = sym (ap (receive_by m s) found ∙ ap (receive_on m s client) at ∙ ap (receive_next m s client c) down)

pub receives-none : {W O : Type 0} (m : Worlds W O) (s : System W O) (view : ℕ) (client : Client W O) → view_client s.clients view ≡ Some client → slice_get s.connections client.newest ≡ None → after_step m s (Receive view) ≡ s
receives-none m s view client found at = ap (receive_by m s) found ∙ ap (receive_on m s client) at

pub receives-nothing : {W O : Type 0} (m : Worlds W O) (s : System W O) (view : ℕ) (client : Client W O) (c : Connection) → view_client s.clients view ≡ Some client → slice_get s.connections client.newest ≡ Some c → c.down ≡ [] → after_step m s (Receive view) ≡ s
receives-nothing m s view client c found at down = ap (receive_by m s) found ∙ ap (receive_on m s client) at ∙ ap (receive_next m s client c) down

-- ---- Publish

pub publishes-step : {W O : Type 0} (m : Worlds W O) (s : System W O) (view : ℕ) (payload : List ℕ) (client : Client W O) → view_client s.clients view ≡ Some client → may_publish client.replica payload ≡ true
    → with_replica s client (publishes client.replica payload) ≡ after_step m s (Publish view payload)
publishes-step m s view payload client found may =
    sym (ap (publish_by s payload) found ∙ if-open s (with_replica s client (publishes client.replica payload)) (may_publish client.replica payload) may)

pub publishes-not : {W O : Type 0} (m : Worlds W O) (s : System W O) (view : ℕ) (payload : List ℕ) (client : Client W O) → view_client s.clients view ≡ Some client → may_publish client.replica payload ≡ false → after_step m s (Publish view payload) ≡ s
publishes-not m s view payload client found may = ap (publish_by s payload) found ∙ if-shut s (with_replica s client (publishes client.replica payload)) (may_publish client.replica payload) may

-- ---- Reconnect, Restart

-- the parts whose member has joined by a new connection, as a plain system
connected : (old new : Parts) (place : ℕ) (how : How) (did : Connects old new place how)
    → (let s : System WorldRecord PlainOutgoing = record {
      session = new.session.plain;
      clients = with_client (plain_system old).clients (plain_client (member_with did.member (joining did.member.replica.plain how) (length old.connections.items)));
      connections = new.connections.items;
    } in s ≡ connect (part_worlds old) (plain_system old) did.member.newest did.member.replica.plain how)
connected old new place how did =
    let clients = with_client (plain_system old).clients (plain_client (member_with did.member (joining did.member.replica.plain how) (length old.connections.items))) in
    ap (λ session. let s : System WorldRecord PlainOutgoing = record { session = session; clients = clients; connections = new.connections.items } in s) did.stands
    ∙ ap (λ connections. let s : System WorldRecord PlainOutgoing = record { session = old.session.plain; clients = clients; connections = connections } in s) did.connections

same-member : (members : List Member) (k : ℕ) (m other : Member) → slice_get members k ≡ Some m → slice_get members k ≡ Some other → other ≡ m
same-member members k m other at other_at = cc

pub reconnect-takes : (old new : Parts) (view place : ℕ) (how : How) (m : Member) → IsSound old → slice_get old.members.items place ≡ Some m → m.view ≡ view → Connects old new place how → Takes old new (Reconnect view how)
reconnect-takes old new view place how m sound at same did =
    let held = did.member in
    let is = member-at old place held sound did.placed in
    let viewed : held.view ≡ view = ap (λ (x : Member). x.view) (same-member old.members.items place m held at did.placed) ∙ same in
    changes old new (Reconnect view how) place held (member_with held (joining held.replica.plain how) (length old.connections.items)) sound tt tt did.program did.session did.placed did.members refl
    (is-member-with (arc_value old.program) old.id.0 held (joining held.replica.plain how) (length old.connections.items) is refl is.whole)
    (connected old new place how did ∙ sym (ap (reconnect_by (part_worlds old) (plain_system old) how) (found-at old place view held sound did.placed viewed)))

-- the connections once a member has joined by a new one
abbrev joined_connections : How → Member → List Connection → Worlds WorldRecord PlainOutgoing → List Connection
joined_connections how held connections m = close connections held.newest ++ connecting held.replica.plain.view (join_frame m held.replica.plain how) ∷ []

abbrev pub lost_member : Parts → Member → Member
lost_member p m = member_with m (loses (part_worlds p) m.replica.plain) m.newest

abbrev restarted_member : Parts → Member → How → Member
restarted_member p m how = member_with m (joining (loses (part_worlds p) m.replica.plain) (whole_for how)) (length p.connections.items)

restarted : (old lost new : Parts) (place : ℕ) (how : How) (m : Member) (did : Connects lost new place (whole_for how)) → did.member ≡ lost_member old m → lost.connections.items ≡ old.connections.items → lost.session.plain ≡ old.session.plain
    → part_worlds lost ≡ part_worlds old
    → (let s : System WorldRecord PlainOutgoing = record { session = new.session.plain; clients = with_client (plain_system old).clients (plain_client (restarted_member old m how)); connections = new.connections.items }
    in s ≡ connect (part_worlds old) (plain_system old) m.newest (loses (part_worlds old) m.replica.plain) (whole_for how))
restarted old lost new place how m did held connections session same =
    let clients = with_client (plain_system old).clients (plain_client (restarted_member old m how)) in
    let joined = joined_connections (whole_for how) in
    let all : new.connections.items ≡ joined (lost_member old m) old.connections.items (part_worlds old) =
    did.connections ∙ ap (λ x. joined x lost.connections.items (part_worlds lost)) held
    ∙ ap (λ cs. joined (lost_member old m) cs (part_worlds lost)) connections ∙ ap (joined (lost_member old m) old.connections.items) same in
    ap (λ held_session. let s : System WorldRecord PlainOutgoing = record { session = held_session; clients = clients; connections = new.connections.items } in s) (did.stands ∙ session)
    ∙ ap (λ cs. let s : System WorldRecord PlainOutgoing = record { session = old.session.plain; clients = clients; connections = cs } in s) all

restarted-members : (old lost new : Parts) (place : ℕ) (how : How) (m : Member) (did : Connects lost new place (whole_for how)) → did.member ≡ lost_member old m → lost.connections.items ≡ old.connections.items → lost.members.items ≡ set old.members.items place (lost_member old m)
    → new.members.items ≡ set old.members.items place (restarted_member old m how)
restarted-members old lost new place how m did held connections members =
    did.members
    ∙ ap (λ x. set lost.members.items place (member_with x (joining x.replica.plain (whole_for how)) (length lost.connections.items))) held
    ∙ ap (λ cs. set lost.members.items place (member_with m (joining (loses (part_worlds old) m.replica.plain) (whole_for how)) (length cs))) connections
    ∙ ap (λ ms. set ms place (restarted_member old m how)) members
    ∙ set-again old.members.items place (lost_member old m) (restarted_member old m how)

pub restart-takes : (old lost new : Parts) (view place : ℕ) (how : How) (m : Member) → IsSound old → slice_get old.members.items place ≡ Some m → m.view ≡ view
    → lost.program ≡ old.program → lost.id ≡ old.id → lost.connections.items ≡ old.connections.items → lost.session.plain ≡ old.session.plain → part_worlds lost ≡ part_worlds old
    → lost.members.items ≡ set old.members.items place (lost_member old m) → Connects lost new place (whole_for how) → Takes old new (Restart view how)
restart-takes old lost new view place how m sound at same program name connections session worlds_same members did =
    let is = member-at old place m sound at in
    let lost_at : slice_get lost.members.items place ≡ Some (lost_member old m) = ap (λ ms. slice_get ms place) members ∙ get-set old.members.items place m (lost_member old m) at in
    let held = same-member lost.members.items place (lost_member old m) did.member lost_at did.placed in
    changes old new (Restart view how) place m (restarted_member old m how) sound tt tt (did.program ∙ program) (did.session ∙ name) at (restarted-members old lost new place how m did held connections members) refl
    (is-member-with (arc_value old.program) old.id.0 m (joining (loses (part_worlds old) m.replica.plain) (whole_for how)) (length old.connections.items) is refl refl)
    (restarted old lost new place how m did held connections session worlds_same ∙ sym (ap (restart_by (part_worlds old) (plain_system old) how) (found-at old place view m sound at same)))

-- ---- Found

abbrev pub founded_member : Parts → ℕ → Member
founded_member p view =
    record { view = view; replica = with_plain (founded_replica (arc_value p.program) p.id.0 view) (joining (new_replica (part_worlds p) view) Fresh); newest = length p.connections.items }

pub found-takes : (old new : Parts) (view : ℕ) → IsSound old → IsTypedStep (Found view) → view ≢ 0 → IsNoneOf view (map member_view old.members.items) → new.program ≡ old.program → new.id ≡ old.id → new.session.plain ≡ old.session.plain
    → new.members.items ≡ old.members.items ++ founded_member old view ∷ []
    → new.connections.items ≡ old.connections.items ++ connecting view (join_frame (part_worlds old) (new_replica (part_worlds old) view) Fresh) ∷ [] → Takes old new (Found view)
found-takes old new view sound typed named absent program name session members connections =
    let classes = arc_value old.program in
    record {
      typed = typed;
      spelled = tt;
      program = program;
      session = name;
      sound =
          stays-sound old new (old.members.items ++ founded_member old view ∷ []) sound program name members
          (all-push (IsMember classes old.id.0) old.members.items (founded_member old view) sound.members (record { program = refl; session = refl; viewed = refl; whole = refl }))
          (subst AreApart (sym (map-push member_view old.members.items (founded_member old view))) (apart-push (map member_view old.members.items) view sound.apart absent));
      system =
          ap (λ held. let s : System WorldRecord PlainOutgoing = record { session = held; clients = map plain_client new.members.items; connections = new.connections.items } in s) session
          ∙ ap (λ cs. let s : System WorldRecord PlainOutgoing = record { session = old.session.plain; clients = cs; connections = new.connections.items } in s) (ap (map plain_client) members ∙ map-push plain_client old.members.items (founded_member old view))
          ∙ ap (λ cs. let s : System WorldRecord PlainOutgoing = record { session = old.session.plain; clients = (plain_system old).clients ++ plain_client (founded_member old view) ∷ []; connections = cs } in s) connections
          ∙ sym (found_row (part_worlds old) (plain_system old) view named (absent-in old view sound absent));
    }
