-- The steps of the parts of a system that put a snapshot or a JOIN on a connection.
use Rattle.std.proofs.Common.{ℕ, ◌≡◌, ◌≢◌, ◌≤◌, ◌<◌, Bool, true, false, List, [], ◌∷◌, ◌++◌, Some, None, Ok, get_or, length, map, set, slice_get, refl, sym, ap, ◌∙◌, subst}
use Rattle.std.specs.Arc.{arc_value}
use Rattle.std.proofs.lemmas.Option.{get_or_from_slice_get, slice_get_past, slice_get_read}
use Rattle.model_solved.specs.Founding.{CheckedView}
use Rattle.world_plain.specs.Messages.{PlainOutgoing}
use Rattle.world_plain.specs.World.{WorldRecord}
use Rattle.wire_frames.specs.declared.frame.ClientFrame.{ClientFrame}
use Rattle.wire_frames.specs.declared.frame.ClientFrame.TheVariants as up
use Rattle.replica_plain.specs.declared.how.How.TheVariants.{Fresh}
use Rattle.replica_plain.specs.Worlds.{Worlds}
use Rattle.replica_plain.specs.Calls.{join_frame, joining, loses, snap_frame}
use Rattle.replica.specs.RealWorlds.{worlds}
use Rattle.replica.specs.SessionWorlds.{Snaps}
use Rattle.replica.specs.View.{ReplicaView, founded_replica, with_plain, world_part, worlds_of}
use Rattle.system_plain.specs.System.{Connection, System, connecting, is_open, put_up}
use Rattle.system_plain.specs.Steps.{Found, Snap, snap_by}
use Rattle.system_plain.specs.Schedule.{IsTypedStep}
use Rattle.system_core.specs.declared.member.Member.{Member}
use Rattle.system_core.specs.declared.parts.Parts.{Parts}
use Rattle.system_core.specs.Parts.{HasMember, IsNoneOf, IsMember, IsMemberPlace, IsSound, Takes, member_view, part_worlds, plain_client, plain_system}
use Rattle.system_core.specs.Systems.{IsReplicaOf, SystemView, system_view}
use Rattle.system_core.proofs.Members.{get-set}
use Rattle.system_core.proofs.PartSteps.{absent-in, found-at, found-takes, founded_member, is-member-with, keeps-members, lost_member, member-at, snaps, snaps-none, snaps-shut, spells-lost, spells-none, spells-open, spells-shut, unmade, worlds-at}
use Rattle.system_core.proofs.PartTakes.{read-member, read-twice}

-- ---- Snap

pub snap-absent : (p : Parts) (view : ℕ) → IsSound p → IsNoneOf view (map member_view p.members.items) → Takes p p (Snap view)
snap-absent p view sound absent =
    let none = absent-in p view sound absent in
    unmade p (Snap view) sound tt (spells-none (part_worlds p) (plain_system p) view none) (ap (snap_by (part_worlds p) (plain_system p)) none)

pub snap-lost : (p : Parts) (k view : ℕ) (x : Member) → IsSound p → IsMemberPlace (Some k) p.members.items view → x ≡ get_or p.members.items k x → length p.connections.items ≤ x.newest → Takes p p (Snap view)
snap-lost p k view x sound placed is past =
    let read = read-member p.members.items k view x placed is in
    let found = found-at p k view x sound read.0 read.1 in
    let none = slice_get_past p.connections.items x.newest past in
    unmade p (Snap view) sound tt (spells-lost (part_worlds p) (plain_system p) view (plain_client x) found none) (snaps-none (part_worlds p) (plain_system p) view (plain_client x) found none)

pub snap-shut : (p : Parts) (k view : ℕ) (x : Member) (c : Connection) → IsSound p → IsMemberPlace (Some k) p.members.items view → x ≡ get_or p.members.items k x → x.newest < length p.connections.items → c ≡ get_or p.connections.items x.newest c → is_open c ≡ false
    → Takes p p (Snap view)
snap-shut p k view x c sound placed is within at shut =
    let read = read-member p.members.items k view x placed is in
    let found = found-at p k view x sound read.0 read.1 in
    let there = slice_get_read p.connections.items _ x.newest c refl within at in
    unmade p (Snap view) sound tt (spells-shut (part_worlds p) (plain_system p) view (plain_client x) c found there shut) (snaps-shut (part_worlds p) (plain_system p) view (plain_client x) c found there shut)

pub snap-takes : (old new : Parts) (k view : ℕ) (x y z : Member) (c d after : Connection) (time : ℕ) (bytes : List ℕ) (frames : List ClientFrame) → IsSound old → IsMemberPlace (Some k) old.members.items view
    → x ≡ get_or old.members.items k x → y ≡ get_or old.members.items k y → z ≡ get_or old.members.items k z → x.newest < length old.connections.items → c ≡ get_or old.connections.items x.newest c → d ≡ get_or old.connections.items x.newest d
    → is_open c ≡ true → time ≡ y.replica.plain.world.time → Snaps (Ok bytes) (world_part z.replica) → frames ≡ up.Snap time bytes ∷ [] → after ≡ put_up d frames
    → new.program ≡ old.program → new.id ≡ old.id → new.members.items ≡ old.members.items → new.session.plain ≡ old.session.plain → new.connections.items ≡ set old.connections.items x.newest after → Takes old new (Snap view)
snap-takes old new k view x y z c d after time bytes frames sound placed read read_y read_z within at at_again opened timed snapped frames_are after_is program name members held connections =
    let found = read-member old.members.items k view x placed read in
    let m = part_worlds old in
    let world = x.replica.plain.world in
    let client = found-at old k view x sound found.0 found.1 in
    let there = slice_get_read old.connections.items _ x.newest c refl within at in
    let is : Snaps (Ok bytes) (world_part x.replica) = subst (λ (r : Member). Snaps (Ok bytes) (world_part r.replica)) (read-twice old.members.items k view z x placed read_z read) snapped in
    let time_is : time ≡ world.time = timed ∙ ap (λ (r : Member). r.replica.plain.world.time) (read-twice old.members.items k view y x placed read_y read) in
    let own = worlds-at old k x sound found.0 in
    let spelled : m.unsnap (m.snapshot world) ≡ Some world = sym (ap m.unsnap is.1) ∙ ap (λ (w : Worlds WorldRecord PlainOutgoing). w.unsnap bytes) (sym own) ∙ is.3 in
    let frames_is : frames ≡ snap_frame m x.replica.plain ∷ [] = frames_are ∙ ap (λ t. up.Snap t bytes ∷ []) time_is ∙ ap (λ b. up.Snap world.time b ∷ []) is.1 in
    let d_is : d ≡ c = at_again ∙ get_or_from_slice_get old.connections.items x.newest c d there in
    let all : new.connections.items ≡ set old.connections.items x.newest (put_up c (snap_frame m x.replica.plain ∷ [])) =
    connections ∙ ap (set old.connections.items x.newest) (after_is ∙ ap (λ (b : Connection). put_up b frames) d_is ∙ ap (put_up c) frames_is) in
    keeps-members old new (Snap view) sound tt (spells-open m (plain_system old) view (plain_client x) c client there spelled) program name members
    (ap (λ s. let t : System WorldRecord PlainOutgoing = record { session = s; clients = (plain_system old).clients; connections = new.connections.items } in t) held
    ∙ ap (λ cs. let t : System WorldRecord PlainOutgoing = record { session = old.session.plain; clients = (plain_system old).clients; connections = cs } in t) all
    ∙ snaps m (plain_system old) view (plain_client x) c client there opened)

-- ---- a member joins by a new connection

-- ---- a member lost its world

pub lost-members : (old : Parts) (members : List Member) (k view : ℕ) (x : Member) (replica : ReplicaView) → IsSound old → IsMemberPlace (Some k) old.members.items view → x ≡ get_or old.members.items k x
    → replica ≡ with_plain x.replica (loses (worlds_of x.replica) x.replica.plain) → members ≡ set old.members.items k (record { view = x.view; replica = replica; newest = x.newest }) → members ≡ set old.members.items k (lost_member old x)
lost-members old members k view x replica sound placed read lost is =
    let found = read-member old.members.items k view x placed read in
    is ∙ ap (λ (r : ReplicaView). set old.members.items k (let t : Member = record { view = x.view; replica = r; newest = x.newest } in t))
    (lost ∙ ap (λ w. with_plain x.replica (loses w x.replica.plain)) (worlds-at old k x sound found.0))

pub lost-has : (old lost : Parts) (k view : ℕ) (x : Member) → IsSound old → IsMemberPlace (Some k) old.members.items view → x ≡ get_or old.members.items k x → lost.program ≡ old.program → lost.id ≡ old.id
    → lost.members.items ≡ set old.members.items k (lost_member old x) → HasMember lost k
lost-has old lost k view x sound placed read program name members =
    let found = read-member old.members.items k view x placed read in
    let is = member-at old k x sound found.0 in
    let made = is-member-with (arc_value old.program) old.id.0 x (loses (part_worlds old) x.replica.plain) x.newest is refl refl in (
      lost_member old x,
      ap (λ (ms : List Member). slice_get ms k) members ∙ get-set old.members.items k x (lost_member old x) found.0,
      subst (λ held. IsMember (arc_value held) lost.id.0 (lost_member old x)) (sym program) (subst (λ id. IsMember (arc_value old.program) id.0 (lost_member old x)) (sym name) made),
    )

-- ---- Found

pub found-made : (old new : Parts) (view newest : ℕ) (classes : CheckedView) (r after : ReplicaView) (frame : ClientFrame) (c : Connection) → IsSound old → IsTypedStep (Found view) → view ≢ 0 → IsNoneOf view (map member_view old.members.items)
    → classes ≡ arc_value old.program → r ≡ founded_replica classes old.id.0 view → after ≡ with_plain r (joining r.plain Fresh) → frame ≡ join_frame (worlds_of r) r.plain Fresh → newest ≡ length old.connections.items → c ≡ connecting view frame
    → new.program ≡ old.program → new.id ≡ old.id → new.session.plain ≡ old.session.plain → new.members.items ≡ old.members.items ++ record { view = view; replica = after; newest = newest } ∷ [] → new.connections.items ≡ old.connections.items ++ c ∷ []
    → Takes old new (Found view)
found-made old new view newest classes r after frame c sound typed named absent same made joined frame_is newest_is c_is program name session members connections =
    let made_of : r ≡ founded_replica (arc_value old.program) old.id.0 view = made ∙ ap (λ held. founded_replica held old.id.0 view) same in
    let after_is = joined ∙ ap (λ (q : ReplicaView). with_plain q (joining q.plain Fresh)) made_of in
    let sent = frame_is ∙ ap (λ (q : ReplicaView). join_frame (worlds_of q) q.plain Fresh) made_of in
    found-takes old new view sound typed named absent program name session
    (members ∙ ap (λ (q : ReplicaView). old.members.items ++ (let m : Member = record { view = view; replica = q; newest = newest } in m) ∷ []) after_is
    ∙ ap (λ n. old.members.items ++ (let m : Member = record { view = view; replica = (founded_member old view).replica; newest = n } in m) ∷ []) newest_is)
    (connections ∙ ap (λ d. old.connections.items ++ d ∷ []) (c_is ∙ ap (connecting view) sent))

-- ---- the replica of a view

pub replica-none : (p : Parts) (spoilt : Bool) (s : SystemView) (view : ℕ) → s ≡ system_view p spoilt → IsSound p → IsNoneOf view (map member_view p.members.items) → IsReplicaOf None s view
replica-none p spoilt s view is sound absent = subst (λ (t : SystemView). IsReplicaOf None t view) (sym is) (λ whole. absent-in p view sound absent)

pub replica-some : (p : Parts) (spoilt : Bool) (s : SystemView) (k view : ℕ) (x : Member) → s ≡ system_view p spoilt → spoilt ≡ false → IsSound p → IsMemberPlace (Some k) p.members.items view → x ≡ get_or p.members.items k x → IsReplicaOf (Some x.replica) s view
replica-some p spoilt s k view x is whole sound placed read =
    let found = read-member p.members.items k view x placed read in
    let member = member-at p k x sound found.0 in
    let same : x.replica ≡ record { program = arc_value p.program; id = p.id.0; plain = x.replica.plain } =
    ap (λ held. let r : ReplicaView = record { program = held; id = x.replica.id; plain = x.replica.plain } in r) member.program
    ∙ ap (λ held. let r : ReplicaView = record { program = arc_value p.program; id = held; plain = x.replica.plain } in r) member.session in
    subst (λ (t : SystemView). IsReplicaOf (Some x.replica) t view) (sym is) (plain_client x, whole, found-at p k view x sound found.0 found.1, same)
