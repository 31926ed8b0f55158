-- The steps of the parts of a system, by what their calls leave.
use Rattle.std.proofs.Common.{ℕ, ◌≡◌, ◌≤◌, ◌<◌, true, false, List, Some, get_or, length, map, set, slice_get, vec_len, Vec, refl, sym, ap, ◌∙◌, arith}
use Rattle.std.specs.Arc.{arc_value}
use Rattle.std.specs.declared.alloc.Global.{Global}
use Rattle.std.proofs.lemmas.Option.{get_or_from_slice_get, slice_get_past, slice_get_read, slice_get_within}
use Rattle.world_plain.specs.Messages.{PlainOutgoing}
use Rattle.world_plain.specs.World.{WorldRecord}
use Rattle.wire_frames.specs.declared.frame.ClientFrame.{ClientFrame}
use Rattle.replica_plain.specs.Calls.{gives, unsent}
use Rattle.replica.specs.View.{ReplicaView, with_plain}
use Rattle.system_plain.specs.System.{Connection, System, is_open, put_up, with_client}
use Rattle.system_plain.specs.Steps.{Transmit, transmit_by}
use Rattle.system_core.specs.declared.member.Member.{Member}
use Rattle.system_core.specs.declared.parts.Parts.{Parts}
use Rattle.system_core.specs.Parts.{IsNoneOf, IsMemberPlace, IsSound, Takes, member_view, part_worlds, plain_client, plain_system}
use Rattle.system_core.proofs.PartSteps.{absent-in, changes, found-at, is-member-with, member-at, transmits, transmits-none, transmits-shut, unmade}

-- ---- what was read

-- a member that was read at the place of a view
pub read-member : (members : List Member) (k view : ℕ) (x : Member) → IsMemberPlace (Some k) members view → x ≡ get_or members k x → (slice_get members k ≡ Some x) × (x.view ≡ view)
read-member members k view x placed is =
    let same : x ≡ placed.0 = is ∙ get_or_from_slice_get members k placed.0 x placed.1 in
    (placed.1 ∙ ap (λ (y : Member). Some y) (sym same), ap (λ (y : Member). y.view) same ∙ placed.2)

-- each time the same
pub read-twice : (members : List Member) (k view : ℕ) (x y : Member) → IsMemberPlace (Some k) members view → x ≡ get_or members k x → y ≡ get_or members k y → x ≡ y
read-twice members k view x y placed is other = is ∙ get_or_from_slice_get members k placed.0 x placed.1 ∙ sym (other ∙ get_or_from_slice_get members k placed.0 y placed.1)

pub placed-within : (members : Vec Member Global) (k view : ℕ) → IsMemberPlace (Some k) members.items view → k < vec_len members
placed-within members k view placed =
    let within = slice_get_within members.items k placed.0 placed.1 in
    let len = members.ok.0 in
    omega (arith, within, len)

-- ---- a place against the count that was read

pub counted-past : {A : Type 0} {count k : ℕ} (xs : Vec A Global) → count ≡ vec_len xs → count ≤ k → length xs.items ≤ k
counted-past xs is past =
    let len = xs.ok.0 in
    omega (arith, len, is, past)

pub counted-within : {A : Type 0} {count k : ℕ} (xs : Vec A Global) → count ≡ vec_len xs → k < count → k < length xs.items
counted-within xs is within =
    let len = xs.ok.0 in
    omega (arith, len, is, within)

-- ---- Transmit

pub transmit-absent : (p : Parts) (view : ℕ) → IsSound p → IsNoneOf view (map member_view p.members.items) → Takes p p (Transmit view)
transmit-absent p view sound absent = unmade p (Transmit view) sound tt tt (ap (transmit_by (plain_system p)) (absent-in p view sound absent))

pub transmit-lost : (p : Parts) (k view : ℕ) (x : Member) → IsSound p → IsMemberPlace (Some k) p.members.items view → x ≡ get_or p.members.items k x → length p.connections.items ≤ x.newest → Takes p p (Transmit view)
transmit-lost p k view x sound placed is past =
    let read = read-member p.members.items k view x placed is in
    unmade p (Transmit view) sound tt tt
    (transmits-none (part_worlds p) (plain_system p) view (plain_client x) (found-at p k view x sound read.0 read.1) (slice_get_past p.connections.items x.newest past))

pub transmit-shut : (p : Parts) (k view : ℕ) (x : Member) (c : Connection) → IsSound p → IsMemberPlace (Some k) p.members.items view → x ≡ get_or p.members.items k x → x.newest < length p.connections.items → c ≡ get_or p.connections.items x.newest c → is_open c ≡ false
    → Takes p p (Transmit view)
transmit-shut p k view x c sound placed is within at shut =
    let read = read-member p.members.items k view x placed is in
    unmade p (Transmit view) sound tt tt
    (transmits-shut (part_worlds p) (plain_system p) view (plain_client x) c (found-at p k view x sound read.0 read.1) (slice_get_read p.connections.items _ x.newest c refl within at) shut)

pub transmit-takes : (old new : Parts) (k view : ℕ) (x y : Member) (c d after : Connection) (replica : ReplicaView) (frames : List ClientFrame) → IsSound old → IsMemberPlace (Some k) old.members.items view
    → x ≡ get_or old.members.items k x → y ≡ get_or old.members.items k y → x.newest < length old.connections.items → c ≡ get_or old.connections.items x.newest c → d ≡ get_or old.connections.items x.newest d → is_open c ≡ true
    → replica ≡ with_plain y.replica (gives y.replica.plain) → frames ≡ unsent y.replica.plain → after ≡ put_up d frames
    → new.program ≡ old.program → new.id ≡ old.id → new.session.plain ≡ old.session.plain
    → new.members.items ≡ set old.members.items k (record { view = y.view; replica = replica; newest = y.newest }) → new.connections.items ≡ set old.connections.items x.newest after → Takes old new (Transmit view)
transmit-takes old new k view x y c d after replica frames sound placed read read_again within at at_again opened given frames_are after_is program name session members connections =
    let e : x ≡ y = read-twice old.members.items k view x y placed read read_again in
    let found = read-member old.members.items k view y placed read_again in
    let is = member-at old k y sound found.0 in
    let at_x : slice_get old.connections.items x.newest ≡ Some c = slice_get_read old.connections.items _ x.newest c refl within at in
    let d_is : d ≡ c = at_again ∙ get_or_from_slice_get old.connections.items x.newest c d at_x in
    let at_y : slice_get old.connections.items y.newest ≡ Some c = ap (λ (m : Member). slice_get old.connections.items m.newest) (sym e) ∙ at_x in
    let changed : Member = record { view = y.view; replica = with_plain y.replica (gives y.replica.plain); newest = y.newest } in
    let all : new.connections.items ≡ set old.connections.items y.newest (put_up c (unsent y.replica.plain)) =
    connections ∙ ap (λ (m : Member). set old.connections.items m.newest after) e
    ∙ ap (λ (a : Connection). set old.connections.items y.newest a) (after_is ∙ ap (λ (b : Connection). put_up b frames) d_is ∙ ap (put_up c) frames_are) in
    changes old new (Transmit view) k y changed sound tt tt program name found.0
    (members ∙ ap (λ (r : ReplicaView). set old.members.items k (let m : Member = record { view = y.view; replica = r; newest = y.newest } in m)) given) refl
    (is-member-with (arc_value old.program) old.id.0 y (gives y.replica.plain) y.newest is refl is.whole)
    (ap (λ held. let s : System WorldRecord PlainOutgoing = record { session = held; clients = with_client (plain_system old).clients (plain_client changed); connections = new.connections.items } in s) session
    ∙ ap (λ cs. let s : System WorldRecord PlainOutgoing = record { session = old.session.plain; clients = with_client (plain_system old).clients (plain_client changed); connections = cs } in s) all
    ∙ transmits (part_worlds old) (plain_system old) view (plain_client y) c (found-at old k view y sound found.0 found.1) at_y opened)
