-- The steps of the parts of a system that go by a connection's number or by a replica's call.
use Rattle.std.proofs.Common.{ℕ, ◌≡◌, ◌≤◌, ◌<◌, Bool, true, false, ◌&&◌, Result, Ok, Err, List, Option, Some, None, get_or, length, map, set, slice_get, take, nat_le, nat_lt, refl, sym, ap, ◌∙◌, arith}
use Rattle.std.specs.Prelude.{⊤}
use Rattle.std.specs.Arc.{arc_value}
use Rattle.std.proofs.lemmas.Bool.Decides.{nat_tests}
use Rattle.std.proofs.lemmas.Option.{slice_get_past, slice_get_read}
use Rattle.tea_base.specs.Limits.{most_payload}
use Rattle.world_plain.specs.Messages.{PlainOutgoing}
use Rattle.world_plain.specs.World.{WorldRecord}
use Rattle.wire_frames.specs.declared.frame.ServerFrame.{ServerFrame}
use Rattle.reflector_core.specs.PlainSession.{PlainSession}
use Rattle.reflector_core.specs.Answer.{answer}
use Rattle.reflector_core.specs.declared.request.Request.TheVariants as request
use Rattle.replica_plain.specs.PlainReplica.{PlainReplica, most_published, published_count}
use Rattle.replica_plain.specs.declared.fault.ReplicaFault.{ReplicaFault}
use Rattle.replica_plain.specs.declared.fault.ReplicaFault.TheVariants as cause
use Rattle.replica_plain.specs.Taking.{IsTaken, Taken, taken}
use Rattle.replica_plain.specs.Calls.{publishes}
use Rattle.replica.specs.View.{ReplicaView, with_plain, worlds_of}
use Rattle.system_plain.specs.System.{Connection, System, closing, with_client, with_connection, with_down, with_up}
use Rattle.system_plain.specs.Steps.{SystemStep, Cut, Publish, Pull, Receive, Take, Tick, after_pull, after_step, after_take, both, cut_on, may_publish, publish_by, pull_on, receive_by, take_on, with_both}
use Rattle.system_plain.specs.Schedule.{IsTypedStep, SpellsWorld}
use Rattle.system_plain.proofs.Receives.{taken_view}
use Rattle.system_core.specs.declared.member.Member.{Member}
use Rattle.system_core.specs.declared.parts.Parts.{Parts}
use Rattle.system_core.specs.Parts.{IsNoneOf, IsNoWant, IsMemberPlace, IsSound, Takes, member_view, part_worlds, plain_client, plain_system}
use Rattle.system_core.specs.InFlight.{IsNextDown}
use Rattle.system_plain.proofs.Turns.{set_same}
use Rattle.system_core.proofs.PartSteps.{absent-in, changes, found-at, is-member-with, keeps-members, member-at, publishes-not, publishes-step, receives, receives-none, receives-nothing, unmade, worlds-at}
use Rattle.system_core.proofs.PartTakes.{read-member, read-twice}
use Rattle.system_core.proofs.WholeReplicas.{taken_whole}

-- ---- Take, Tick, Pull

abbrev system_of : PlainSession → Parts → List Connection → System WorldRecord PlainOutgoing
system_of session p connections = record { session = session; clients = (plain_system p).clients; connections = connections }

-- a turn puts its session and its connection back
turn-takes : (old new : Parts) (step : SystemStep) (number : ℕ) (after : Connection) (session : PlainSession) (turned : PlainSession × Connection) → IsSound old → IsTypedStep step → SpellsWorld (part_worlds old) (plain_system old) step
    → both session after ≡ turned → new.program ≡ old.program → new.id ≡ old.id → new.members.items ≡ old.members.items → new.session.plain ≡ session → new.connections.items ≡ set old.connections.items number after
    → with_both (plain_system old) number turned ≡ after_step (part_worlds old) (plain_system old) step → Takes old new step
turn-takes old new step number after session turned sound typed spelled is program name members held connections made =
    keeps-members old new step sound typed spelled program name members
    (ap (λ s. system_of s old new.connections.items) held ∙ ap (system_of session old) connections ∙ ap (with_both (plain_system old) number) is ∙ made)

pub take-past : (p : Parts) (number now : ℕ) → IsSound p → length p.connections.items ≤ number → Takes p p (Take number now)
take-past p number now sound past = unmade p (Take number now) sound tt tt (ap (λ c. take_on (part_worlds p) (plain_system p) number c now) (slice_get_past p.connections.items number past))

pub take-takes : (old new : Parts) (number now : ℕ) (c after : Connection) (session : PlainSession) → IsSound old → number < length old.connections.items → c ≡ get_or old.connections.items number c
    → both session after ≡ after_take old.id old.session.plain c now → new.program ≡ old.program → new.id ≡ old.id → new.members.items ≡ old.members.items
    → new.session.plain ≡ session → new.connections.items ≡ set old.connections.items number after → Takes old new (Take number now)
take-takes old new number now c after session sound within at is program name members held connections =
    turn-takes old new (Take number now) number after session (after_take old.id old.session.plain c now) sound tt tt is program name members held connections
    (sym (ap (λ found. take_on (part_worlds old) (plain_system old) number found now) (slice_get_read old.connections.items _ number c refl within at)))

pub tick-takes : (old new : Parts) (now : ℕ) → IsSound old → new.program ≡ old.program → new.id ≡ old.id → new.members.items ≡ old.members.items
    → new.session.plain ≡ (answer old.session.plain (request.Tick now)).session → new.connections.items ≡ old.connections.items → Takes old new (Tick now)
tick-takes old new now sound program name members held connections =
    keeps-members old new (Tick now) sound tt tt program name members
    (ap (λ s. system_of s old new.connections.items) held ∙ ap (system_of (answer old.session.plain (request.Tick now)).session old) connections)

pub pull-past : (p : Parts) (number : ℕ) → IsSound p → length p.connections.items ≤ number → Takes p p (Pull number)
pull-past p number sound past = unmade p (Pull number) sound tt tt (ap (pull_on (plain_system p) number) (slice_get_past p.connections.items number past))

pub pull-takes : (old new : Parts) (number : ℕ) (c after : Connection) (session : PlainSession) → IsSound old → number < length old.connections.items → c ≡ get_or old.connections.items number c
    → both session after ≡ after_pull old.session.plain c → new.program ≡ old.program → new.id ≡ old.id → new.members.items ≡ old.members.items
    → new.session.plain ≡ session → new.connections.items ≡ set old.connections.items number after → Takes old new (Pull number)
pull-takes old new number c after session sound within at is program name members held connections =
    turn-takes old new (Pull number) number after session (after_pull old.session.plain c) sound tt tt is program name members held connections
    (sym (ap (pull_on (plain_system old) number) (slice_get_read old.connections.items _ number c refl within at)))

-- ---- Cut

pub cut-past : (p : Parts) (number up down : ℕ) → IsSound p → length p.connections.items ≤ number → Takes p p (Cut number up down)
cut-past p number up down sound past = unmade p (Cut number up down) sound tt tt (ap (cut_on (plain_system p) number up down) (slice_get_past p.connections.items number past))

pub cut-takes : (old new : Parts) (number up down : ℕ) (c after : Connection) → IsSound old → number < length old.connections.items → c ≡ get_or old.connections.items number c
    → after ≡ closing (with_down (with_up c (take up c.up)) (take down c.down)) → new.program ≡ old.program → new.id ≡ old.id → new.members.items ≡ old.members.items
    → new.session.plain ≡ old.session.plain → new.connections.items ≡ set old.connections.items number after → Takes old new (Cut number up down)
cut-takes old new number up down c after sound within at is program name members held connections =
    keeps-members old new (Cut number up down) sound tt tt program name members
    (ap (λ s. system_of s old new.connections.items) held ∙ ap (system_of old.session.plain old) connections ∙ ap (with_connection (plain_system old) number) is
    ∙ sym (ap (cut_on (plain_system old) number up down) (slice_get_read old.connections.items _ number c refl within at)))

-- ---- Receive

pub receive-absent : (p : Parts) (view : ℕ) → IsSound p → IsNoneOf view (map member_view p.members.items) → Takes p p (Receive view)
receive-absent p view sound absent = unmade p (Receive view) sound tt tt (ap (receive_by (part_worlds p) (plain_system p)) (absent-in p view sound absent))

pub receive-lost : (p : Parts) (k view : ℕ) (x : Member) → IsSound p → IsMemberPlace (Some k) p.members.items view → x ≡ get_or p.members.items k x → length p.connections.items ≤ x.newest → Takes p p (Receive view)
receive-lost p k view x sound placed is past =
    let read = read-member p.members.items k view x placed is in
    unmade p (Receive view) sound tt tt
    (receives-none (part_worlds p) (plain_system p) view (plain_client x) (found-at p k view x sound read.0 read.1) (slice_get_past p.connections.items x.newest past))

-- no frame is in flight: what was looked at is as it was
pub receive-nothing : (old new : Parts) (k view : ℕ) (x : Member) (c after : Connection) → IsSound old → IsMemberPlace (Some k) old.members.items view → x ≡ get_or old.members.items k x
    → x.newest < length old.connections.items → c ≡ get_or old.connections.items x.newest c → IsNextDown None c after
    → new.program ≡ old.program → new.id ≡ old.id → new.members.items ≡ old.members.items → new.session.plain ≡ old.session.plain → new.connections.items ≡ set old.connections.items x.newest after → Takes old new (Receive view)
receive-nothing old new k view x c after sound placed is within at next program name members held connections =
    let read = read-member old.members.items k view x placed is in
    let there = slice_get_read old.connections.items _ x.newest c refl within at in
    keeps-members old new (Receive view) sound tt tt program name members
    (ap (λ s. system_of s old new.connections.items) held
    ∙ ap (system_of old.session.plain old) (connections ∙ ap (set old.connections.items x.newest) next.1 ∙ set_same old.connections.items x.newest c there)
    ∙ sym (receives-nothing (part_worlds old) (plain_system old) view (plain_client x) c (found-at old k view x sound read.0 read.1) there next.0))

pub receive-takes : (old new : Parts) (k view : ℕ) (x y : Member) (c after : Connection) (frame : ServerFrame) (replica : ReplicaView) → IsSound old → IsMemberPlace (Some k) old.members.items view
    → x ≡ get_or old.members.items k x → y ≡ get_or old.members.items k y → x.newest < length old.connections.items → c ≡ get_or old.connections.items x.newest c → IsNextDown (Some frame) c after
    → replica ≡ with_plain y.replica replica.plain → replica.plain ≡ (taken (worlds_of y.replica) y.replica.plain frame).replica
    → new.program ≡ old.program → new.id ≡ old.id → new.session.plain ≡ old.session.plain
    → new.members.items ≡ set old.members.items k (record { view = y.view; replica = replica; newest = y.newest }) → new.connections.items ≡ set old.connections.items x.newest after → Takes old new (Receive view)
receive-takes old new k view x y c after frame replica sound placed read read_again within at next keeps made program name held members connections =
    let e : x ≡ y = read-twice old.members.items k view x y placed read read_again in
    let found = read-member old.members.items k view y placed read_again in
    let is = member-at old k y sound found.0 in
    let plain = (taken (part_worlds old) y.replica.plain frame).replica in
    let plain_is : replica.plain ≡ plain = made ∙ ap (λ m. (taken m y.replica.plain frame).replica) (worlds-at old k y sound found.0) in
    let there : slice_get old.connections.items y.newest ≡ Some c = ap (λ (m : Member). slice_get old.connections.items m.newest) (sym e) ∙ slice_get_read old.connections.items _ x.newest c refl within at in
    let changed : Member = record { view = y.view; replica = with_plain y.replica plain; newest = y.newest } in
    let all : new.connections.items ≡ set old.connections.items y.newest (with_down c after.down) =
    connections ∙ ap (λ (m : Member). set old.connections.items m.newest after) e ∙ ap (set old.connections.items y.newest) next.1 in
    changes old new (Receive view) k y changed sound tt tt program name found.0
    (members ∙ ap (λ (r : ReplicaView). set old.members.items k (let m : Member = record { view = y.view; replica = r; newest = y.newest } in m)) (keeps ∙ ap (with_plain y.replica) plain_is)) refl
    (is-member-with (arc_value old.program) old.id.0 y plain y.newest is (taken_view (part_worlds old) y.replica.plain frame) (taken_whole (part_worlds old) y.replica.plain frame is.whole))
    (ap (λ s. let x : System WorldRecord PlainOutgoing = record { session = s; clients = with_client (plain_system old).clients (plain_client changed); connections = new.connections.items } in x) held
    ∙ ap (λ cs. let x : System WorldRecord PlainOutgoing = record { session = old.session.plain; clients = with_client (plain_system old).clients (plain_client changed); connections = cs } in x) all
    ∙ receives (part_worlds old) (plain_system old) view (plain_client y) c frame after.down (found-at old k view y sound found.0 found.1) there next.0)

-- ---- Publish

pub publish-absent : (p : Parts) (view : ℕ) (payload : List ℕ) → IsSound p → IsNoneOf view (map member_view p.members.items) → Takes p p (Publish view payload)
publish-absent p view payload sound absent = unmade p (Publish view payload) sound tt tt (ap (publish_by (plain_system p) payload) (absent-in p view sound absent))

may-be : (len most count top : ℕ) → len ≤ most → count < top → nat_le len most && nat_lt count top ≡ true
may-be len most count top short few = let a : nat_le len most ≡ true = grind (arith, nat_tests) in let b : nat_lt count top ≡ true = grind (arith, nat_tests) in rw (a, b) refl

pub publish-takes : (old new : Parts) (k view : ℕ) (y : Member) (payload : List ℕ) (replica : ReplicaView) → IsSound old → IsMemberPlace (Some k) old.members.items view → y ≡ get_or old.members.items k y
    → length payload ≤ most_payload → published_count y.replica.plain < most_published → replica ≡ with_plain y.replica replica.plain → replica.plain ≡ publishes y.replica.plain payload
    → new.program ≡ old.program → new.id ≡ old.id → new.session.plain ≡ old.session.plain → new.connections.items ≡ old.connections.items
    → new.members.items ≡ set old.members.items k (record { view = y.view; replica = replica; newest = y.newest }) → Takes old new (Publish view payload)
publish-takes old new k view y payload replica sound placed read short few keeps made program name held connections members =
    let found = read-member old.members.items k view y placed read in
    let is = member-at old k y sound found.0 in
    let plain = publishes y.replica.plain payload in
    let changed : Member = record { view = y.view; replica = with_plain y.replica plain; newest = y.newest } in
    changes old new (Publish view payload) k y changed sound tt tt program name found.0
    (members ∙ ap (λ (r : ReplicaView). set old.members.items k (let m : Member = record { view = y.view; replica = r; newest = y.newest } in m)) (keeps ∙ ap (with_plain y.replica) made)) refl
    (is-member-with (arc_value old.program) old.id.0 y plain y.newest is refl is.whole)
    (ap (λ s. let x : System WorldRecord PlainOutgoing = record { session = s; clients = with_client (plain_system old).clients (plain_client changed); connections = new.connections.items } in x) held
    ∙ ap (λ cs. let x : System WorldRecord PlainOutgoing = record { session = old.session.plain; clients = with_client (plain_system old).clients (plain_client changed); connections = cs } in x) connections
    ∙ publishes-step (part_worlds old) (plain_system old) view payload (plain_client y) (found-at old k view y sound found.0 found.1)
    (may-be (length payload) most_payload (published_count y.replica.plain) most_published short few))

-- it is refused: what was looked at is as it was
pub publish-refused : (old new : Parts) (k view : ℕ) (y : Member) (payload : List ℕ) (replica : ReplicaView) → IsSound old → IsMemberPlace (Some k) old.members.items view → y ≡ get_or old.members.items k y
    → may_publish y.replica.plain payload ≡ false → replica ≡ with_plain y.replica replica.plain → replica.plain ≡ y.replica.plain
    → new.program ≡ old.program → new.id ≡ old.id → new.session.plain ≡ old.session.plain → new.connections.items ≡ old.connections.items
    → new.members.items ≡ set old.members.items k (record { view = y.view; replica = replica; newest = y.newest }) → Takes old new (Publish view payload)
publish-refused old new k view y payload replica sound placed read may keeps same program name held connections members =
    let found = read-member old.members.items k view y placed read in
    keeps-members old new (Publish view payload) sound tt tt program name
    (members ∙ ap (λ (r : ReplicaView). set old.members.items k (let m : Member = record { view = y.view; replica = r; newest = y.newest } in m)) (keeps ∙ ap (with_plain y.replica) same) ∙ set_same old.members.items k y found.0)
    (ap (λ s. system_of s old new.connections.items) held ∙ ap (system_of old.session.plain old) connections
    ∙ sym (publishes-not (part_worlds old) (plain_system old) view payload (plain_client y) (found-at old k view y sound found.0 found.1) may))

may-not-long : (len most : ℕ) (few : Bool) → most < len → nat_le len most && few ≡ false
may-not-long len most few long = let a : nat_le len most ≡ false = grind (arith, nat_tests) in rw a refl

pub too-long : (r : PlainReplica WorldRecord PlainOutgoing) (payload : List ℕ) → most_payload < length payload → may_publish r payload ≡ false
too-long r payload long = may-not-long (length payload) most_payload (nat_lt (published_count r) most_published) long

may-not-full : (len most count top : ℕ) → len ≤ most → count ≡ top → nat_le len most && nat_lt count top ≡ false
may-not-full len most count top short full = let a : nat_le len most ≡ true = grind (arith, nat_tests) in let b : nat_lt count top ≡ false = grind (arith, nat_tests) in rw (a, b) refl

pub too-many : (r : PlainReplica WorldRecord PlainOutgoing) (payload : List ℕ) → length payload ≤ most_payload → published_count r ≡ most_published → may_publish r payload ≡ false
too-many r payload short full = may-not-full (length payload) most_payload (published_count r) most_published short full

-- ---- a frame that was taken or refused

-- the replica is that of the table, but for want of memory
pub taken-behind : {W O : Type 0} (result : Result ⊤ ReplicaFault) (lost : Option (PlainReplica W O)) (new : PlainReplica W O) (taken : Taken W O) → IsNoWant result → IsTaken result lost new taken → new ≡ taken.replica
taken-behind (Ok done) lost new taken other is = is.1
taken-behind (Err cause.Unasked) lost new taken other is = is.1
taken-behind (Err (cause.OutOfOrder expected found)) lost new taken other is = is.1
taken-behind (Err (cause.Back time)) lost new taken other is = is.1
taken-behind (Err cause.BadBase) lost new taken other is = is.1
taken-behind (Err cause.Broken) lost new taken other is = is.1
taken-behind (Err (cause.Refused about code kept)) lost new taken other is = is.1
taken-behind (Err cause.WantOfMemory) lost new taken other is = absurd other
