use Rattle.std.proofs.Common.{◌≡◌, ◌++◌, List, ℕ, None, take, vec_len, length, sym, ap, ◌∙◌, subst, arith, rules}
use Rattle.reflector_core.specs.declared.keeper.NoKeeper.{NoKeeper}
use Rattle.run_steps.specs.Outside.{links_tell, net_tells}
use Rattle.host_server.specs.Prepares.{AreClosed}
use Rattle.host_server.specs.Rounds.{ends_in}
use Rattle.host_server.specs.Rows.{AtEach, IsWhole}
use Rattle.host_server.specs.declared.accepting.HostRound.{HostRound}
use Rattle.host_server.specs.declared.hosting.HostEnd.{HostEnd}
use Rattle.host_server.proofs.Finals.{begun_keeps, begun_of, hosted_all, over_by, served_lent, whole_again}
use Rattle.host_server.proofs.running.host_all.Goals as goal

pub accept_all-net-requires-clause-rooms : goal.accept_all-net-requires-clause-rooms
accept_all-net-requires-clause-rooms g c κs within =
    rw c.as_slice.ensures.value (record { count = c.requires.prepared.rooms; some = c.requires.ids.0; few = c.requires.ids.1 })

pub accept_all-net-requires-clause-leads : goal.accept_all-net-requires-clause-leads
accept_all-net-requires-clause-leads g c κs within =
    rw c.as_slice.ensures.value (begun_of c.args.host.now.connections c.args.prepared.rooms.items c.args.prepared.lead.seats.items c.requires.prepared.leads)

pub accept_all-net-requires-clause-claims : goal.accept_all-net-requires-clause-claims
accept_all-net-requires-clause-claims g c κs within = c.requires.prepared.claim.claims

pub accept_all-net-requires-clause-kept : goal.accept_all-net-requires-clause-kept
accept_all-net-requires-clause-kept g c κs within =
    begun_keeps c.args.host.now.connections c.args.prepared.rooms.items c.args.prepared.lead.seats.items c.requires.prepared.leads

pub accept_all-net-requires-clause-rows : goal.accept_all-net-requires-clause-rows
accept_all-net-requires-clause-rows g c κs within = c.requires.prepared.rows

pub close-requires-clause-claims : goal.close-requires-clause-claims
close-requires-clause-claims g c = c.accept_all-net.ensures.claim.claims ∙ c.requires.prepared.claim.claims

pub close-requires-clause-whole : goal.close-requires-clause-whole
close-requires-clause-whole g c =
    let parts = c.accept_all-net.ensures.claim.parts in
    let given = c.requires.prepared.claim.parts in
    let count = c.requires.prepared.count in
    omega (arith, parts, given, count)

pub give_back-requires-clause-lent : goal.give_back-requires-clause-lent
give_back-requires-clause-lent g c =
    let gives = g.C.Clock.gives c.args.host.now.clock.now in
    let tells = net_tells {N = g.row.N.Denot} {L = g.row.N-Conn.Denot} g.N.Net in
    let links = links_tell {L = g.row.N-Conn.Denot} g.N.Conn.Link in
    let listed = c.args.host.now.ids.now in
    let on_demand = c.args.host.now.on_demand in
    let prepared = c.args.prepared in
    let mid = c.accept_all-net.result in
    let before : HostRound g.row.N.Denot g.row.N-Conn.Denot NoKeeper = record { net = c.args.net; lead = prepared.lead; served = prepared.served; stopped = None } in
    let over = over_by gives listed c.from_vec-ids.result on_demand tells links prepared.rooms.items c.args.host.now.connections before mid (vec_len prepared.rows) prepared.claims c.close.result.items c.requires.prepared.count
    c.requires.prepared.claims c.from_vec-ids.ensures c.requires.prepared.rooms c.requires.prepared.claim c.accept_all-net.ensures.claim c.close.ensures (rw c.as_slice.ensures.value at c.accept_all-net.ensures.round) in
    let as_long : vec_len mid.served ≡ length mid.served.items = search rules in
    let lent = served_lent gives c.from_vec-ids.result on_demand tells links prepared.rooms.items c.args.host.now.connections before mid over.round in
    omega (arith, as_long, lent)

pub give_back-requires-clause-room : goal.give_back-requires-clause-room
give_back-requires-clause-room g c =
    let as_long : vec_len c.accept_all-net.result.served ≡ length c.accept_all-net.result.served.items = search rules in
    let ends : vec_len c.args.prepared.ends ≡ length c.args.prepared.ends.items = search rules in
    let none = ap length c.requires.prepared.none_ended in
    let few = c.accept_all-net.ensures.few in
    let count = c.requires.prepared.count in
    let room = c.requires.prepared.room_for_ends in
    omega (arith, as_long, ends, none, few, count, room)

pub close_made-requires-clause-leads : goal.close_made-requires-clause-leads
close_made-requires-clause-leads g c =
    let gives = g.C.Clock.gives c.args.host.now.clock.now in
    let tells = net_tells {N = g.row.N.Denot} {L = g.row.N-Conn.Denot} g.N.Net in
    let links = links_tell {L = g.row.N-Conn.Denot} g.N.Conn.Link in
    let listed = c.args.host.now.ids.now in
    let on_demand = c.args.host.now.on_demand in
    let prepared = c.args.prepared in
    let mid = c.accept_all-net.result in
    let before : HostRound g.row.N.Denot g.row.N-Conn.Denot NoKeeper = record { net = c.args.net; lead = prepared.lead; served = prepared.served; stopped = None } in
    let over = over_by gives listed c.from_vec-ids.result on_demand tells links prepared.rooms.items c.args.host.now.connections before mid (vec_len prepared.rows) prepared.claims c.close.result.items c.requires.prepared.count
    c.requires.prepared.claims c.from_vec-ids.ensures c.requires.prepared.rooms c.requires.prepared.claim c.accept_all-net.ensures.claim c.close.ensures (rw c.as_slice.ensures.value at c.accept_all-net.ensures.round) in
    subst (λ (n : ℕ). AtEach IsWhole (take n prepared.rooms.items) (take n mid.lead.seats.items)) (sym c.len-made.ensures)
    (whole_again gives c.from_vec-ids.result on_demand tells links prepared.rooms.items c.args.host.now.connections before mid c.requires.prepared.leads over.round over.fits)

pub returns : goal.returns
returns g c =
    let gives = g.C.Clock.gives c.args.host.now.clock.now in
    let tells = net_tells {N = g.row.N.Denot} {L = g.row.N-Conn.Denot} g.N.Net in
    let links = links_tell {L = g.row.N-Conn.Denot} g.N.Conn.Link in
    let listed = c.args.host.now.ids.now in
    let on_demand = c.args.host.now.on_demand in
    let prepared = c.args.prepared in
    let mid = c.accept_all-net.result in
    let before : HostRound g.row.N.Denot g.row.N-Conn.Denot NoKeeper = record { net = c.args.net; lead = prepared.lead; served = prepared.served; stopped = None } in
    let over = over_by gives listed c.from_vec-ids.result on_demand tells links prepared.rooms.items c.args.host.now.connections before mid (vec_len prepared.rows) prepared.claims c.close.result.items c.requires.prepared.count
    c.requires.prepared.claims c.from_vec-ids.ensures c.requires.prepared.rooms c.requires.prepared.claim c.accept_all-net.ensures.claim c.close.ensures (rw c.as_slice.ensures.value at c.accept_all-net.ensures.round) in
    let back = c.give_back.ensures in
    let as_long : vec_len mid.served ≡ length mid.served.items = search rules in
    hosted_all gives listed c.from_vec-ids.result on_demand tells links prepared.rooms.items c.args.host.now.connections before mid c.give_back.new.net c.requires.prepared.leads over
    c.from_vec-sessions.result c.from_vec-ends.result
    (record { over = back.over; counts = back.counts; lent = back.lent; coming = back.coming; asked = back.asked; faults = back.faults }) as_long
    (c.from_vec-ends.ensures ∙ (back.ends ∙ ap (λ (l : List HostEnd). l ++ ends_in mid.served.items) c.requires.prepared.none_ended))
    (subst (AreClosed (take (length c.from_vec-ids.result) mid.lead.seats.items)) (sym c.from_vec-sessions.ensures) (rw c.len-made.ensures at c.close_made.ensures))
