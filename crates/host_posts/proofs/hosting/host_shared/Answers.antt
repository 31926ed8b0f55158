use Rattle.std.proofs.Common.{◌≡◌, vec_len, length, refl, ◌∙◌, arith, rules}
use Rattle.reflector_core.specs.declared.keeper.NoKeeper.{NoKeeper}
use Rattle.run_steps.specs.Outside.{links_tell, net_tells}
use Rattle.host_server.proofs.Finals.{begun_keeps, begun_of}
use Rattle.host_posts.specs.declared.running.PostRound.{PostRound}
use Rattle.host_posts.specs.Shares.{share_tells, shares_tell}
use Rattle.host_posts.proofs.RoundLaws.{ended_all, ready_all}
use Rattle.host_posts.proofs.Finals.{hosted_all, hosts_unshared, over_by, whole_again}
use Rattle.host_posts.proofs.hosting.host_shared.Goals as goal

pub returns-in-Err : goal.returns-in-Err
returns-in-Err g c =
    let tells = net_tells {N = g.row.N.Denot} {L = g.row.N-Conn.Denot} g.N.Net in
    let parts = shares_tell {N = g.row.N.Denot} {S = g.row.N-Part.Denot} {L = g.row.N-Conn.Denot} g.N.SharedNet.shared g.N.Part.Share in
    let links = links_tell {L = g.row.N-Conn.Denot} g.N.Conn.Link in
    let told = c.in-Err.ensures in
    hosts_unshared (g.C.Clock.gives c.args.wanted.now.clock.now) (g.T.Stop.may c.args.wanted.now.stop.now) c.args.wanted.now.ids.now c.args.wanted.now.on_demand tells parts links c.args.wanted.now.posts c.in-Err.fault c.unheard.result c.args.net c.share_out.new.net
    c.unheard.ensures told.none_shared told.back told.asked told.cause

pub run_posts-ended-requires-clause-rooms : goal.run_posts-ended-requires-clause-rooms
run_posts-ended-requires-clause-rooms g c κs within =
    rw c.as_slice.ensures.value (record { count = c.requires.prepared.rooms; some = c.requires.ids.0; few = c.requires.ids.1 })

pub run_posts-ended-requires-clause-ready : goal.run_posts-ended-requires-clause-ready
run_posts-ended-requires-clause-ready g c κs within =
    rw c.as_slice.ensures.value
    (ready_all (net_tells {N = g.row.N.Denot} {L = g.row.N-Conn.Denot} g.N.Net) (share_tells {S = g.row.N-Part.Denot} {L = g.row.N-Conn.Denot} g.N.Part.Share) c.args.prepared.rooms.items c.args.prepared.claims.claims c.share_out.new.net c.args.prepared.lead (begun_of _ c.args.prepared.rooms.items c.args.prepared.lead.seats.items c.requires.prepared.leads)
    c.requires.prepared.claim.claims c.in-Ok.posts.items (c.in-Ok.ensures.posts c.args.prepared.lead c.requires.prepared.rows))

pub run_posts-ended-requires-clause-few : goal.run_posts-ended-requires-clause-few
run_posts-ended-requires-clause-few g c κs within =
    let number = c.in-Ok.ensures.number in let count = c.requires.prepared.number in let few = c.requires.posts in omega (arith, number, count, few)

pub run_posts-ended-requires-clause-room : goal.run_posts-ended-requires-clause-room
run_posts-ended-requires-clause-room g c κs within =
    let number = c.in-Ok.ensures.number in let count = c.requires.prepared.number in let room = c.requires.prepared.room_for_ended in omega (arith, number, count, room)

pub gather_posts-net-requires-clause-leads : goal.gather_posts-net-requires-clause-leads
gather_posts-net-requires-clause-leads g c κs within =
    rw c.as_slice.ensures.value (begun_of _ c.args.prepared.rooms.items c.args.prepared.lead.seats.items c.requires.prepared.leads)

pub gather_posts-net-requires-clause-claims : goal.gather_posts-net-requires-clause-claims
gather_posts-net-requires-clause-claims g c κs within = c.requires.prepared.claim.claims

pub gather_posts-net-requires-clause-kept : goal.gather_posts-net-requires-clause-kept
gather_posts-net-requires-clause-kept g c κs within =
    begun_keeps _ c.args.prepared.rooms.items c.args.prepared.lead.seats.items c.requires.prepared.leads

pub gather_posts-net-requires-clause-ended : goal.gather_posts-net-requires-clause-ended
gather_posts-net-requires-clause-ended g c κs within =
    rw c.as_slice.ensures.value
    (ended_all (g.C.Clock.gives c.args.wanted.now.clock.now) (g.T.Stop.may c.args.wanted.now.stop.now) c.args.wanted.now.ids.now c.args.wanted.now.on_demand (net_tells {N = g.row.N.Denot} {L = g.row.N-Conn.Denot} g.N.Net) (share_tells {S = g.row.N-Part.Denot} {L = g.row.N-Conn.Denot} g.N.Part.Share) (links_tell {L = g.row.N-Conn.Denot} g.N.Conn.Link) c.args.prepared.rooms.items c.share_out.new.net c.args.prepared.lead c.in-Ok.posts.items c.run_posts-ended.result.items (c.in-Ok.ensures.posts c.args.prepared.lead c.requires.prepared.rows) (rw c.as_slice.ensures.value at c.run_posts-ended.ensures.ended))

pub gather_posts-net-requires-clause-shared : goal.gather_posts-net-requires-clause-shared
gather_posts-net-requires-clause-shared g c κs within =
    let ran = c.run_posts-ended.ensures.ended.as_long in
    let before : vec_len c.in-Ok.posts ≡ length c.in-Ok.posts.items = search rules in
    let after : vec_len c.run_posts-ended.result ≡ length c.run_posts-ended.result.items = search rules in
    let more = c.in-Ok.ensures.shared in
    omega (arith, ran, before, after, more)

pub gather_posts-net-requires-clause-room : goal.gather_posts-net-requires-clause-room
gather_posts-net-requires-clause-room g c κs within =
    let ran = c.run_posts-ended.ensures.ended.as_long in
    let before : vec_len c.in-Ok.posts ≡ length c.in-Ok.posts.items = search rules in
    let after : vec_len c.run_posts-ended.result ≡ length c.run_posts-ended.result.items = search rules in
    let number = c.in-Ok.ensures.number in
    let count = c.requires.prepared.number in
    let room = c.requires.prepared.room_for_outcomes in
    omega (arith, ran, before, after, number, count, room)

pub close_hosted-hosted-requires-clause-claims : goal.close_hosted-hosted-requires-clause-claims
close_hosted-hosted-requires-clause-claims g c = c.gather_posts-net.ensures.claim.claims ∙ c.requires.prepared.claim.claims

pub close_hosted-hosted-requires-clause-whole : goal.close_hosted-hosted-requires-clause-whole
close_hosted-hosted-requires-clause-whole g c =
    let parts = c.gather_posts-net.ensures.claim.parts in
    let given = c.requires.prepared.claim.parts in
    let count = c.requires.prepared.number in
    let number = c.in-Ok.ensures.number in
    let ran = c.run_posts-ended.ensures.ended.as_long in
    let before : vec_len c.in-Ok.posts ≡ length c.in-Ok.posts.items = search rules in
    let after : vec_len c.run_posts-ended.result ≡ length c.run_posts-ended.result.items = search rules in
    omega (arith, parts, given, count, number, ran, before, after)

pub close_hosted-hosted-requires-clause-leads : goal.close_hosted-hosted-requires-clause-leads
close_hosted-hosted-requires-clause-leads g c = λ ids closes.
    let gives = g.C.Clock.gives c.args.wanted.now.clock.now in
    let may = g.T.Stop.may c.args.wanted.now.stop.now in
    let tells = net_tells {N = g.row.N.Denot} {L = g.row.N-Conn.Denot} g.N.Net in
    let parts = shares_tell {N = g.row.N.Denot} {S = g.row.N-Part.Denot} {L = g.row.N-Conn.Denot} g.N.SharedNet.shared g.N.Part.Share in
    let links = links_tell {L = g.row.N-Conn.Denot} g.N.Conn.Link in
    let listed = c.args.wanted.now.ids.now in
    let on_demand = c.args.wanted.now.on_demand in
    let prepared = c.args.prepared in
    let mid = c.gather_posts-net.result in
    let before : PostRound g.row.N.Denot NoKeeper = record { net = c.share_out.new.net; lead = prepared.lead; outcomes = prepared.outcomes } in
    let before_long : vec_len c.in-Ok.posts ≡ length c.in-Ok.posts.items = search rules in
    let after_long : vec_len c.run_posts-ended.result ≡ length c.run_posts-ended.result.items = search rules in
    let ran = c.run_posts-ended.ensures.ended.as_long in
    let number = c.in-Ok.ensures.number in
    let count = c.requires.prepared.number in
    let count_is : vec_len c.run_posts-ended.result ≡ c.args.wanted.now.posts = omega (arith, before_long, after_long, ran, number, count) in
    let over = over_by gives may listed ids on_demand tells parts links prepared.rooms.items c.args.wanted.now.posts before mid (vec_len c.run_posts-ended.result) prepared.claims ids
    count_is c.requires.prepared.listed_are refl c.requires.prepared.rooms c.requires.prepared.claim c.gather_posts-net.ensures.claim closes (rw c.as_slice.ensures.value at c.gather_posts-net.ensures.posts) in
    whole_again gives may listed ids on_demand tells parts links prepared.rooms.items c.args.wanted.now.posts before mid c.requires.prepared.leads over

pub returns : goal.returns
returns g c =
    let gives = g.C.Clock.gives c.args.wanted.now.clock.now in
    let may = g.T.Stop.may c.args.wanted.now.stop.now in
    let tells = net_tells {N = g.row.N.Denot} {L = g.row.N-Conn.Denot} g.N.Net in
    let parts = shares_tell {N = g.row.N.Denot} {S = g.row.N-Part.Denot} {L = g.row.N-Conn.Denot} g.N.SharedNet.shared g.N.Part.Share in
    let links = links_tell {L = g.row.N-Conn.Denot} g.N.Conn.Link in
    let listed = c.args.wanted.now.ids.now in
    let on_demand = c.args.wanted.now.on_demand in
    let prepared = c.args.prepared in
    let mid = c.gather_posts-net.result in
    let before : PostRound g.row.N.Denot NoKeeper = record { net = c.share_out.new.net; lead = prepared.lead; outcomes = prepared.outcomes } in
    let before_long : vec_len c.in-Ok.posts ≡ length c.in-Ok.posts.items = search rules in
    let after_long : vec_len c.run_posts-ended.result ≡ length c.run_posts-ended.result.items = search rules in
    let ran = c.run_posts-ended.ensures.ended.as_long in
    let number = c.in-Ok.ensures.number in
    let count = c.requires.prepared.number in
    let count_is : vec_len c.run_posts-ended.result ≡ c.args.wanted.now.posts = omega (arith, before_long, after_long, ran, number, count) in
    let same = c.gather_posts-net.ensures.shared in
    let more = c.in-Ok.ensures.shared in
    let shared : parts.shared mid.net ≡ parts.shared c.args.net = omega (arith, same, more, ran, before_long, after_long) in
    let closed = c.close_hosted-hosted.ensures in
    let over = over_by gives may listed c.close_hosted-hosted.result.ids on_demand tells parts links prepared.rooms.items c.args.wanted.now.posts before mid (vec_len c.run_posts-ended.result) prepared.claims c.close_hosted-hosted.result.ids
    count_is c.requires.prepared.listed_are refl c.requires.prepared.rooms c.requires.prepared.claim c.gather_posts-net.ensures.claim closed.ids (rw c.as_slice.ensures.value at c.gather_posts-net.ensures.posts) in
    hosted_all gives may listed c.close_hosted-hosted.result.ids on_demand tells parts links prepared.rooms.items c.args.wanted.now.posts before mid c.requires.prepared.leads over c.args.net
    c.close_hosted-hosted.result.sessions c.close_hosted-hosted.result.posts c.in-Ok.ensures.none_given c.in-Ok.ensures.asked shared closed.sessions closed.posts
