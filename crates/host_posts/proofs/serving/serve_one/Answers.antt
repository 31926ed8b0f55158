use Rattle.std.proofs.Common.{◌≤◌, [], append-nil, refl, arith}
use Rattle.session_lock.specs.Numbers.{count_of}
use Rattle.session_lock.specs.Passes.{PassState}
use Rattle.connection.specs.Talk.{link_account}
use Rattle.host_server.proofs.ClaimLaws.{claim_gathers_none}
use Rattle.host_server.proofs.Places.{all_at}
use Rattle.host_server.proofs.LinkLaws.{gathers_claimed, told_first}
use Rattle.host_posts.proofs.LinkLaws.{serves_none, serves_some}
use Rattle.host_posts.proofs.Seats.{by_session, by_uses, of_there, seat_there, set_of, uses_same, uses_set}
use Rattle.host_posts.proofs.serving.serve_one.Goals as goal

pub returns-in-Err-clause-claim : goal.returns-in-Err-clause-claim
returns-in-Err-clause-claim g c = claim_gathers_none _ 0 c.args.row.now.claim refl

pub returns-in-Err-clause-grows : goal.returns-in-Err-clause-grows
returns-in-Err-clause-grows g c = ([], append-nil c.args.row.now.claim.seen)

pub returns-in-Err-clause-spare : goal.returns-in-Err-clause-spare
returns-in-Err-clause-spare g c = uses_same c.args.row.now.seats.items

pub returns-in-Err-clause-served : goal.returns-in-Err-clause-served
returns-in-Err-clause-served g c = λ ids all.
    serves_none _ _ c.args.link c.hear_first.new.link c.requires.new ids c.args.service.now.host.now.on_demand c.args.service.now.rooms.now c.args.row.now c.in-Err.ended c.requires.seats c.in-Err.ensures.heard

pub serve_by-link-requires-clause-session : goal.serve_by-link-requires-clause-session
serve_by-link-requires-clause-session g c =
    of_there c.args.service.now.rooms.now c.args.row.now.seats.items c.target_of-target.result.place c.index_mut.result.now c.requires.seats
    (let count = c.requires.rooms.count in let below = c.target_of-target.ensures.within in omega (arith, count, below)) c.index_mut.ensures.value

pub serve_by-link-requires-clause-enough : goal.serve_by-link-requires-clause-enough
serve_by-link-requires-clause-enough g c =
    let row = c.args.row.now.seats.items in
    let count = c.requires.rooms.count in
    let below = c.target_of-target.ensures.within in
    let as_long = c.requires.seats.as_long in
    all_at (λ (p : PassState). 1 ≤ count_of p.spare) row c.target_of-target.result.place c.index_mut.result.now c.requires.enough
    (seat_there row c.target_of-target.result.place c.index_mut.result.now (omega (arith, count, below, as_long)) c.index_mut.ensures.value)

pub serve_by-link-requires-clause-told : goal.serve_by-link-requires-clause-told
serve_by-link-requires-clause-told g c =
    told_first (link_account g.L.Link c.args.link) (link_account g.L.Link c.hear_first.new.link) c.in-Ok.first c.in-Ok.ensures.heard

pub returns-clause-seats : goal.returns-clause-seats
returns-clause-seats g c =
    let row = c.args.row.now.seats.items in
    let place = c.target_of-target.result.place in
    let count = c.requires.rooms.count in
    let below = c.target_of-target.ensures.within in
    let as_long = c.requires.seats.as_long in
    let in_row = seat_there row place c.index_mut.result.now (omega (arith, count, below, as_long)) c.index_mut.ensures.value in
    set_of c.args.service.now.rooms.now row place c.index_mut.result.now c.serve_by-link.new.seat c.requires.seats in_row
    (by_session _ _ c.index_mut.result.now c.serve_by-link.new.seat _ _ _ _ _ c.serve_by-link.ensures.served)

pub returns-clause-claim : goal.returns-clause-claim
returns-clause-claim g c = gathers_claimed _ c.in-Ok.first _ _ (rw c.bytes.ensures at c.target_of-target.ensures.claim)

pub returns-clause-grows : goal.returns-clause-grows
returns-clause-grows g c = c.target_of-target.ensures.claim.grows

pub returns-clause-spare : goal.returns-clause-spare
returns-clause-spare g c =
    let row = c.args.row.now.seats.items in
    let place = c.target_of-target.result.place in
    let count = c.requires.rooms.count in
    let below = c.target_of-target.ensures.within in
    let as_long = c.requires.seats.as_long in
    let in_row = seat_there row place c.index_mut.result.now (omega (arith, count, below, as_long)) c.index_mut.ensures.value in
    uses_set row place c.index_mut.result.now c.serve_by-link.new.seat in_row (by_uses _ _ c.index_mut.result.now c.serve_by-link.new.seat _ _ _ _ _ c.serve_by-link.ensures.served)

pub returns-clause-served : goal.returns-clause-served
returns-clause-served g c = λ ids all.
    let row = c.args.row.now.seats.items in
    let place = c.target_of-target.result.place in
    let count = c.requires.rooms.count in
    let below = c.target_of-target.ensures.within in
    let as_long = c.requires.seats.as_long in
    let in_row = seat_there row place c.index_mut.result.now (omega (arith, count, below, as_long)) c.index_mut.ensures.value in
    serves_some _ _ c.args.link c.hear_first.new.link c.serve_by-link.result.0 c.target_of-target.result.id c.in-Ok.first c.serve_by-link.result.1 c.index_mut.result.now c.serve_by-link.new.seat c.requires.new
    c.in-Ok.ensures.heard c.serve_by-link.ensures.served c.serve_by-link.ensures.cause ids c.args.service.now.host.now.on_demand c.args.service.now.rooms.now c.args.row.now _ place c.requires.seats in_row refl
    (rw c.bytes.ensures at c.target_of-target.ensures.claim) (rw c.bytes.ensures at c.target_of-target.ensures.target ids all)
