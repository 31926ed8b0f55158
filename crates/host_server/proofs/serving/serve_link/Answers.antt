use Rattle.std.proofs.Common.{◌<◌, length, refl, arith}
use Rattle.std.proofs.lemmas.Option.{slice_get_read}
use Rattle.connection.specs.Talk.{link_account}
use Rattle.host_server.proofs.LinkLaws.{idle_of_rooms, idle_there, serves_none, serves_some, set_of_rooms, still_idle, told_first}
use Rattle.host_server.proofs.serving.serve_link.Goals as goal

pub returns-in-Err-clause-seats : goal.returns-in-Err-clause-seats
returns-in-Err-clause-seats g c = idle_of_rooms c.args.service.now.rooms.now c.args.row.seats.items c.requires.seats

pub returns-in-Err-clause-served : goal.returns-in-Err-clause-served
returns-in-Err-clause-served g c = λ ids all.
    serves_none _ _ _ c.args.link c.hear_first.new.link c.args.row c.requires.seats c.requires.new ids c.args.service.now.host.now.on_demand c.in-Err.ended c.in-Err.ensures.heard

pub serve_first-link-requires-clause-session : goal.serve_first-link-requires-clause-session
serve_first-link-requires-clause-session g c = λ room in_rooms.
    idle_there c.args.service.now.rooms.now c.args.row.seats.items c.target_of-target.result.place c.index_mut.result.now c.requires.seats
    (let count = c.requires.rooms.count in let below = c.target_of-target.ensures.within in omega (arith, count, below)) c.index_mut.ensures.value room in_rooms

pub serve_first-link-requires-clause-fresh : goal.serve_first-link-requires-clause-fresh
serve_first-link-requires-clause-fresh g c =
    still_idle c.args.service.now.rooms.now c.args.row.seats.items c.target_of-target.result.place c.index_mut.result.now c.requires.seats
    (let count = c.requires.rooms.count in let below = c.target_of-target.ensures.within in omega (arith, count, below)) c.index_mut.ensures.value

pub serve_first-link-requires-clause-told : goal.serve_first-link-requires-clause-told
serve_first-link-requires-clause-told g c =
    told_first (link_account g.L.Link c.args.link) (link_account g.L.Link c.hear_first.new.link) c.in-Ok.first c.in-Ok.ensures.heard

pub returns-clause-seats : goal.returns-clause-seats
returns-clause-seats g c =
    let rooms = c.args.service.now.rooms.now in
    let row = c.args.row.seats.items in
    let place = c.target_of-target.result.place in
    let count = c.requires.rooms.count in
    let below = c.target_of-target.ensures.within in
    let as_long = c.requires.seats.as_long in
    let within_row : place < length row = omega (arith, count, below, as_long) in
    set_of_rooms rooms row place c.index_mut.result.now c.serve_first-link.new.seat c.requires.seats
    (slice_get_read row (length row) place c.index_mut.result.now refl within_row c.index_mut.ensures.value) c.serve_first-link.ensures.kept

pub returns-clause-served : goal.returns-clause-served
returns-clause-served g c = λ ids all.
    let row = c.args.row.seats.items in
    let place = c.target_of-target.result.place in
    let count = c.requires.rooms.count in
    let below = c.target_of-target.ensures.within in
    let as_long = c.requires.seats.as_long in
    let within_row : place < length row = omega (arith, count, below, as_long) in
    serves_some _ ids c.args.service.now.host.now.on_demand _ c.args.service.now.rooms.now c.args.link c.hear_first.new.link c.serve_first-link.result.0 c.args.row _ place c.target_of-target.result.id c.index_mut.result.now
    c.serve_first-link.new.seat c.in-Ok.first c.serve_first-link.result.1 c.requires.seats c.requires.new
    (slice_get_read row (length row) place c.index_mut.result.now refl within_row c.index_mut.ensures.value) c.serve_first-link.ensures.kept refl
    c.in-Ok.ensures.heard c.serve_first-link.ensures.talk c.serve_first-link.ensures.cause (rw c.bytes.ensures at c.target_of-target.ensures.claim) (rw c.bytes.ensures at c.target_of-target.ensures.target ids all)
