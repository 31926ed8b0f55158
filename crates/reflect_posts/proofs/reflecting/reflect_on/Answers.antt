use Rattle.std.proofs.Common.{[], ◌∷◌, Err}
use Rattle.run_steps.specs.Outside.{links_tell, net_tells}
use Rattle.tea_io.specs.declared.net.NetCall.TheVariants.{Listen}
use Rattle.reflect_server.specs.Keeping.{keeper_tells}
use Rattle.reflect_server.specs.Opening.{gives_later}
use Rattle.reflect_server.proofs.OpeningLaws.{only_opened}
use Rattle.host_posts.specs.Shares.{shares_tell}
use Rattle.reflect_posts.proofs.Finals.{reflects_behind, reflects_of, reflects_unheard, reflects_unopened}
use Rattle.reflect_posts.proofs.reflecting.reflect_on.Goals as goal

pub returns-in-Err : goal.returns-in-Err
returns-in-Err g c =
    let tells = net_tells {N = g.row.N.Denot} {L = g.row.N-Conn.Denot} g.N.Net in
    let parts = shares_tell {N = g.row.N.Denot} {S = g.row.N-Part.Denot} {L = g.row.N-Conn.Denot} g.N.SharedNet.shared g.N.Part.Share in
    let links = links_tell {L = g.row.N-Conn.Denot} g.N.Conn.Link in
    reflects_unopened _ (g.T.Stop.may c.args.server.now.stop.now) c.args.server.now.id _ _ tells parts links c.args.server.now.posts (Listen c.args.server.now.address.now ∷ []) c.in-Err.field-0.fault c.unopened_fault.result c.args.net c.unopened_fault.ensures
    c.in-Err.ensures.unopened

pub returns-in-Ok-listen_shared : goal.returns-in-Ok-listen_shared
returns-in-Ok-listen_shared g c =
    let told = c.in-Ok-listen_shared.ensures in
    let made = c.in-Ok.prepared in
    let gives = g.C.Clock.gives c.args.server.now.clock.now in
    let may = g.T.Stop.may c.args.server.now.stop.now in
    let tells = net_tells {N = g.row.N.Denot} {L = g.row.N-Conn.Denot} g.N.Net in
    let parts = shares_tell {N = g.row.N.Denot} {S = g.row.N-Part.Denot} {L = g.row.N-Conn.Denot} g.N.SharedNet.shared g.N.Part.Share in
    let links = links_tell {L = g.row.N-Conn.Denot} g.N.Conn.Link in
    reflects_of g.K.Keeper.holds g.K.Keeper.shut g.K.Keeper.faults c.reflect_shared.result.1 gives may c.args.server.now.id made.since c.args.opening.session.plain.horizon made.shared.faults (g.K.Keeper.faults c.args.opening.keeper)
    made.lead.opening c.args.opening.session.plain tells parts links (Listen c.args.server.now.address.now ∷ []) c.args.server.now.posts c.args.net c.reflect_shared.result.0 c.reflect_shared.result.2
    c.in-Ok.ensures.since c.in-Ok.ensures.faults c.in-Ok.ensures.begins
    (reflects_behind (gives_later gives made.since) may c.args.server.now.id made.lead.opening
    (keeper_tells g.K.Keeper.holds g.K.Keeper.shut g.K.Keeper.faults made.shared.faults made.lead.opening c.reflect_shared.result.1) tells parts links c.args.server.now.posts c.args.server.now.address.now c.in-Ok-listen_shared.field-0 c.args.net c.listen_shared.new.self
    c.reflect_shared.result.0 c.reflect_shared.result.2 c.reflect_shared.ensures.kept told.shared
    (record { coming = told.coming; over = told.over; lent = told.lent; counts = told.counts; asked = told.asked; cause = told.cause })
    c.reflect_shared.ensures.reflects)

pub returns-in-Err-listen_shared : goal.returns-in-Err-listen_shared
returns-in-Err-listen_shared g c =
    let told = c.in-Err-listen_shared.ensures in
    let made = c.in-Ok.prepared in
    let gives = g.C.Clock.gives c.args.server.now.clock.now in
    let may = g.T.Stop.may c.args.server.now.stop.now in
    let tells = net_tells {N = g.row.N.Denot} {L = g.row.N-Conn.Denot} g.N.Net in
    let parts = shares_tell {N = g.row.N.Denot} {S = g.row.N-Part.Denot} {L = g.row.N-Conn.Denot} g.N.SharedNet.shared g.N.Part.Share in
    let links = links_tell {L = g.row.N-Conn.Denot} g.N.Conn.Link in
    let kept = keeper_tells g.K.Keeper.holds g.K.Keeper.shut g.K.Keeper.faults made.shared.faults made.lead.opening c.close_opened.result in
    reflects_of g.K.Keeper.holds g.K.Keeper.shut g.K.Keeper.faults c.close_opened.result gives may c.args.server.now.id made.since c.args.opening.session.plain.horizon made.shared.faults (g.K.Keeper.faults c.args.opening.keeper)
    made.lead.opening c.args.opening.session.plain tells parts links (Listen c.args.server.now.address.now ∷ []) c.args.server.now.posts c.args.net c.listen_shared.new.self (Err c.unheard.result)
    c.in-Ok.ensures.since c.in-Ok.ensures.faults c.in-Ok.ensures.begins
    (reflects_unheard (gives_later gives made.since) may c.args.server.now.id made.lead.opening kept tells parts links c.args.server.now.posts c.args.server.now.address.now c.in-Err-listen_shared.fault c.unheard.result c.args.net c.listen_shared.new.self
    c.unheard.ensures told.shared (record { coming = told.coming; over = told.over; lent = told.lent; counts = told.counts; asked = told.asked; cause = told.cause })
    (only_opened (gives_later gives made.since) kept made.lead c.in-Ok.ensures.opened.opened c.close_opened.ensures.calls c.close_opened.ensures.keeper))
