use Rattle.std.proofs.Common.{[], ◌∷◌, Ok, Err}
use Rattle.run_steps.specs.Outside.{links_tell, net_tells}
use Rattle.tea_io.specs.declared.net.NetCall.TheVariants.{Listen}
use Rattle.reflect_server.specs.Opening.{gives_later}
use Rattle.reflect_server.specs.Keeping.{keeper_tells}
use Rattle.reflect_server.proofs.OpeningLaws.{only_opened}
use Rattle.reflect_server.proofs.Reflections.{reflects_behind, reflects_of, reflects_unheard, reflects_unopened}
use Rattle.reflect_server.proofs.reflecting.reflect_kept.Goals as goal

pub returns-in-Err : goal.returns-in-Err
returns-in-Err g c =
    reflects_unopened _ c.args.server.now.id _ _ _ _ (Listen c.args.server.now.address.now ∷ []) c.in-Err.field-0.fault c.unopened_fault.result c.args.server.now.connections c.args.net c.unopened_fault.ensures c.in-Err.ensures.unopened

pub returns-in-Ok-listen : goal.returns-in-Ok-listen
returns-in-Ok-listen g c =
    let told = c.in-Ok-listen.ensures in
    let made = c.in-Ok.prepared in
    let gives = g.C.Clock.gives c.args.server.now.clock.now in
    reflects_of g.K.Keeper.holds g.K.Keeper.shut g.K.Keeper.faults c.serve_all-net.result.1 gives c.args.server.now.id made.since c.args.opening.session.plain.horizon made.shared.faults (g.K.Keeper.faults c.args.opening.keeper)
    made.lead.opening c.args.opening.session.plain _ _ (Listen c.args.server.now.address.now ∷ []) c.args.server.now.connections c.args.net c.serve_all-net.result.0 (Ok c.serve_all-net.result.2)
    c.in-Ok.ensures.since c.in-Ok.ensures.faults c.in-Ok.ensures.begins
    (reflects_behind (gives_later gives made.since) c.args.server.now.id made.lead.opening
    (keeper_tells g.K.Keeper.holds g.K.Keeper.shut g.K.Keeper.faults made.shared.faults made.lead.opening c.serve_all-net.result.1) _ _ c.args.server.now.address.now c.in-Ok-listen.field-0 c.args.server.now.connections c.args.net c.listen.new.self
    c.serve_all-net.result.0 c.serve_all-net.result.2
    (record { coming = told.coming; over = told.over; lent = told.lent; counts = told.counts; asked = told.asked; cause = told.cause })
    c.serve_all-net.ensures.reflects)

pub returns-in-Err-listen : goal.returns-in-Err-listen
returns-in-Err-listen g c =
    let told = c.in-Err-listen.ensures in
    let made = c.in-Ok.prepared in
    let gives = g.C.Clock.gives c.args.server.now.clock.now in
    let tells = net_tells {N = g.row.N.Denot} {L = g.row.N-Conn.Denot} g.N.Net in
    let links = links_tell {L = g.row.N-Conn.Denot} g.N.Conn.Link in
    let kept = keeper_tells g.K.Keeper.holds g.K.Keeper.shut g.K.Keeper.faults made.shared.faults made.lead.opening c.close_opened.result in
    reflects_of g.K.Keeper.holds g.K.Keeper.shut g.K.Keeper.faults c.close_opened.result gives c.args.server.now.id made.since c.args.opening.session.plain.horizon made.shared.faults (g.K.Keeper.faults c.args.opening.keeper)
    made.lead.opening c.args.opening.session.plain tells links (Listen c.args.server.now.address.now ∷ []) c.args.server.now.connections c.args.net c.listen.new.self (Err c.unheard.result)
    c.in-Ok.ensures.since c.in-Ok.ensures.faults c.in-Ok.ensures.begins
    (reflects_unheard (gives_later gives made.since) c.args.server.now.id made.lead.opening kept tells links c.args.server.now.address.now c.in-Err-listen.fault c.unheard.result c.args.server.now.connections c.args.net c.listen.new.self
    c.unheard.ensures
    (only_opened (gives_later gives made.since) kept made.lead c.in-Ok.ensures.prepared.opened c.close_opened.ensures.calls c.close_opened.ensures.keeper)
    (record { coming = told.coming; over = told.over; lent = told.lent; counts = told.counts; asked = told.asked; cause = told.cause }))
