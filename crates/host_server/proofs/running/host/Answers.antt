use Rattle.std.proofs.Common.{[], ◌∷◌}
use Rattle.tea_io.specs.declared.net.NetCall.TheVariants.{Listen}
use Rattle.run_steps.specs.Outside.{links_tell, net_tells}
use Rattle.host_server.proofs.Finals.{hosts_behind, hosts_unheard, hosts_want}
use Rattle.host_server.proofs.running.host.Goals as goal

pub returns-in-Err : goal.returns-in-Err
returns-in-Err g c =
    let tells = net_tells {N = g.row.N.Denot} {L = g.row.N-Conn.Denot} g.N.Net in
    let links = links_tell {L = g.row.N-Conn.Denot} g.N.Conn.Link in
    hosts_want (g.C.Clock.gives c.args.host.now.clock.now) c.args.host.now.ids.now c.args.host.now.on_demand tells links c.args.host.now.connections (Listen c.args.host.now.address.now ∷ []) c.args.net

pub returns-in-Ok-listen : goal.returns-in-Ok-listen
returns-in-Ok-listen g c =
    let told = c.in-Ok-listen.ensures in
    hosts_behind _ _ _ _ _ c.args.host.now.connections c.args.host.now.address.now c.in-Ok-listen.field-0 c.args.net c.listen.new.self c.host_all-net.result.0 c.host_all-net.result.1
    (record { coming = told.coming; over = told.over; lent = told.lent; counts = told.counts; asked = told.asked; cause = told.cause }) c.host_all-net.ensures

pub returns-in-Err-listen : goal.returns-in-Err-listen
returns-in-Err-listen g c =
    let tells = net_tells {N = g.row.N.Denot} {L = g.row.N-Conn.Denot} g.N.Net in
    let links = links_tell {L = g.row.N-Conn.Denot} g.N.Conn.Link in
    let told = c.in-Err-listen.ensures in
    hosts_unheard (g.C.Clock.gives c.args.host.now.clock.now) c.args.host.now.ids.now c.args.host.now.on_demand tells links c.args.host.now.connections c.args.host.now.address.now c.in-Err-listen.fault c.unheard.result c.args.net c.listen.new.self c.unheard.ensures
    (record { coming = told.coming; over = told.over; lent = told.lent; counts = told.counts; asked = told.asked; cause = told.cause })
