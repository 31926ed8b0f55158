use Rattle.std.proofs.Common.{[], ◌∷◌}
use Rattle.tea_io.specs.declared.net.NetCall.TheVariants.{Listen}
use Rattle.run_steps.specs.Outside.{links_tell, net_tells}
use Rattle.host_posts.specs.Shares.{shares_tell}
use Rattle.host_posts.proofs.Finals.{hosts_behind, hosts_unheard, hosts_want}
use Rattle.host_posts.proofs.hosting.host_on.Goals as goal

pub returns-in-Err : goal.returns-in-Err
returns-in-Err g c =
    let tells = net_tells {N = g.row.N.Denot} {L = g.row.N-Conn.Denot} g.N.Net in
    let parts = shares_tell {N = g.row.N.Denot} {S = g.row.N-Part.Denot} {L = g.row.N-Conn.Denot} g.N.SharedNet.shared g.N.Part.Share in
    let links = links_tell {L = g.row.N-Conn.Denot} g.N.Conn.Link in
    hosts_want (g.C.Clock.gives c.args.wanted.now.clock.now) (g.T.Stop.may c.args.wanted.now.stop.now) c.args.wanted.now.ids.now c.args.wanted.now.on_demand tells parts links c.args.wanted.now.posts (Listen c.args.wanted.now.address.now ∷ []) c.args.net

pub returns-in-Ok-listen_shared : goal.returns-in-Ok-listen_shared
returns-in-Ok-listen_shared g c =
    let told = c.in-Ok-listen_shared.ensures in
    hosts_behind _ _ _ _ _ _ _ c.args.wanted.now.posts c.args.wanted.now.address.now c.in-Ok-listen_shared.field-0 c.args.net c.listen_shared.new.self c.host_shared.result.0 c.host_shared.result.1
    told.shared (record { coming = told.coming; over = told.over; lent = told.lent; counts = told.counts; asked = told.asked; cause = told.cause }) c.host_shared.ensures

pub returns-in-Err-listen_shared : goal.returns-in-Err-listen_shared
returns-in-Err-listen_shared g c =
    let tells = net_tells {N = g.row.N.Denot} {L = g.row.N-Conn.Denot} g.N.Net in
    let parts = shares_tell {N = g.row.N.Denot} {S = g.row.N-Part.Denot} {L = g.row.N-Conn.Denot} g.N.SharedNet.shared g.N.Part.Share in
    let links = links_tell {L = g.row.N-Conn.Denot} g.N.Conn.Link in
    let told = c.in-Err-listen_shared.ensures in
    hosts_unheard (g.C.Clock.gives c.args.wanted.now.clock.now) (g.T.Stop.may c.args.wanted.now.stop.now) c.args.wanted.now.ids.now c.args.wanted.now.on_demand tells parts links c.args.wanted.now.posts c.args.wanted.now.address.now c.in-Err-listen_shared.fault
    c.unheard.result c.args.net c.listen_shared.new.self c.unheard.ensures
    told.shared (record { coming = told.coming; over = told.over; lent = told.lent; counts = told.counts; asked = told.asked; cause = told.cause })
