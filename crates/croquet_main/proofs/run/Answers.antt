use denote.Param.Send.{IsSend, IsSync, sendable}
use Rattle.std.proofs.Crossing.{crosses}
use Rattle.run_notes.specs.contracts.guest.Guest as guest
use Rattle.run_notes.specs.contracts.watch.WorldWatch as watch
use Rattle.croquet_main.specs.contracts.served.Served as served
use Rattle.croquet_main.specs.contracts.told_net.GuestCount as counted
use Rattle.croquet_main.proofs.run.Goals as goal

-- the net holds what follows the world of a view, while the view has no link
pub croquet-net-requires-send-N : goal.croquet-net-requires-send-N
croquet-net-requires-send-N g c κs within =
    let nets = c.type_bounds.send-N in
    let handles = c.type_bounds.send-R in
    let sessions : IsSync served.the_row = c.served_is_shared.ensures in
    let counts : IsSync counted.the_row = c.guests_are_shared.ensures in
    let watches : IsSend watch.the_row = c.notes_cross_threads.ensures.watch in
    search (sendable, crosses) depth 60 fits 20000

-- a link goes to another thread with what follows it
pub croquet-net-requires-send-N-Conn : goal.croquet-net-requires-send-N-Conn
croquet-net-requires-send-N-Conn g c κs within =
    let links = c.type_bounds.send-N-Conn in
    let handles = c.type_bounds.send-R in
    let guests : IsSend guest.the_row = c.notes_cross_threads.ensures.guest in
    let watches : IsSend watch.the_row = c.notes_cross_threads.ensures.watch in
    search (sendable, crosses) depth 60 fits 20000

-- a share goes to another thread, where it counts the links that it accepts
pub croquet-net-requires-send-N-Part : goal.croquet-net-requires-send-N-Part
croquet-net-requires-send-N-Part g c κs within =
    let parts = c.type_bounds.send-N-Part in
    let handles = c.type_bounds.send-R in
    let counts : IsSync counted.the_row = c.guests_are_shared.ensures in
    search (sendable, crosses) depth 60 fits 20000
