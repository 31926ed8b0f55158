use denote.Param.Send.{sendable}
use Rattle.std.proofs.Crossing.{crosses}
use Rattle.atomic_table.proofs.shared.Seat.TheSendSync as seat
use Rattle.session_lock.proofs.Crossings.{kept_send}
use Rattle.session_lock.proofs.laws.pass_crosses_threads.Goals as goal

pub returns : goal.returns
returns c start = search (sendable, crosses, seat.the_send, kept_send) depth 60 fits 20000
