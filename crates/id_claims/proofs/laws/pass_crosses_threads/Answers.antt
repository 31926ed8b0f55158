use denote.Param.Send.{sendable}
use Rattle.std.proofs.Crossing.{crosses}
use Rattle.atomic_table.proofs.shared.Seat.TheSendSync as seat
use Rattle.id_claims.proofs.laws.pass_crosses_threads.Goals as goal

pub returns : goal.returns
returns c = search (sendable, crosses, seat.the_send) depth 60 fits 20000
