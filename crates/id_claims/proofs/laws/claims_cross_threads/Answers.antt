use denote.Param.Send.{sendable}
use Rattle.std.proofs.Crossing.{crosses}
use Rattle.atomic_table.proofs.shared.Shared.TheSendSync as inner
use Rattle.atomic_table.proofs.send_lease.SendLease.TheSendSync as lease
use Rattle.id_claims.proofs.laws.claims_cross_threads.Goals as goal

pub returns : goal.returns
returns c = search (sendable, crosses, inner.the_sync, lease.the_sync) depth 60 fits 20000
