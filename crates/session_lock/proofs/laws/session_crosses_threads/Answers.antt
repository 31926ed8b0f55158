use denote.Param.{param}
use denote.Param.Send.{IsSend, sendable}
use Rattle.std.proofs.Crossing.{crosses}
use Rattle.atomic_table.proofs.shared.Shared.TheSendSync as inner
use Rattle.atomic_table.proofs.send_lease.SendLease.TheSendSync as lease
use Rattle.session_lock.specs.contracts.held.KeptSession as kept
use Rattle.session_lock.proofs.Crossings.{kept_send}
use Rattle.session_lock.proofs.laws.session_crosses_threads.Goals as goal

pub returns : goal.returns
returns c start =
    let h : IsSend (kept.the_row (param 1 c.row.K)) = kept_send (param 1 c.row.K) (search sendable) in
    search (sendable, crosses, inner.the_sync, lease.the_sync) depth 60 fits 20000
