use denote.Param.Send.{sendable}
use Rattle.std.proofs.Crossing.{crosses}
use Rattle.std.proofs.sync.OnceLock.TheSendSync as once
use Rattle.croquet_main.proofs.laws.guests_are_shared.Goals as goal

pub returns : goal.returns
returns c = search (sendable, crosses, once.the_sync) depth 60 fits 20000
