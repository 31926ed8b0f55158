-- What the lock's slot holds may move to another thread.
use denote.RattleType.{RattleType}
use denote.Param.Send.{IsSend, sendable}
use Rattle.std.proofs.Crossing.{crosses}
use Rattle.session_lock.specs.contracts.held.Held as held
use Rattle.session_lock.specs.contracts.held.KeptSession as kept

pub held_send : IsSend held.the_row
held_send = search (sendable, crosses) depth 60 fits 20000

pub kept_send : (K : RattleType) → IsSend K → IsSend (kept.the_row K)
kept_send K k = let h = held_send in search (sendable, crosses) depth 60 fits 20000
