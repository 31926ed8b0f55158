use Rattle.world.proofs.FirstWorld.{first-valid}
use Rattle.world.proofs.Turn.{program-fits}
use Rattle.world.proofs.Replays.{replay-stands, replay-stays}
use Rattle.world.proofs.laws.replay_rests.Goals as goal

pub returns-clause-valid : goal.returns-clause-valid
returns-clause-valid c = λ founding id entries t f legal below. (replay-stands founding (program-fits founding.tree f.program) id entries t (first-valid founding id f.persisted (program-fits founding.tree f.program)) legal below).valid

pub returns-clause-session : goal.returns-clause-session
returns-clause-session c = λ founding id entries t f legal below. (replay-stands founding (program-fits founding.tree f.program) id entries t (first-valid founding id f.persisted (program-fits founding.tree f.program)) legal below).session

pub returns-clause-time : goal.returns-clause-time
returns-clause-time c = λ founding id entries t f legal below. (replay-stands founding (program-fits founding.tree f.program) id entries t (first-valid founding id f.persisted (program-fits founding.tree f.program)) legal below).time

pub returns-clause-stays : goal.returns-clause-stays
returns-clause-stays c = λ founding id entries t f legal below. replay-stays founding (program-fits founding.tree f.program) id entries t (first-valid founding id f.persisted (program-fits founding.tree f.program)) legal below
