use Rattle.world.proofs.FirstWorld.{first-valid}
use Rattle.world.proofs.Replays.{first-id, first-begins}
use Rattle.world.proofs.Turn.{program-fits}
use Rattle.world.proofs.laws.first_world_is_valid.Goals as goal

pub returns-clause-valid : goal.returns-clause-valid
returns-clause-valid c = λ founding id f. first-valid founding id f.persisted (program-fits founding.tree f.program)

pub returns-clause-session : goal.returns-clause-session
returns-clause-session c = λ founding id f. first-id founding (program-fits founding.tree f.program) id

pub returns-clause-time : goal.returns-clause-time
returns-clause-time c = λ founding id f. first-begins founding (program-fits founding.tree f.program) id
