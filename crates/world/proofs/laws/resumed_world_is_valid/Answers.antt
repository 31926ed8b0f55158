use Rattle.world.proofs.Turn.{program-fits}
use Rattle.world.proofs.Replays.{resumed-stands}
use Rattle.world.proofs.laws.resumed_world_is_valid.Goals as goal

pub returns-clause-valid : goal.returns-clause-valid
returns-clause-valid c = λ program w entries t p v legal le below. (resumed-stands program (program-fits program p) w entries t v legal le below).valid

pub returns-clause-session : goal.returns-clause-session
returns-clause-session c = λ program w entries t p v legal le below. (resumed-stands program (program-fits program p) w entries t v legal le below).session

pub returns-clause-time : goal.returns-clause-time
returns-clause-time c = λ program w entries t p v legal le below. (resumed-stands program (program-fits program p) w entries t v legal le below).time
