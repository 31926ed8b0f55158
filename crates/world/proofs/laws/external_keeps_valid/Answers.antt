use Rattle.world.specs.Worlds.{field_counts}
use Rattle.world.proofs.Entries.{external-valid}
use Rattle.world.proofs.Replays.{external-id, external-time}
use Rattle.world.proofs.Turn.{program-fits}
use Rattle.world.proofs.laws.external_keeps_valid.Goals as goal

pub returns-clause-valid : goal.returns-clause-valid
returns-clause-valid c = λ program e a p v below. external-valid (field_counts program) program e a (program-fits program p) below v

pub returns-clause-session : goal.returns-clause-session
returns-clause-session c = λ program e a p. external-id program (program-fits program p) e a

pub returns-clause-time : goal.returns-clause-time
returns-clause-time c = λ program e a p v le. external-time program (program-fits program p) e a v le
