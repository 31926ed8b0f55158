use Rattle.world.specs.Worlds.{field_counts}
use Rattle.world.proofs.Turn.{program-fits}
use Rattle.world.proofs.TurnLaws.{turns-arrive, turn-goes_on, turn-rests, turn-early}
use Rattle.world.proofs.laws.turns_advance.Goals as goal

pub returns-clause-arrive : goal.returns-clause-arrive
returns-clause-arrive c = λ program t a p v. turns-arrive (field_counts program) program t (program-fits program p) a v

pub returns-clause-goes_on : goal.returns-clause-goes_on
returns-clause-goes_on c = λ program t a p v. turn-goes_on (field_counts program) program t (program-fits program p) a v

pub returns-clause-rests : goal.returns-clause-rests
returns-clause-rests c = λ program t a p v none. turn-rests (field_counts program) program t (program-fits program p) a v none

pub returns-clause-early : goal.returns-clause-early
returns-clause-early c = λ program t a p le. turn-early (field_counts program) program t (program-fits program p) a le
