use Rattle.command_trace.proofs.ReplayLaws.{all-chained, all-in, all-left}
use Rattle.command_trace.proofs.laws.steps_replay.Goals as goal

pub returns-clause-chained : goal.returns-clause-chained
returns-clause-chained c = λ founding id entries t founded legal. all-chained founding id founded entries legal t

pub returns-clause-entries : goal.returns-clause-entries
returns-clause-entries c = λ founding id entries t. all-in founding id entries t

pub returns-clause-replays : goal.returns-clause-replays
returns-clause-replays c = λ founding id entries t founded legal. all-left founding id founded entries legal t
