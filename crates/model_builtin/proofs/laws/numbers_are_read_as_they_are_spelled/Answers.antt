use Rattle.model_builtin.proofs.Spelled.{number_of-again, number_of-spelled}
use Rattle.model_builtin.proofs.laws.numbers_are_read_as_they_are_spelled.Goals as goal

pub returns-clause-again : goal.returns-clause-again
returns-clause-again c = number_of-again

pub returns-clause-only : goal.returns-clause-only
returns-clause-only c = number_of-spelled
