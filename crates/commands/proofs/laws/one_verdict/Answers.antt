use Rattle.commands.proofs.OneVerdict.{is_function}
use Rattle.commands.proofs.laws.one_verdict.Goals as goal

pub returns : goal.returns
returns c = is_function c.one_reading.ensures.one
