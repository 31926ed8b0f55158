use Rattle.commands.proofs.SomeVerdict.{some_verdict_comes}
use Rattle.commands.proofs.laws.some_verdict.Goals as goal

pub returns : goal.returns
returns c = some_verdict_comes c.one_reading.ensures.some
