use Rattle.std.proofs.Common.{sym}
use Rattle.value_text.proofs.Numerals.{number_none}
use Rattle.value_text.proofs.reading.number_of.Goals as goal

pub returns-in-Err : goal.returns-in-Err
returns-in-Err c = sym (number_none c.args.low c.args.high c.args.digits.now c.in-Err.ensures.cases.0)
