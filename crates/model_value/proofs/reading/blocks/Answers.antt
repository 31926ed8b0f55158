use Rattle.std.proofs.Common.{arith}
use Rattle.std.proofs.lemmas.Str.{encodes-chars}
use Rattle.model_value.proofs.reading.blocks.Goals as goal

pub returns : goal.returns
returns c = rw (encodes-chars c.args.text.now c.utf8.text) (omega (arith, c.div_ceil.ensures))
