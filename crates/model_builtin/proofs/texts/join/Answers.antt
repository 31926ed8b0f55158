use Rattle.std.proofs.Common.{arith}
use Rattle.std.proofs.lemmas.Str.{chars_from_encodes, chars-append}
use Rattle.model_builtin.proofs.texts.join.Goals as goal

pub returns : goal.returns
returns c = grind (arith, chars_from_encodes, chars-append, c.as_str.utf8, c.as_str-2.utf8)
