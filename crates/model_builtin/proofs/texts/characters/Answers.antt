use Rattle.std.proofs.Common.{sym}
use Rattle.std.proofs.lemmas.Str.{chars_from_encodes}
use Rattle.model_builtin.proofs.texts.characters.Goals as goal

pub returns : goal.returns
returns c = sym (chars_from_encodes c.args.text.now c.as_str.result.now c.as_str.utf8 (sym c.as_str.ensures))
