use Rattle.std.proofs.Common.{arith}
use Rattle.tea_base.proofs.Characters.{behind_is}
use Rattle.model_builtin.proofs.texts.copy_part.Goals as goal

pub returns : goal.returns
returns c =
    let rest = behind_is c.characters.result.now c.behind-rest.result.now c.args.from c.characters.utf8 c.behind-rest.utf8 c.behind-rest.ensures in
    grind (arith, rest)
