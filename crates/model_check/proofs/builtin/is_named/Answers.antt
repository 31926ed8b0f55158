use Rattle.model_check.proofs.Words.{builtin_spelled}
use Rattle.model_check.proofs.builtin.is_named.Goals as goal

pub returns : goal.returns
returns c = builtin_spelled c.args.builtin c.eq.result c.as_str.result.now c.word.result.now c.args.name.now c.word.ensures c.eq.ensures c.as_str.ensures
