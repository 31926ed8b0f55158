use Rattle.model_check.proofs.Words.{root_named}
use Rattle.model_check.proofs.names.is_root.Goals as goal

pub returns : goal.returns
returns c = root_named c.eq.result c.as_str.result.now c.args.class.now.name c.eq.ensures c.as_str.ensures
