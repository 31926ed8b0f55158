use Rattle.std.specs.Bool.{one_answer}
use Rattle.std.proofs.lemmas.Slice.Eq.{bytes_eq-Decides}
use Rattle.host_config.proofs.programs.is_same.Goals as goal

pub returns : goal.returns
returns c = one_answer _ _ c.is_text.ensures (bytes_eq-Decides c.args.name.now c.args.other.now)
