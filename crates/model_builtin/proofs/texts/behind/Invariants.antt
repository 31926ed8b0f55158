use Rattle.std.specs.Str.Iter.{chars_rest}
use Rattle.tea_base.proofs.Characters.{Behind}
use Rattle.model_builtin.proofs.texts.behind.Given as goal

abbrev pub invariant-loop : goal.invariant-loop
invariant-loop l = Behind l.counter (chars_rest l.rest) l.text
