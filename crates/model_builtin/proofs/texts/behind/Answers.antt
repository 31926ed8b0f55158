use Rattle.std.proofs.Common.{◌++◌, ap, ◌∙◌, arith, encode_utf8_all, take}
use Rattle.std.specs.Str.{chars}
use Rattle.std.specs.Str.Iter.{chars_rest}
use Rattle.tea_base.proofs.Characters.{stepped, is_parted_at}
use Rattle.model_builtin.proofs.texts.behind.Goals as goal

pub loop-preserved : goal.loop-preserved
loop-preserved c = stepped c.loop.counter c.loop.rest c.next.new.self c.next.result c.args.text.now c.loop.invariant c.next.ensures.steps

pub returns : goal.returns
returns c =
    ap (λ rest. encode_utf8_all (take c.args.count (chars c.args.text.now)) ++ rest) c.as_str.ensures
    ∙ is_parted_at c.loop.counter c.args.count (chars_rest c.loop.rest) c.args.text.now (omega arith) c.utf8.text c.loop.invariant
