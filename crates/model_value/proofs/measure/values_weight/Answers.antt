use Rattle.std.proofs.Common.{arith}
use Rattle.model_value.proofs.Totals.{value_within, weighed_below}
use Rattle.model_value.proofs.measure.values_weight.Goals as goal

pub overflow_add-sum : goal.overflow_add-sum
overflow_add-sum c =
    omega (arith, value_within c.args.values.now c.loop-value.value-index c.value-item.result c.loop-value-test.true, c.loop-value.invariant.0, c.requires.0, weighed_below _ c.requires.1, c.weight.ensures, c.from-sum.ensures)
