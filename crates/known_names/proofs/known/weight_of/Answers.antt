use Rattle.std.proofs.Common.{ap, arith}
use Rattle.world_plain.specs.World.{known_weight}
use Rattle.known_names.proofs.KnownWeights.{weight_at}
use Rattle.known_names.proofs.known.weight_of.Goals as goal

pub overflow_add-sum : goal.overflow_add-sum
overflow_add-sum c =
    omega (arith, weight_at c.args.names.now c.loop-known.known-index c.known-item.result c.loop-known-test.true, ap known_weight c.known-item.is, c.loop-known.invariant, c.requires, c.name_weight-sum.ensures)
