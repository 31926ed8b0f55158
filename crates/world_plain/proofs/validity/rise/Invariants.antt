use Rattle.std.proofs.Common.{drop}
use Rattle.std.specs.Prelude.{◌↔◌}
use Rattle.world_plain.specs.Valid.{RiseFrom}
use Rattle.world_plain.proofs.validity.rise.Given as goal

abbrev pub invariant-loop-number : goal.invariant-loop-number
invariant-loop-number l = RiseFrom 0 l.numbers ↔ RiseFrom l.last (drop l.number-index l.numbers)
