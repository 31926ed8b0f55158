use Rattle.std.proofs.Common.{◌≡◌, ◌+◌, drop}
use Rattle.world_plain.specs.World.{known_weight, total_weight}
use Rattle.world_plain.proofs.weights.room_behind_known.Given as goal

abbrev pub invariant-loop-one : goal.invariant-loop-one
invariant-loop-one l = l.left + total_weight known_weight l.known ≡ l.room + total_weight known_weight (drop l.one-index l.known)
