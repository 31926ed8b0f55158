use Rattle.std.proofs.Common.{◌≡◌, ◌+◌, map, drop}
use Rattle.world_plain.specs.World.{object_weight, total_weight, object_record}
use Rattle.world_plain.proofs.weights.room_behind_objects.Given as goal

abbrev pub invariant-loop-object : goal.invariant-loop-object
invariant-loop-object l = l.left + total_weight object_weight (map object_record l.objects) ≡ l.room + total_weight object_weight (map object_record (drop l.object-index l.objects))
