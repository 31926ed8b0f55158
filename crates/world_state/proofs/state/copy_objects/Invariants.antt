use Rattle.std.proofs.Common.{◌≡◌, map, take}
use Rattle.world_plain.specs.World.{object_record}
use Rattle.object_store.specs.View.{objects_seen}
use Rattle.world_state.proofs.state.copy_objects.Given as goal

abbrev pub invariant-loop-object : goal.invariant-loop-object
invariant-loop-object l = map object_record l.copies.items ≡ objects_seen (take l.object-index l.objects)
