use Rattle.std.proofs.Common.{◌≡◌, ◌++◌, map, drop}
use Rattle.world_plain.specs.World.{object_record}
use Rattle.world.proofs.resuming.put_objects.Given as goal

-- the objects put back so far, and behind them those that are left, are all
abbrev pub invariant-loop-object : goal.invariant-loop-object
invariant-loop-object l = record {
  objects : l.store.objects ++ map object_record (drop l.object-index l.object-items) ≡ map object_record l.plain.objects;
  next : l.store.next ≡ l.plain.next_object;
}
