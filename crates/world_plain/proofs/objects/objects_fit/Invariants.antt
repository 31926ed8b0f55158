use Rattle.std.proofs.Common.{map, drop}
use Rattle.std.specs.Prelude.{◌↔◌}
use Rattle.world_plain.specs.Valid.{ObjectsFit}
use Rattle.world_plain.specs.World.{object_record}
use Rattle.world_plain.proofs.objects.objects_fit.Given as goal

abbrev pub invariant-loop-object : goal.invariant-loop-object
invariant-loop-object l = ObjectsFit l.counts l.next (map object_record l.objects) ↔ ObjectsFit l.counts l.next (map object_record (drop l.object-index l.objects))
