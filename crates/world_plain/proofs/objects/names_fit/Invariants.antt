use Rattle.std.proofs.Common.{map, drop}
use Rattle.std.specs.Prelude.{◌↔◌}
use Rattle.world_plain.specs.Valid.{KnownFit}
use Rattle.world_plain.specs.World.{object_record}
use Rattle.world_plain.proofs.objects.names_fit.Given as goal

abbrev pub invariant-loop-one : goal.invariant-loop-one
invariant-loop-one l = let objects = map object_record l.objects in KnownFit objects l.known ↔ KnownFit objects (drop l.one-index l.known)
