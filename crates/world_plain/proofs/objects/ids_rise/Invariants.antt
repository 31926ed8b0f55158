use Rattle.std.proofs.Common.{map, drop}
use Rattle.std.specs.Prelude.{◌↔◌}
use Rattle.world_plain.specs.Valid.{RiseFrom}
use Rattle.world_plain.specs.World.{object_record}
use Rattle.world_plain.proofs.objects.ids_rise.Given as goal

abbrev pub invariant-loop-object : goal.invariant-loop-object
invariant-loop-object l = RiseFrom 0 (map (λ o. o.id) (map object_record l.objects)) ↔ RiseFrom l.last (map (λ o. o.id) (map object_record (drop l.object-index l.objects)))
