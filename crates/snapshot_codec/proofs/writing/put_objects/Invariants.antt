use Rattle.std.proofs.Common.{◌≡◌, ◌≤◌, ◌++◌, map, drop}
use Rattle.std.specs.List.{flat_map, AllByRecursion}
use Rattle.world_plain.specs.World.{object_record, object_weight, total_weight, most_world_weight}
use Rattle.snapshot_codec.specs.Answer.{IsObject}
use Rattle.snapshot_codec.specs.Spelling.{object_spelling}
use Rattle.snapshot_codec.proofs.writing.put_objects.Given as goal

abbrev pub invariant-loop-object : goal.invariant-loop-object
invariant-loop-object l = record {
  light : total_weight object_weight (map object_record (drop l.object-index l.objects)) ≤ most_world_weight;
  held : AllByRecursion IsObject (map object_record (drop l.object-index l.objects)) → AllByRecursion IsObject (map object_record l.objects);
  written : l.out ++ flat_map object_spelling (map object_record (drop l.object-index l.objects)) ≡ l.initial.out ++ flat_map object_spelling (map object_record l.objects);
}
