use Rattle.std.proofs.Common.{◌≡◌, ◌≤◌, ◌++◌, drop}
use Rattle.std.specs.List.{flat_map, AllByRecursion}
use Rattle.world_plain.specs.World.{known_weight, total_weight, most_world_weight}
use Rattle.snapshot_codec.specs.Answer.{IsKnown}
use Rattle.snapshot_codec.specs.Spelling.{known_spelling}
use Rattle.snapshot_codec.proofs.writing.put_known_names.Given as goal

abbrev pub invariant-loop-one : goal.invariant-loop-one
invariant-loop-one l = record {
  light : total_weight known_weight (drop l.one-index l.known) ≤ most_world_weight;
  held : AllByRecursion IsKnown (drop l.one-index l.known) → AllByRecursion IsKnown l.known;
  written : l.out ++ flat_map known_spelling (drop l.one-index l.known) ≡ l.initial.out ++ flat_map known_spelling l.known;
}
