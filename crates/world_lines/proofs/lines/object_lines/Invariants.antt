use Rattle.std.proofs.Common.{◌≡◌, ◌++◌, drop, map, string_bytes}
use Rattle.std.specs.Prelude.{flat_map}
use Rattle.model_tree.specs.TreeView.{program_tree}
use Rattle.world_plain.specs.World.{object_record}
use Rattle.world_lines.specs.WorldLines.{object_line}
use Rattle.world_lines.proofs.lines.object_lines.Given as goal

-- the lines so far, and those of the objects that are left
abbrev pub invariant-loop-object : goal.invariant-loop-object
invariant-loop-object l =
    string_bytes l.text ++ flat_map (object_line (program_tree l.classes)) (map object_record (drop l.object-index l.objects)) ≡ flat_map (object_line (program_tree l.classes)) (map object_record l.objects)
