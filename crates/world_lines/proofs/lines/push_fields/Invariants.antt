use Rattle.std.proofs.Common.{◌≡◌, ◌++◌, drop, string_bytes}
use Rattle.model_value.specs.View.{plain_values}
use Rattle.world_lines.specs.WorldLines.{fields_part}
use Rattle.world_lines.proofs.lines.push_fields.Given as goal

-- the fields so far, and those that are left
abbrev pub invariant-loop-i : goal.invariant-loop-i
invariant-loop-i l = string_bytes l.line ++ fields_part (drop l.i l.names) (plain_values (drop l.i l.values)) ≡ string_bytes l.fn.line ++ fields_part l.names (plain_values l.values)
