use Rattle.std.proofs.Common.{◌≡◌, ◌++◌, drop, map, string_bytes}
use Rattle.std.specs.Prelude.{flat_map}
use Rattle.world_plain.specs.Messages.{plain_message}
use Rattle.world_lines.specs.WorldLines.{pending_line}
use Rattle.world_lines.proofs.lines.pending_lines.Given as goal

-- the lines so far, and those of the messages that are left
abbrev pub invariant-loop-message : goal.invariant-loop-message
invariant-loop-message l = string_bytes l.text ++ flat_map pending_line (map plain_message (drop l.message-index l.messages)) ≡ flat_map pending_line (map plain_message l.messages)
