use Rattle.std.proofs.Common.{◌≡◌, ◌++◌, drop, string_bytes}
use Rattle.world_lines.specs.WorldLines.{fault_parts, fault_words}
use Rattle.world_lines.proofs.faults.fault_lines.Given as goal

-- the lines so far, and those of the kinds that are left
abbrev pub invariant-loop-place : goal.invariant-loop-place
invariant-loop-place l = string_bytes l.text ++ fault_parts (drop l.place fault_words) (drop l.place l.counts) ≡ fault_parts fault_words l.counts
