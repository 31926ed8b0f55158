use Rattle.std.proofs.Common.{◌≡◌, ◌++◌, drop, string_bytes}
use Rattle.std.specs.Prelude.{flat_map}
use Rattle.world_lines.specs.WorldLines.{topic_line}
use Rattle.world_lines.proofs.lines.topic_lines.Given as goal

-- the lines so far, and those of the subscriptions that are left
abbrev pub invariant-loop-topic : goal.invariant-loop-topic
invariant-loop-topic l = string_bytes l.text ++ flat_map topic_line (drop l.topic-index l.topics) ≡ flat_map topic_line l.topics
