use Rattle.std.proofs.Common.{◌≡◌, ◌≤◌, ◌++◌, map, drop}
use Rattle.std.specs.List.{flat_map, AllByRecursion}
use Rattle.world_plain.specs.Messages.{plain_message}
use Rattle.world_plain.specs.World.{message_weight, total_weight, most_world_weight}
use Rattle.snapshot_codec.specs.Conditions.{MessageHasFewArguments}
use Rattle.snapshot_codec.specs.Answer.{IsMessage}
use Rattle.snapshot_codec.specs.Spelling.{message_spelling}
use Rattle.snapshot_codec.proofs.writing.put_messages.Given as goal

abbrev pub invariant-loop-message : goal.invariant-loop-message
invariant-loop-message l = record {
  few : AllByRecursion MessageHasFewArguments (map plain_message (drop l.message-index l.messages));
  light : total_weight message_weight (map plain_message (drop l.message-index l.messages)) ≤ most_world_weight;
  held : AllByRecursion IsMessage (map plain_message (drop l.message-index l.messages)) → AllByRecursion IsMessage (map plain_message l.messages);
  written : l.out ++ flat_map message_spelling (map plain_message (drop l.message-index l.messages)) ≡ l.initial.out ++ flat_map message_spelling (map plain_message l.messages);
}
