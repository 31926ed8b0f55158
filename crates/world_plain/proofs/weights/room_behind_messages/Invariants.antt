use Rattle.std.proofs.Common.{◌≡◌, ◌+◌, map, drop}
use Rattle.world_plain.specs.Messages.{plain_message}
use Rattle.world_plain.specs.World.{message_weight, total_weight}
use Rattle.world_plain.proofs.weights.room_behind_messages.Given as goal

abbrev pub invariant-loop-message : goal.invariant-loop-message
invariant-loop-message l = l.left + total_weight message_weight (map plain_message l.messages) ≡ l.room + total_weight message_weight (map plain_message (drop l.message-index l.messages))
