use Rattle.std.proofs.Common.{◌≡◌, map, take}
use Rattle.world_plain.specs.Messages.{plain_message}
use Rattle.world_plain.proofs.copies.copy_messages.Given as goal

abbrev pub invariant-loop-message : goal.invariant-loop-message
invariant-loop-message l = map plain_message l.copies.items ≡ map plain_message (take l.message-index l.messages)
