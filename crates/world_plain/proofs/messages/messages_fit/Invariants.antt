use Rattle.std.proofs.Common.{map, drop}
use Rattle.std.specs.Prelude.{◌↔◌}
use Rattle.world_plain.specs.Messages.{plain_message}
use Rattle.world_plain.specs.Valid.{MessagesFit}
use Rattle.world_plain.specs.World.{object_record}
use Rattle.world_plain.proofs.messages.messages_fit.Given as goal

abbrev pub invariant-loop-message : goal.invariant-loop-message
invariant-loop-message l = let w = l.world in let objects = map object_record w.objects in MessagesFit w.time w.next_number objects (map plain_message l.messages) ↔ MessagesFit w.time w.next_number objects (map plain_message (drop l.message-index l.messages))
