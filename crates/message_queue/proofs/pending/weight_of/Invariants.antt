use Rattle.std.proofs.Common.{◌≡◌, ◌+◌, drop}
use Rattle.world_plain.specs.World.{message_weight, total_weight}
use Rattle.message_queue.specs.Queue.{AreLightMessages}
use Rattle.message_queue.specs.View.{messages_seen}
use Rattle.message_queue.proofs.pending.weight_of.Given as goal

abbrev pub invariant-loop-message : goal.invariant-loop-message
invariant-loop-message l =
    let rest = drop l.message-index l.messages in
    (l.sum + total_weight message_weight (messages_seen rest) ≡ total_weight message_weight (messages_seen l.messages)) × AreLightMessages (messages_seen rest)
