use Rattle.std.proofs.Common.{◌≡◌, ◌++◌, map, drop}
use Rattle.world_plain.specs.Messages.{plain_message}
use Rattle.world.proofs.resuming.put_messages.Given as goal

-- the messages put back so far, and behind them those that are left, are all
abbrev pub invariant-loop-message : goal.invariant-loop-message
invariant-loop-message l = record {
  messages : l.queue.messages ++ map plain_message (drop l.message-index l.message-items) ≡ map plain_message l.plain.pending;
  next : l.queue.next ≡ l.plain.next_number;
}
