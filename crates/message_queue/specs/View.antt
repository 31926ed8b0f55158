-- How the messages in memory are seen.
use Rattle.std.specs.Prelude.{◌≡◌, ℕ, List, [], ◌∷◌, map}
use Rattle.world_plain.specs.Messages.{PlainMessage, plain_message}
use Rattle.world_plain.specs.World.{message_weight, total_weight}
use Rattle.world_plain.specs.declared.message.Message.{Message}
use Rattle.message_queue.specs.Heap.{IsHeap}
use Rattle.message_queue.specs.Queue.{QueueRecord, IsQueue, insert_in_order}

abbrev pub messages_seen : List Message → List PlainMessage
messages_seen = map plain_message

-- by rising time and number
abbrev pub in_order : List PlainMessage → List PlainMessage
in_order [] = []
in_order (m ∷ ms) = insert_in_order m (in_order ms)

-- the messages in memory, in their order, with the number that the next one gets
abbrev pub queue_seen : List Message → ℕ → QueueRecord
queue_seen ms next = record { messages = in_order (messages_seen ms); next = next }

-- what is true of the messages in memory
pub record HoldsQueue (ms : List Message) (next weight : ℕ) : Type 0 where
  pub queue : IsQueue (queue_seen ms next)
  pub heap : IsHeap ms
  pub total : weight ≡ total_weight message_weight (in_order (messages_seen ms))
