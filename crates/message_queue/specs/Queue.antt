-- Queues as lists of messages by rising time and number, and what each call makes of one.
use Rattle.std.specs.Prelude.{◌≡◌, ◌≤◌, ◌<◌, ◌+◌, ◌-◌, ◌^◌, ℕ, Bool, List, [], ◌∷◌, length, nat_eq, if◌then◌else◌, not, false, Option, Some, None, Result, Ok, Err, refl}
use Rattle.std.specs.List.{filter}
use Rattle.std.specs.Str.{bytes_eq}
use Rattle.std.specs.Coded.{Coded, code_by, coded×, coded_ℕ, coded_list}
use Rattle.model_value.specs.Plain.{PlainValue}
use Rattle.world_plain.specs.Messages.{PlainMessage, coded_message}
use Rattle.world_plain.specs.Valid.{AreInOrder, NumbersDiffer, most_messages}
use Rattle.world_plain.specs.ValidTest.{is_due_before}
use Rattle.world_plain.specs.World.{message_weight, most_world_weight}
use Rattle.world_plain.specs.declared.refusal.StoreRefusal.{StoreRefusal}
use Rattle.world_plain.specs.declared.refusal.StoreRefusal.TheVariants.{Full, Spent, WantOfMemory}

-- the messages that are held, by rising time and number, and the number that the next one gets
pub record QueueRecord : Type 0 where
  pub messages : List PlainMessage
  pub next : ℕ

abbrev pub coded_queue : Coded QueueRecord
coded_queue =
    code_by
    (List PlainMessage × ℕ)
    (coded× (coded_list coded_message) coded_ℕ)
    (λ q. (q.messages, q.next))
    (λ p. record { messages = p.0; next = p.1 })
    (λ _. refl)

-- the number that no message gets
abbrev pub last_message_number : ℕ
last_message_number = 2 ^ 64 - 1

-- as much as a world may weigh
abbrev pub IsLightMessage : PlainMessage → Type 0
IsLightMessage m = message_weight m ≤ most_world_weight

abbrev pub AreLightMessages : List PlainMessage → Type 0
AreLightMessages [] = Unit {0}
AreLightMessages (m ∷ ms) = IsLightMessage m × AreLightMessages ms

-- each number is below this one
abbrev pub NumbersBelow : ℕ → List PlainMessage → Type 0
NumbersBelow next [] = Unit {0}
NumbersBelow next (m ∷ ms) = (m.number < next) × NumbersBelow next ms

-- what is true of each queue; the first message precedes all others
pub record IsQueue (q : QueueRecord) : Type 0 where
  pub order : AreInOrder q.messages
  pub differ : NumbersDiffer q.messages
  pub next : NumbersBelow q.next q.messages
  pub light : AreLightMessages q.messages
  pub few : length q.messages ≤ most_messages

abbrev pub empty_queue : ℕ → QueueRecord
empty_queue next = record { messages = []; next = next }

-- in its place by time and number
abbrev pub insert_in_order : PlainMessage → List PlainMessage → List PlainMessage
insert_in_order m [] = m ∷ []
insert_in_order m (n ∷ ns) = if is_due_before m n then m ∷ n ∷ ns else n ∷ insert_in_order m ns

-- a message more
abbrev pub queue_with : PlainMessage → QueueRecord → QueueRecord
queue_with m q = record q { messages = insert_in_order m q.messages }

-- a call of an object's method, which gets the next number
abbrev pub new_message : ℕ → ℕ → List ℕ → List PlainValue → QueueRecord → PlainMessage
new_message time object method args q =
    record { time = time; number = q.next; object = object; method = method; args = args }

abbrev pub queue_after_push : ℕ → ℕ → List ℕ → List PlainValue → QueueRecord → QueueRecord
queue_after_push time object method args q =
    record { messages = insert_in_order (new_message time object method args q) q.messages; next = q.next + 1 }

-- the time and the number of the first message, if there is one
abbrev pub least_of : List PlainMessage → Option (ℕ × ℕ)
least_of [] = None
least_of (m ∷ ms) = Some (m.time, m.number)

-- the first message, and the queue without it
abbrev pub TakesLeast : Option PlainMessage → QueueRecord → QueueRecord → Type 0
TakesLeast None old new = (old.messages ≡ []) × (new ≡ old)
TakesLeast (Some m) old new = (old.messages ≡ m ∷ new.messages) × (new.next ≡ old.next)

-- a call of this method of this object
abbrev pub calls : ℕ → List ℕ → PlainMessage → Bool
calls object method m = if nat_eq m.object object then bytes_eq m.method method else false

-- the messages but the calls of a method of an object
abbrev pub without_calls : ℕ → List ℕ → QueueRecord → QueueRecord
without_calls object method q = record q { messages = filter (λ m. not (calls object method m)) q.messages }

-- the messages but those to an object
abbrev pub without_messages_to : ℕ → QueueRecord → QueueRecord
without_messages_to object q = record q { messages = filter (λ m. not (nat_eq m.object object)) q.messages }

abbrev pub IsFullQueue : QueueRecord → Type 0
IsFullQueue q = length q.messages ≡ most_messages

-- neither full nor spent
abbrev pub QueueHasRoom : QueueRecord → Type 0
QueueHasRoom q = (length q.messages < most_messages) × (q.next < last_message_number)

-- what a push answers, and what it makes of the queue
abbrev pub Pushes : Result ℕ StoreRefusal → ℕ → ℕ → List ℕ → List PlainValue → QueueRecord → QueueRecord → Type 0
Pushes (Ok number) time object method args old new =
    QueueHasRoom old × (number ≡ old.next) × (new ≡ queue_after_push time object method args old)
Pushes (Err (Full count)) time object method args old new =
    IsFullQueue old × (count ≡ length old.messages) × (new ≡ old)
Pushes (Err Spent) time object method args old new =
    (length old.messages < most_messages) × (old.next ≡ last_message_number) × (new ≡ old)
Pushes (Err WantOfMemory) time object method args old new = QueueHasRoom old × (new ≡ old)
