-- Reading a world, by the number of fields of each class of its program.
use Rattle.std.specs.Prelude.{ℕ, ◌==◌, not, if◌then◌else◌, List, [], length, Option, Some, None, slice_get}
use Rattle.std.specs.Int.{w16, w32, w64}
use Rattle.byte_fields.specs.Fields.{Decoder, ◌>>=◌, byte_at, bytes_at, number_at, text_at, paired_at, headed_at, made_at, tested_at, never_at, items_at, list_at, whole}
use Rattle.world_plain.specs.Messages.{PlainMessage}
use Rattle.model_value.specs.Plain.{PlainValue, nil}
use Rattle.snapshot_codec.specs.Spelling.{is_nil}
use Rattle.model_value.specs.Reading.{bounded_at}
use Rattle.world_plain.specs.WorldCode.{world_of_parts}
use Rattle.world_plain.specs.World.{ObjectRecord, WorldRecord}
use Rattle.world_plain.specs.declared.message.Subscription.{Subscription}
use Rattle.world_plain.specs.declared.world.Known.{Known}

-- so many values in bounds
abbrev pub values_at : ℕ → Decoder (List PlainValue)
values_at = items_at (λ _. bounded_at) []

-- the fields of a class, if there is such a class
abbrev pub fields_at : Option ℕ → Decoder (List PlainValue)
fields_at None = never_at
fields_at (Some count) = values_at count

-- the number of a class, and behind it as many fields as the class has
abbrev pub classed_at : List ℕ → Decoder (ℕ × List PlainValue)
classed_at counts = headed_at (number_at w16) (λ class.
    made_at (λ fields. (class, fields)) (fields_at (slice_get counts class)))

unfoldable pub object_record_at : List ℕ → Decoder ObjectRecord
object_record_at counts = made_at (λ p. record { id = p.0; class = p.1.0; fields = p.1.1 })
    (paired_at (number_at w32) (classed_at counts))

unfoldable pub known_at : Decoder Known
known_at = made_at (λ p. record { name = p.0; object = p.1 }) (paired_at text_at (number_at w32))

unfoldable pub subscription_at : Decoder Subscription
subscription_at =
    made_at (λ p. record { scope = p.0; event = p.1.0; object = p.1.1.0; method = p.1.1.1 })
    (paired_at text_at (paired_at text_at (paired_at (number_at w32) text_at)))

unfoldable pub message_at : Decoder PlainMessage
message_at =
    made_at (λ p. record { time = p.0; number = p.1.0; object = p.1.1.0; method = p.1.1.1.0; args = p.1.1.1.1 })
    (paired_at (number_at w64) (paired_at (number_at w64)
    (paired_at (number_at w32) (paired_at text_at (headed_at byte_at values_at)))))

-- the time, the next object and message, the state of the random numbers, and the turns
unfoldable pub singles_at : Decoder (ℕ × (ℕ × (ℕ × (ℕ × ℕ))))
singles_at = paired_at (number_at w64)
    (paired_at (number_at w32) (paired_at (number_at w64) (paired_at (number_at w64) (number_at w32))))

-- the counts of the kinds of fault
abbrev pub faults_at : Decoder (List ℕ)
faults_at = items_at (λ _. number_at w64) [] 14

-- what a world lists
abbrev pub WorldLists : Type 0
WorldLists = List ℕ × (List ObjectRecord × (List Known × (List Subscription × List PlainMessage)))

unfoldable pub rows_at : List ℕ → Decoder WorldLists
rows_at counts =
    paired_at (list_at (λ _. number_at w32))
    (paired_at (list_at (λ _. object_record_at counts))
    (paired_at (list_at (λ _. known_at))
    (paired_at (list_at (λ _. subscription_at))
    (list_at (λ _. message_at)))))

-- what a world has but for its saved value: the id, the single numbers, the counts of faults, and the lists
abbrev pub Front : Type 0
Front = List ℕ × ((ℕ × (ℕ × (ℕ × (ℕ × ℕ)))) × (List ℕ × WorldLists))

unfoldable pub front_at : List ℕ → Decoder Front
front_at counts = paired_at (bytes_at 32) (paired_at singles_at (paired_at faults_at (rows_at counts)))

-- a value other than nil
abbrev pub something_at : Decoder PlainValue
something_at = tested_at (λ v. not (is_nil v)) bounded_at

-- the saved value, by all bytes after the front: nil where there are none, and else another value
unfoldable pub saved_in : List ℕ → Option PlainValue
saved_in bytes = if length bytes == 0 then Some nil else whole something_at bytes

abbrev pub world_of_front : Front → PlainValue → WorldRecord
world_of_front p saved = world_of_parts (
  p.0,
  (p.1.0, (p.1.1.0, (p.1.1.1.0, (p.1.1.1.1.0, (p.1.1.1.1.1.0, (p.1.1.1.1.1.1.0, (p.1.1.1.1.1.1.1, saved))))))),
)

-- the world that all of the bytes spell
unfoldable pub world_in : List ℕ → List ℕ → Option WorldRecord
world_in counts bytes = front_at counts bytes >>= λ x. saved_in x.1 >>= λ saved. Some (world_of_front x.0 saved)
