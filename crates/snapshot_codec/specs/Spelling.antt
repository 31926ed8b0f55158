-- The one spelling of a world. All numbers are big-endian.
use Rattle.std.specs.Prelude.{ℕ, Bool, true, false, if◌then◌else◌, List, [], ◌∷◌, ◌++◌, length}
use Rattle.std.specs.List.{flat_map}
use Rattle.std.specs.Int.{to_be_bytes, w16, w32, w64}
use Rattle.world_plain.specs.Messages.{PlainMessage}
use Rattle.byte_fields.specs.Fields.{list_of, text_field}
use Rattle.model_value.specs.Plain.{PlainValue, nil, bool, int, text, ref, list}
use Rattle.model_value.specs.Spelling.{value_spelling}
use Rattle.world_plain.specs.World.{ObjectRecord, WorldRecord}
use Rattle.world_plain.specs.declared.message.Subscription.{Subscription}
use Rattle.world_plain.specs.declared.world.Known.{Known}

-- its fields have no count of their own, since the class says how many there are
unfoldable pub object_spelling : ObjectRecord → List ℕ
object_spelling o =
    to_be_bytes w32 o.id
    ++ to_be_bytes w16 o.class
    ++ flat_map value_spelling o.fields

unfoldable pub known_spelling : Known → List ℕ
known_spelling k =
    text_field k.name
    ++ to_be_bytes w32 k.object

unfoldable pub subscription_spelling : Subscription → List ℕ
subscription_spelling s =
    text_field s.scope
    ++ text_field s.event
    ++ to_be_bytes w32 s.object
    ++ text_field s.method

-- the count of the arguments is one byte
unfoldable pub message_spelling : PlainMessage → List ℕ
message_spelling m =
    to_be_bytes w64 m.time
    ++ to_be_bytes w64 m.number
    ++ to_be_bytes w32 m.object
    ++ text_field m.method
    ++ length m.args ∷ flat_map value_spelling m.args

abbrev pub is_nil : PlainValue → Bool
is_nil nil = true
is_nil (bool flag) = false
is_nil (int number) = false
is_nil (text characters) = false
is_nil (ref object) = false
is_nil (list items) = false

-- nothing stands for nil
abbrev pub saved_spelling : PlainValue → List ℕ
saved_spelling v = if is_nil v then [] else value_spelling v

-- what the persisted value adds to what the id of a session is the digest of: nothing for nil
abbrev pub persisted_bytes : PlainValue → List ℕ
persisted_bytes v = if is_nil v then [] else 0 ∷ value_spelling v

-- the counts of faults are 14, and have no count of their own; the saved value is the last
unfoldable pub world_spelling : WorldRecord → List ℕ
world_spelling w =
    w.id
    ++ to_be_bytes w64 w.time
    ++ to_be_bytes w32 w.next_object
    ++ to_be_bytes w64 w.next_number
    ++ to_be_bytes w64 w.random
    ++ to_be_bytes w32 w.turns
    ++ flat_map (to_be_bytes w64) w.faults
    ++ list_of (to_be_bytes w32) w.views
    ++ list_of object_spelling w.objects
    ++ list_of known_spelling w.known
    ++ list_of subscription_spelling w.subscriptions
    ++ list_of message_spelling w.pending
    ++ saved_spelling w.saved
