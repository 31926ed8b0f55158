-- A spelling behind other bytes is its rows behind them, one after the other.
use Rattle.std.proofs.Common.{◌≡◌, ℕ, List, ◌∷◌, ◌++◌, length, refl, append_assoc}
use Rattle.std.specs.Int.{to_be_bytes, w32, w64}
use Rattle.std.specs.List.{flat_map}
use Rattle.world_plain.specs.Messages.{PlainMessage}
use Rattle.byte_fields.specs.Fields.{text_field, list_of}
use Rattle.model_value.specs.Spelling.{value_spelling}
use Rattle.world_plain.specs.World.{WorldRecord}
use Rattle.snapshot_codec.specs.Spelling.{object_spelling, known_spelling, subscription_spelling, message_spelling, saved_spelling, world_spelling}

pub message_spelling-behind :
    (old : List ℕ) (m : PlainMessage)
    → old ++ message_spelling m
    ≡ old
    ++ to_be_bytes w64 m.time
    ++ to_be_bytes w64 m.number
    ++ to_be_bytes w32 m.object
    ++ text_field m.method
    ++ length m.args ∷ flat_map value_spelling m.args
unfolding message_spelling
message_spelling-behind old m = simp append_assoc refl

pub world_spelling-behind :
    (old : List ℕ) (w : WorldRecord)
    → old ++ world_spelling w
    ≡ old
    ++ w.id
    ++ to_be_bytes w64 w.time
    ++ to_be_bytes w32 w.next_object
    ++ to_be_bytes w64 w.next_number
    ++ to_be_bytes w64 w.random
    ++ to_be_bytes w32 w.turns
    ++ flat_map (to_be_bytes w64) w.faults
    ++ list_of (to_be_bytes w32) w.views
    ++ list_of object_spelling w.objects
    ++ list_of known_spelling w.known
    ++ list_of subscription_spelling w.subscriptions
    ++ list_of message_spelling w.pending
    ++ saved_spelling w.saved
unfolding world_spelling
world_spelling-behind old w = simp append_assoc refl

pub ruleset by_rows = (message_spelling-behind, world_spelling-behind)
