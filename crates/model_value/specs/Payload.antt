-- Payloads: what an event carries, and its one spelling.
use Rattle.std.specs.Prelude.{◌≡◌, ◌<◌, ◌^◌, ℕ, true, List, ◌++◌, length, Option, encode_utf8_all}
use Rattle.std.specs.Str.{all_scalars}
use Rattle.byte_fields.specs.Fields.{Decoder, text_at, paired_at, made_at, whole, text_field}
use Rattle.tea_base.specs.declared.text.Text.{Text}
use Rattle.model_value.specs.Plain.{PlainValue, InBounds}
use Rattle.model_value.specs.Reading.{bounded_at}
use Rattle.model_value.specs.Spelling.{value_spelling, IsValue}
use Rattle.model_value.specs.View.{plain}
use Rattle.model_value.specs.declared.value.Value.{Value}

-- a scope, an event's name and a value
pub record PlainPayload : Type 0 where
  pub scope : List ℕ
  pub event : List ℕ
  pub value : PlainValue

abbrev pub plain_payload : Text × Text × Value → PlainPayload
plain_payload p = record { scope = p.0; event = p.1; value = plain p.2 }

abbrev pub payload_spelling : PlainPayload → List ℕ
payload_spelling p = text_field p.scope ++ (text_field p.event ++ value_spelling p.value)

-- of Unicode scalar values, and not too long for its length field
abbrev pub IsFieldText : List ℕ → Type 0
IsFieldText characters = (all_scalars characters ≡ true) × (length (encode_utf8_all characters) < 2 ^ 32)

pub record IsPayload (p : PlainPayload) : Type 0 where
  pub scope : IsFieldText p.scope
  pub event : IsFieldText p.event
  pub value : IsValue p.value
  pub bounds : InBounds p.value

-- reading a payload
unfoldable pub payload_at : Decoder PlainPayload
payload_at = made_at (λ p. record { scope = p.0; event = p.1.0; value = p.1.1 })
    (paired_at text_at (paired_at text_at bounded_at))

-- the payload that bytes spell, if they spell one
abbrev pub whole_payload : List ℕ → Option PlainPayload
whole_payload = whole payload_at
