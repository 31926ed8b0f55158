-- Worlds, with plain values in them, and their weight.
use Rattle.std.specs.Prelude.{ℕ, ◌+◌, List, [], ◌∷◌, map}
use Rattle.model_value.specs.Plain.{PlainValue, text_weight, values_weight}
use Rattle.model_value.specs.View.{plain, plain_values}
use Rattle.saved_value.specs.Saving.{saved_weight}
use Rattle.world_plain.specs.Messages.{PlainMessage, plain_message}
use Rattle.world_plain.specs.declared.message.Subscription.{Subscription}
use Rattle.world_plain.specs.declared.world.PlainObject.{PlainObject}
use Rattle.world_plain.specs.declared.world.Known.{Known}
use Rattle.world_plain.specs.declared.world.PlainWorld.{PlainWorld}

pub record ObjectRecord : Type 0 where
  pub id : ℕ
  pub class : ℕ
  pub fields : List PlainValue

pub record WorldRecord : Type 0 where
  -- the bytes of the session's id
  pub id : List ℕ
  pub time : ℕ
  pub next_object : ℕ
  pub next_number : ℕ
  pub random : ℕ
  pub turns : ℕ
  pub faults : List ℕ
  pub views : List ℕ
  pub objects : List ObjectRecord
  pub known : List Known
  pub subscriptions : List Subscription
  pub pending : List PlainMessage
  -- nil where there is none
  pub saved : PlainValue

abbrev pub object_record : PlainObject → ObjectRecord
object_record object = record { id = object.id; class = object.class; fields = plain_values object.fields }

abbrev pub world_record : PlainWorld → WorldRecord
world_record w = record {
  id = w.id.0;
  time = w.time;
  next_object = w.next_object;
  next_number = w.next_number;
  random = w.random;
  turns = w.turns;
  faults = w.faults;
  views = w.views;
  objects = map object_record w.objects;
  known = w.known;
  subscriptions = w.subscriptions;
  pending = map plain_message w.pending;
  saved = plain w.saved;
}

-- ---- weights

abbrev pub object_weight : ObjectRecord → ℕ
object_weight object = 2 + values_weight object.fields

abbrev pub message_weight : PlainMessage → ℕ
message_weight message = 3 + text_weight message.method + values_weight message.args

abbrev pub subscription_weight : Subscription → ℕ
subscription_weight s = 2 + text_weight s.scope + text_weight s.event + text_weight s.method

abbrev pub known_weight : Known → ℕ
known_weight known = 1 + text_weight known.name

abbrev pub total_weight : {A : Type 0} → (A → ℕ) → List A → ℕ
total_weight weighs [] = 0
total_weight weighs (x ∷ xs) = weighs x + total_weight weighs xs

abbrev pub world_weight : WorldRecord → ℕ
world_weight w =
    total_weight object_weight w.objects + total_weight message_weight w.pending
    + total_weight subscription_weight w.subscriptions + total_weight known_weight w.known
    + saved_weight w.saved

abbrev pub most_world_weight : ℕ
most_world_weight = 131072
