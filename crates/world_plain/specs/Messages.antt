-- Messages and what models publish, with plain values in them, and codes of both.
use Rattle.std.specs.Prelude.{ℕ, List, refl}
use Rattle.std.specs.Coded.{Coded, code_by, coded×, coded_ℕ, coded_list}
use Rattle.model_value.specs.Plain.{PlainValue}
use Rattle.model_value.specs.PlainCode.{coded_plain}
use Rattle.model_value.specs.View.{plain, plain_values}
use Rattle.world_plain.specs.declared.message.Message.{Message}
use Rattle.world_plain.specs.declared.message.Outgoing.{Outgoing}

-- the number orders the messages of one time; the object is its number, the method its name
pub record PlainMessage : Type 0 where
  pub time : ℕ
  pub number : ℕ
  pub object : ℕ
  pub method : List ℕ
  pub args : List PlainValue

pub record PlainOutgoing : Type 0 where
  pub time : ℕ
  pub scope : List ℕ
  pub event : List ℕ
  pub value : PlainValue

abbrev pub plain_message : Message → PlainMessage
plain_message message =
    record {
      time = message.time;
      number = message.number;
      object = message.object;
      method = message.method;
      args = plain_values message.args;
    }

abbrev pub plain_outgoing : Outgoing → PlainOutgoing
plain_outgoing outgoing =
    record { time = outgoing.time; scope = outgoing.scope; event = outgoing.event; value = plain outgoing.value }

abbrev pub coded_message : Coded PlainMessage
coded_message =
    code_by
    (ℕ × (ℕ × (ℕ × (List ℕ × List PlainValue))))
    (coded× coded_ℕ (coded× coded_ℕ (coded× coded_ℕ (coded× (coded_list coded_ℕ) (coded_list coded_plain)))))
    (λ m. (m.time, (m.number, (m.object, (m.method, m.args)))))
    (λ p. record { time = p.0; number = p.1.0; object = p.1.1.0; method = p.1.1.1.0; args = p.1.1.1.1 })
    (λ _. refl)

abbrev pub coded_outgoing : Coded PlainOutgoing
coded_outgoing =
    code_by
    (ℕ × (List ℕ × (List ℕ × PlainValue)))
    (coded× coded_ℕ (coded× (coded_list coded_ℕ) (coded× (coded_list coded_ℕ) coded_plain)))
    (λ o. (o.time, (o.scope, (o.event, o.value))))
    (λ p. record { time = p.0; scope = p.1.0; event = p.1.1.0; value = p.1.1.1 })
    (λ _. refl)
