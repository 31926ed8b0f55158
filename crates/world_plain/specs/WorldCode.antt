-- Codes of objects, known names, subscriptions and worlds, so that a type may be seen as holding them.
use Rattle.std.specs.Prelude.{ℕ, List, refl}
use Rattle.std.specs.Coded.{Coded, code_by, coded×, coded_ℕ, coded_list}
use Rattle.model_value.specs.Plain.{PlainValue}
use Rattle.model_value.specs.PlainCode.{coded_plain}
use Rattle.world_plain.specs.Messages.{PlainMessage, coded_message}
use Rattle.world_plain.specs.World.{ObjectRecord, WorldRecord}
use Rattle.world_plain.specs.declared.message.Subscription.{Subscription}
use Rattle.world_plain.specs.declared.world.Known.{Known}

abbrev pub coded_object : Coded ObjectRecord
coded_object =
    code_by
    (ℕ × (ℕ × List PlainValue))
    (coded× coded_ℕ (coded× coded_ℕ (coded_list coded_plain)))
    (λ o. (o.id, (o.class, o.fields)))
    (λ p. record { id = p.0; class = p.1.0; fields = p.1.1 })
    (λ _. refl)

abbrev pub coded_known : Coded Known
coded_known =
    code_by
    (List ℕ × ℕ)
    (coded× (coded_list coded_ℕ) coded_ℕ)
    (λ k. (k.name, k.object))
    (λ p. record { name = p.0; object = p.1 })
    (λ _. refl)

abbrev pub coded_subscription : Coded Subscription
coded_subscription =
    code_by
    (List ℕ × (List ℕ × (ℕ × List ℕ)))
    (coded× (coded_list coded_ℕ) (coded× (coded_list coded_ℕ) (coded× coded_ℕ (coded_list coded_ℕ))))
    (λ s. (s.scope, (s.event, (s.object, s.method))))
    (λ p. record { scope = p.0; event = p.1.0; object = p.1.1.0; method = p.1.1.1 })
    (λ _. refl)

-- the single numbers of a world: its time, its next object and message, the state of its random numbers, and its turns
abbrev pub Singles : Type 0
Singles = ℕ × (ℕ × (ℕ × (ℕ × ℕ)))

abbrev pub coded_singles : Coded Singles
coded_singles = coded× coded_ℕ (coded× coded_ℕ (coded× coded_ℕ (coded× coded_ℕ coded_ℕ)))

-- what a world lists
abbrev pub Rows : Type 0
Rows = List ℕ × (List ℕ × (List ObjectRecord × (List Known × (List Subscription × (List PlainMessage × PlainValue)))))

abbrev pub coded_rows : Coded Rows
coded_rows =
    coded×
    (coded_list coded_ℕ)
    (coded× (coded_list coded_ℕ)
    (coded× (coded_list coded_object)
    (coded× (coded_list coded_known)
    (coded× (coded_list coded_subscription) (coded× (coded_list coded_message) coded_plain)))))

-- the world of its parts, in the order of its spelling
abbrev pub world_of_parts : List ℕ × (Singles × Rows) → WorldRecord
world_of_parts p = record {
  id = p.0;
  time = p.1.0.0;
  next_object = p.1.0.1.0;
  next_number = p.1.0.1.1.0;
  random = p.1.0.1.1.1.0;
  turns = p.1.0.1.1.1.1;
  faults = p.1.1.0;
  views = p.1.1.1.0;
  objects = p.1.1.1.1.0;
  known = p.1.1.1.1.1.0;
  subscriptions = p.1.1.1.1.1.1.0;
  pending = p.1.1.1.1.1.1.1.0;
  saved = p.1.1.1.1.1.1.1.1;
}

abbrev pub coded_world : Coded WorldRecord
coded_world =
    code_by
    (List ℕ × (Singles × Rows))
    (coded× (coded_list coded_ℕ) (coded× coded_singles coded_rows))
    (λ w. (
      w.id,
      (
        (w.time, (w.next_object, (w.next_number, (w.random, w.turns)))),
        (w.faults, (w.views, (w.objects, (w.known, (w.subscriptions, (w.pending, w.saved)))))),
      ),
    ))
    world_of_parts
    (λ _. refl)
