-- The data of a list of values, and of values one after the other.
use Rattle.std.proofs.Common.{◌≡◌, List, [], ◌∷◌, map, refl, ap}
use Rattle.serde_json.specs.Data as json
use Rattle.serde_json.specs.Data.{Data}
use Rattle.serde_json.specs.View.{items_of}
use Rattle.model_value.specs.View.{plain, plains}
use Rattle.model_value.specs.declared.value.Value.{Value}
use Rattle.persist_json.specs.JsonOf.{data_of, items_data}

abbrev pub data_of_each : List Value → List Data
data_of_each = map (λ (v : Value). data_of (plain v))

pub items_data-plains : (vs : List Value) → items_data (plains vs) ≡ items_of (data_of_each vs)
items_data-plains [] = refl
items_data-plains (v ∷ vs) = ap (json.item (data_of (plain v))) (items_data-plains vs)

pub ruleset by_items = (items_data-plains)
