-- The items of a list and its plain trees are the same list.
use Rattle.std.proofs.Common.{◌≡◌, List, [], ◌∷◌, refl, ap}
use Rattle.model_value.specs.Plain.{PlainValue, PlainValues, no_items, item, items_of}
use Rattle.model_value.specs.View.{plains_of}

pub items_of-plains_of : (vs : List PlainValue) → items_of (plains_of vs) ≡ vs
items_of-plains_of [] = refl
items_of-plains_of (v ∷ vs) = ap (λ (xs : List PlainValue). v ∷ xs) (items_of-plains_of vs)

pub plains_of-items_of : (items : PlainValues) → plains_of (items_of items) ≡ items
plains_of-items_of no_items = refl
plains_of-items_of (item v rest) = ap (item v) (plains_of-items_of rest)

pub ruleset by_items = (items_of-plains_of)
