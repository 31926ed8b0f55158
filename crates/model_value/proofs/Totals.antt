-- Weights of lists add up, and lists nest no deeper than they weigh.
use Rattle.std.proofs.Common.{◌≡◌, ◌+◌, ◌≤◌, ℕ, zero, suc, ◌<◌, ◌^◌, ◌*◌, List, [], ◌∷◌, ◌++◌, length, drop, get_or, refl, arith}
use Rattle.std.specs.List.{AllByRecursion}
use Rattle.model_value.specs.declared.value.Value.{Value}
use Rattle.model_value.specs.Plain.{AreWeighable, PlainValue, nil, bool, int, text, ref, list, PlainValues, no_items, item, weight, weight_of_all, depth, greatest_depth, values_weight}
use Rattle.model_value.specs.View.{plain, plain_values, plains_of}
use Rattle.model_value.proofs.Spellings.{weight-positive}

pub values_weight-append : (xs ys : List PlainValue) → values_weight (xs ++ ys) ≡ values_weight xs + values_weight ys
values_weight-append [] ys = omega arith
values_weight-append (x ∷ xs) ys = omega (arith, values_weight-append xs ys)

-- a value of a list weighs no more than it and those behind it
pub value_within : (vs : List Value) (i : ℕ) (d : Value) → i < length vs → weight (plain (get_or vs i d)) ≤ values_weight (plain_values (drop i vs))
value_within [] i d h = absurd (omega arith)
value_within (v ∷ vs) zero d h = omega arith
value_within (v ∷ vs) (suc i) d h = value_within vs i d (omega arith)

-- values that can be weighed together weigh less than 2^64
pub weighed_below : (vs : List PlainValue) → AllByRecursion (λ v. weight v < 2 ^ 32) vs → values_weight vs ≤ length vs * 4294967295
weighed_below [] h = omega arith
weighed_below (v ∷ vs) h = omega (arith, h.0, weighed_below vs h.1)

-- values that weigh so little are so few, and none of them weighs more
pub light_within : (vs : List PlainValue) (room most : ℕ) → values_weight vs ≤ room → room ≤ most → (length vs ≤ room) × AllByRecursion (λ v. weight v ≤ most) vs
light_within [] room most h below = (omega (arith, h), tt)
light_within (v ∷ vs) room most h below =
    let rest = light_within vs (values_weight vs) most (omega arith) (omega (arith, h, below)) in
    (omega (arith, weight-positive v, h, rest.0), (omega (arith, h, below), rest.1))

-- values of which none weighs more than this can be weighed together
pub AreWeighable-most : (most : ℕ) → most < 2 ^ 32 → (vs : List PlainValue) → length vs ≤ most → AllByRecursion (λ v. weight v ≤ most) vs → AreWeighable vs
AreWeighable-most most below vs few light = (omega (arith, few, below), each vs light)
  where
    each : (ws : List PlainValue) → AllByRecursion (λ v. weight v ≤ most) ws → AllByRecursion (λ v. weight v < 2 ^ 32) ws
    each [] h = tt
    each (w ∷ ws) h = (omega (arith, below, h.0), each ws h.1)

-- the weight of a row of values is that of the list of its values
pub weight_of_all-plains_of : (vs : List PlainValue) → weight_of_all (plains_of vs) ≡ values_weight vs
weight_of_all-plains_of [] = refl
weight_of_all-plains_of (v ∷ vs) = omega (arith, weight_of_all-plains_of vs)

-- lists nest no deeper than their weight
mutual
  pub depth-le_weight : (v : PlainValue) → depth v ≤ weight v
  depth-le_weight nil = omega arith
  depth-le_weight (bool flag) = omega arith
  depth-le_weight (int number) = omega arith
  depth-le_weight (text characters) = omega arith
  depth-le_weight (ref object) = omega arith
  depth-le_weight (list items) = omega (arith, greatest_depth-le_weight items)

  pub greatest_depth-le_weight : (vs : PlainValues) → greatest_depth vs ≤ weight_of_all vs
  greatest_depth-le_weight no_items = omega arith
  greatest_depth-le_weight (item v rest) = omega (arith, depth-le_weight v, greatest_depth-le_weight rest)

pub ruleset by_weight = (weight_of_all-plains_of, greatest_depth-le_weight, depth-le_weight)
