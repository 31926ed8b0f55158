-- Values as plain trees, with their weight, their depth and their bounds.
use Rattle.std.specs.Prelude.{◌≡◌, ◌≤◌, ◌<◌, ℕ, ◌+◌, ◌^◌, ◌/◌, max, nat_le, ◌&&◌, ℤ, Bool, List, [], ◌∷◌, length, Option, Some, None, encode_utf8_all}
use Rattle.std.specs.List.{AllByRecursion}

mutual
  pub data PlainValue : Type 0 where
    nil : PlainValue
    bool : Bool → PlainValue
    int : ℤ → PlainValue
    -- its characters
    text : List ℕ → PlainValue
    -- the number of an object
    ref : ℕ → PlainValue
    list : PlainValues → PlainValue

  pub data PlainValues : Type 0 where
    no_items : PlainValues
    item : PlainValue → PlainValues → PlainValues

-- the items of a list, in order
abbrev pub items_of : PlainValues → List PlainValue
items_of no_items = []
items_of (item value rest) = value ∷ items_of rest

-- a text takes one, and one more for each 16 bytes of UTF-8 begun
abbrev mutual
  pub weight : PlainValue → ℕ
  weight nil = 1
  weight (bool flag) = 1
  weight (int number) = 1
  weight (text characters) = 1 + (length (encode_utf8_all characters) + 15) / 16
  weight (ref object) = 1
  weight (list items) = 1 + weight_of_all items

  pub weight_of_all : PlainValues → ℕ
  weight_of_all no_items = 0
  weight_of_all (item value rest) = weight value + weight_of_all rest

-- how deep lists nest
abbrev mutual
  pub depth : PlainValue → ℕ
  depth nil = 0
  depth (bool flag) = 0
  depth (int number) = 0
  depth (text characters) = 0
  depth (ref object) = 0
  depth (list items) = 1 + greatest_depth items

  pub greatest_depth : PlainValues → ℕ
  greatest_depth no_items = 0
  greatest_depth (item value rest) = max (depth value) (greatest_depth rest)

-- the most weight of a value in bounds
abbrev pub most_weight : ℕ
most_weight = 4096

-- its most depth
abbrev pub most_depth : ℕ
most_depth = 32

abbrev pub InBounds : PlainValue → Type 0
InBounds value = (weight value ≤ most_weight) × (depth value ≤ most_depth)

-- the same as a test
abbrev pub is_in_bounds : PlainValue → Bool
is_in_bounds value = nat_le (weight value) most_weight && nat_le (depth value) most_depth

-- a text weighs as the value that it is
abbrev pub text_weight : List ℕ → ℕ
text_weight characters = weight (text characters)

abbrev pub TextFits : List ℕ → Type 0
TextFits characters = text_weight characters ≤ most_weight

-- ---- lists of values

abbrev pub values_weight : List PlainValue → ℕ
values_weight [] = 0
values_weight (value ∷ rest) = weight value + values_weight rest

-- They are so few, and each is so light, that their weights can be added.
abbrev pub AreWeighable : List PlainValue → Type 0
AreWeighable values = (length values < 2 ^ 32) × AllByRecursion (λ value. weight value < 2 ^ 32) values

abbrev pub AllInBounds : List PlainValue → Type 0
AllInBounds = AllByRecursion InBounds

-- what a weight leaves of a room, if it is not above it, and the depth is not above the levels
abbrev pub LeavesRoom : Option ℕ → ℕ → ℕ → ℕ → ℕ → Type 0
LeavesRoom None room weight levels depth = weight ≤ room → levels < depth
LeavesRoom (Some left) room weight levels depth = (left + weight ≡ room) × (depth ≤ levels)
