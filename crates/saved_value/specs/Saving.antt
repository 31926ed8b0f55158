-- The values that can be saved for a later session, and what a saved value weighs.
use Rattle.std.specs.Prelude.{◌≡◌, ℕ, ◌||◌, Bool, true, false}
use Rattle.model_value.specs.Plain.{PlainValue, nil, bool, int, text, ref, list, PlainValues, no_items, item, weight, InBounds}

-- whether there is an object in a value, at any depth
abbrev mutual
  pub has_ref : PlainValue → Bool
  has_ref nil = false
  has_ref (bool flag) = false
  has_ref (int number) = false
  has_ref (text characters) = false
  has_ref (ref object) = true
  has_ref (list items) = one_has_ref items

  pub one_has_ref : PlainValues → Bool
  one_has_ref no_items = false
  one_has_ref (item value rest) = has_ref value || one_has_ref rest

abbrev pub CanBeSaved : PlainValue → Type 0
CanBeSaved value = InBounds value × (has_ref value ≡ false)

-- nil stands for no saved value
abbrev pub saved_weight : PlainValue → ℕ
saved_weight nil = 0
saved_weight value = weight value

-- a value that can be saved, with its weight
pub record IsWeighed (weighs : ℕ) (value : PlainValue) : Type 0 where
  pub weight : weighs ≡ saved_weight value
  pub fit : CanBeSaved value
