-- What is read of JSON, for private clauses.
use Rattle.std.specs.Prelude.{◌≡◌, ◌&&◌, Bool, true, false, is_some}
use Rattle.serde_json.specs.Data as json
use Rattle.serde_json.specs.Data.{Data, Items}
use Rattle.serde_json.specs.Find.{as_i64}
use Rattle.model_value.specs.Plain.{PlainValue, PlainValues}
use Rattle.model_value.specs.Spelling.{IsValue, AreValues}
use Rattle.saved_value.specs.Saving.{has_ref, one_has_ref}
use Rattle.persist_json.specs.JsonOf.{data_of, items_data}

-- a value without objects, whose JSON this is
pub record IsReadAs (d : Data) (value : PlainValue) : Type 0 where
  pub same : data_of value ≡ d
  pub is : IsValue value
  pub bare : has_ref value ≡ false

pub record AreReadAs (ds : Items) (values : PlainValues) : Type 0 where
  pub same : items_data values ≡ ds
  pub are : AreValues values
  pub bare : one_has_ref values ≡ false

-- whether there is such a value: no object, and only whole numbers of 64 bits
abbrev mutual
  pub has_value : Data → Bool
  has_value json.null = true
  has_value (json.boolean flag) = true
  has_value (json.number number) = is_some (as_i64 number)
  has_value (json.string bytes) = true
  has_value (json.array items) = have_values items
  has_value (json.object _) = false

  pub have_values : Items → Bool
  have_values json.no_items = true
  have_values (json.item d rest) = has_value d && have_values rest
