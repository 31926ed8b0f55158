-- What is read of data is the one value that has it.
use Rattle.std.proofs.Common.{◌≡◌, ◌<◌, ◌^◌, ℕ, true, false, List, [], ◌∷◌, ◌++◌, map, Some, String, Global, string_bytes, refl, sym, ap, ap₂, subst, ◌∙◌, arith}
use Rattle.std.specs.Prelude.{Result, Ok, Err, IfErr, ℤ, pos, negsuc, is_some, FitsSigned, IsUtf8, chars, encode_utf8_all}
use Rattle.std.specs.Int.{w64}
use Rattle.std.specs.Str.{all_scalars}
use Rattle.std.proofs.lemmas.Bool.{or_parts, lt-ltb, true≢false}
use Rattle.std.proofs.lemmas.Option.{same_Some}
use Rattle.std.proofs.lemmas.Str.{chars-encodes, encodes_same, scalars-chars}
use Rattle.serde_json.specs.Data as json
use Rattle.serde_json.specs.Data.{Data, Items, Num, unsigned, negative, float}
use Rattle.serde_json.specs.Find.{of_integer, as_i64}
use Rattle.serde_json.specs.Read.{read}
use Rattle.serde_json.specs.View.{view, view_step, items_view, items_of}
use Rattle.serde_json.specs.declared.value.Value.{Value as Json, fold-roll-Value}
use Rattle.serde_json.specs.declared.value.Value.TheOpen.{Value-F}
use Rattle.serde_json.specs.declared.value.Value.TheVariants.{String as Text, rolls-String}
use Rattle.model_value.specs.Plain.{PlainValue, nil, bool, int, text, ref, list, PlainValues, no_items, item}
use Rattle.model_value.specs.Spelling.{IsValue, AreValues}
use Rattle.model_value.specs.View.{plain, plains}
use Rattle.model_value.specs.declared.value.Value.{Value}
use Rattle.saved_value.specs.Saving.{has_ref, one_has_ref}
use Rattle.persist_json.specs.declared.fault.JsonFault.{JsonFault}
use Rattle.persist_json.specs.declared.fault.JsonFault.TheVariants.{BadJson, WantOfMemory}
use Rattle.persist_json.specs.JsonOf.{data_of, items_data, IsJsonOf}
use Rattle.persist_json.proofs.Items.{data_of_each, items_data-plains}
use Rattle.persist_json.specs.ReadAs.{IsReadAs, AreReadAs, has_value, have_values}

-- the value that has the data, if there is one
abbrev integer_in : Num → ℤ
integer_in (unsigned n) = pos n
integer_in (negative z) = z
integer_in (float x) = pos 0

abbrev mutual
  value_in : Data → PlainValue
  value_in json.null = nil
  value_in (json.boolean flag) = bool flag
  value_in (json.number n) = int (integer_in n)
  value_in (json.string bytes) = text (chars bytes)
  value_in (json.array items) = list (values_in items)
  value_in (json.object _) = nil

  values_in : Items → PlainValues
  values_in json.no_items = no_items
  values_in (json.item d rest) = item (value_in d) (values_in rest)

integer_in-of_integer : (z : ℤ) → integer_in (of_integer z) ≡ z
integer_in-of_integer (pos n) = refl
integer_in-of_integer (negsuc n) = refl

mutual
  value_in-data_of : (v : PlainValue) → IsValue v → has_ref v ≡ false → value_in (data_of v) ≡ v
  value_in-data_of nil is bare = refl
  value_in-data_of (bool flag) is bare = refl
  value_in-data_of (int number) is bare = ap int (integer_in-of_integer number)
  value_in-data_of (text characters) is bare = ap text (chars-encodes characters is)
  value_in-data_of (ref object) is bare = absurd (true≢false bare)
  value_in-data_of (list items) is bare = ap list (values_in-items_data items is bare)

  values_in-items_data : (vs : PlainValues) → AreValues vs → one_has_ref vs ≡ false → values_in (items_data vs) ≡ vs
  values_in-items_data no_items are bare = refl
  values_in-items_data (item v rest) are bare =
      let parts = or_parts (has_ref v) (one_has_ref rest) bare in
      ap₂ item (value_in-data_of v are.0 parts.0) (values_in-items_data rest are.1 parts.1)

pub same_value : (v w : PlainValue) → IsValue v → IsValue w → has_ref v ≡ false → has_ref w ≡ false → data_of v ≡ data_of w → v ≡ w
same_value v w of_v of_w bare_v bare_w e = sym (value_in-data_of v of_v bare_v) ∙ ap value_in e ∙ value_in-data_of w of_w bare_w

-- ---- data of a value has a value

as_i64-of_integer : (z : ℤ) → FitsSigned w64 z → is_some (as_i64 (of_integer z)) ≡ true
as_i64-of_integer (pos n) fits = let below : n < 2 ^ 63 = omega arith in rw (lt-ltb n (2 ^ 63) below) refl
as_i64-of_integer (negsuc n) fits = refl

mutual
  has_value-data_of : (v : PlainValue) → IsValue v → has_value (data_of v) ≡ true
  has_value-data_of nil is = refl
  has_value-data_of (bool flag) is = refl
  has_value-data_of (int number) is = as_i64-of_integer number is
  has_value-data_of (text characters) is = refl
  has_value-data_of (ref object) is = refl
  has_value-data_of (list items) is = have_values-items_data items is

  have_values-items_data : (vs : PlainValues) → AreValues vs → have_values (items_data vs) ≡ true
  have_values-items_data no_items are = refl
  have_values-items_data (item v rest) are = rw (has_value-data_of v are.0) (have_values-items_data rest are.1)

-- ---- what JSON of a value is read as

pub read-one : (bytes : List ℕ) (d : Data) (v w : PlainValue) → read bytes ≡ Some d → IsReadAs d v → IsJsonOf bytes w → v ≡ w
read-one bytes d v w e of_v of_w = same_value v w of_v.is of_w.is of_v.bare of_w.fit.1 (of_v.same ∙ same_Some d (data_of w) (sym e ∙ of_w.reads))

pub read-none : (bytes : List ℕ) (d : Data) (w : PlainValue) → read bytes ≡ Some d → has_value d ≡ false → IsJsonOf bytes w → ⊥
read-none bytes d w e none of_w =
    true≢false (sym (has_value-data_of w of_w.is) ∙ ap has_value (sym (same_Some d (data_of w) (sym e ∙ of_w.reads))) ∙ none)

-- ---- texts

pub scalars-utf8 : (characters : List ℕ) → IsUtf8 (encode_utf8_all characters) → all_scalars characters ≡ true
scalars-utf8 characters utf8 = subst (λ (cs : List ℕ). all_scalars cs ≡ true) (chars-encodes-all) (scalars-chars (encode_utf8_all characters) utf8)
  where
    chars-encodes-all : chars (encode_utf8_all characters) ≡ characters
    chars-encodes-all = ap chars (sym utf8.1.1) ∙ chars-encodes utf8.0 utf8.1.0 ∙ encodes_same utf8.0 characters utf8.1.1

pub read-text : (bytes characters : List ℕ) → encode_utf8_all characters ≡ bytes → IsUtf8 bytes → IsReadAs (json.string bytes) (text characters)
read-text bytes characters e utf8 = record {
  same = ap json.string e;
  is = scalars-utf8 characters (subst IsUtf8 (sym e) utf8);
  bare = refl;
}

-- ---- values one after the other

pub AreValues-push : (vs : List Value) (v : Value) → AreValues (plains vs) → IsValue (plain v) → AreValues (plains (vs ++ v ∷ []))
AreValues-push [] v are is = (is, tt)
AreValues-push (w ∷ vs) v are is = (are.0, AreValues-push vs v are.1 is)

pub bare-push : (vs : List Value) (v : Value) → one_has_ref (plains vs) ≡ false → has_ref (plain v) ≡ false → one_has_ref (plains (vs ++ v ∷ [])) ≡ false
bare-push [] v bare is = rw is refl
bare-push (w ∷ vs) v bare is =
    let parts = or_parts (has_ref (plain w)) (one_has_ref (plains vs)) bare in
    rw parts.0 (bare-push vs v parts.1 is)

pub AreReadAs-all : (ds : List Json) (vs : List Value) → data_of_each vs ≡ map view ds → AreValues (plains vs) → one_has_ref (plains vs) ≡ false → AreReadAs (items_view ds) (plains vs)
AreReadAs-all ds vs e are bare = record { same = items_data-plains vs ∙ ap items_of e; are = are; bare = bare }

-- ---- the data of a text

pub view-String : (s : String Global) → view (Text s) ≡ json.string (string_bytes s)
view-String s = ap view (sym (rolls-String s)) ∙ fold-roll-Value Data view_step (Value-F.String s)

-- ---- where no bytes are refused, there was no memory

pub only_want : {X : Type 0} (result : Result X JsonFault) → (result ≡ Err BadJson → ⊥) → IfErr result (λ fault. fault ≡ WantOfMemory)
only_want (Ok x) is_read = tt
only_want (Err BadJson) is_read = absurd (is_read refl)
only_want (Err WantOfMemory) is_read = refl
