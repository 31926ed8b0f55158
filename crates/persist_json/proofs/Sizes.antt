-- The data of a value nests as it does, has no float, and its text is not long.
use Rattle.std.proofs.Common.{◌≡◌, ◌+◌, ◌*◌, ◌≤◌, ℕ, suc, Bool, true, false, cond, List, [], ◌∷◌, ◌++◌, length, length-append, refl, arith}
use Rattle.std.specs.Prelude.{ℤ, pos, negsuc, ◌/◌, ◌%◌, FitsSigned, encode_utf8_all}
use Rattle.std.specs.Int.{w64}
use Rattle.std.specs.Char.{digit_char}
use Rattle.std.proofs.lemmas.Fmt.{length-decimal-le}
use Rattle.json.specs.Print.{escape, escape_byte, escape_letter, quoted}
use Rattle.serde_json.specs.Data as json
use Rattle.serde_json.specs.Find.{of_integer, is_float}
use Rattle.serde_json.specs.Written.{number_text, has_float, items_have_float, comma_if, compact_text, items_text}
use Rattle.model_value.specs.Plain.{PlainValue, nil, bool, int, text, ref, list, PlainValues, no_items, item, weight, weight_of_all, depth, greatest_depth}
use Rattle.model_value.specs.Spelling.{IsValue, AreValues}
use Rattle.persist_json.specs.JsonOf.{data_of, items_data}

of_integer-is_float : (z : ℤ) → is_float (of_integer z) ≡ false
of_integer-is_float (pos n) = refl
of_integer-is_float (negsuc n) = refl

mutual
  pub data_of-depth : (v : PlainValue) → json.depth (data_of v) ≡ depth v
  data_of-depth nil = refl
  data_of-depth (bool flag) = refl
  data_of-depth (int number) = refl
  data_of-depth (text characters) = refl
  data_of-depth (ref object) = refl
  data_of-depth (list items) = omega (arith, items_data-depth items)

  pub items_data-depth : (vs : PlainValues) → json.items_depth (items_data vs) ≡ greatest_depth vs
  items_data-depth no_items = refl
  items_data-depth (item v rest) = rw (data_of-depth v, items_data-depth rest) refl

mutual
  pub data_of-has_float : (v : PlainValue) → has_float (data_of v) ≡ false
  data_of-has_float nil = refl
  data_of-has_float (bool flag) = refl
  data_of-has_float (int number) = of_integer-is_float number
  data_of-has_float (text characters) = refl
  data_of-has_float (ref object) = refl
  data_of-has_float (list items) = items_data-has_float items

  pub items_data-has_float : (vs : PlainValues) → items_have_float (items_data vs) ≡ false
  items_data-has_float no_items = refl
  items_data-has_float (item v rest) = rw (data_of-has_float v, items_data-has_float rest) refl

-- ---- how long a text is

chosen-short : (a b : Bool) (s t u : List ℕ) → length s ≤ 6 → length t ≤ 6 → length u ≤ 6 → length (cond a s (cond b t u)) ≤ 6
chosen-short true b s t u p q r = p
chosen-short false true s t u p q r = q
chosen-short false false s t u p q r = r

-- a byte takes at most six
length-escape_byte : (x : ℕ) → length (escape_byte x) ≤ 6
unfolding escape_byte
length-escape_byte x = chosen-short _ _ (92 ∷ escape_letter x ∷ []) (92 ∷ 117 ∷ 48 ∷ 48 ∷ digit_char (x / 16) ∷ digit_char (x % 16) ∷ []) (x ∷ []) (omega arith) (omega arith) (omega arith)

length-escape : (s : List ℕ) → length (escape s) ≤ 6 * length s
length-escape [] = omega arith
length-escape (x ∷ s) = omega (arith, length-append (escape_byte x) (escape s), length-escape_byte x, length-escape s)

length-quoted : (s : List ℕ) → length (quoted s) ≤ 6 * length s + 2
length-quoted s = omega (arith, length-append (escape s) (34 ∷ []), length-escape s)

length-number_text : (z : ℤ) → FitsSigned w64 z → length (number_text (of_integer z)) ≤ 20
length-number_text (pos n) fits = length-decimal-le 20 n (omega arith) (omega arith) (omega arith)
length-number_text (negsuc n) fits = omega (arith, length-decimal-le 19 (suc n) (omega arith) (omega arith) (omega arith))

length-comma_if : (later : Bool) → length (comma_if later) ≤ 1
length-comma_if true = omega arith
length-comma_if false = omega arith

mutual
  -- at most 95 bytes and a comma for each unit of its weight
  pub length-compact_text : (v : PlainValue) → IsValue v → length (compact_text (data_of v)) + 1 ≤ 96 * weight v
  length-compact_text nil is = omega arith
  length-compact_text (bool true) is = omega arith
  length-compact_text (bool false) is = omega arith
  length-compact_text (int number) is = omega (arith, length-number_text number is)
  length-compact_text (text characters) is = omega (arith, length-quoted (encode_utf8_all characters))
  length-compact_text (ref object) is = omega arith
  length-compact_text (list items) is = omega (arith, length-items_text false items is)

  pub length-items_text : (later : Bool) (vs : PlainValues) → AreValues vs → length (items_text later (items_data vs)) ≤ 96 * weight_of_all vs + 1
  length-items_text later no_items are = omega arith
  length-items_text later (item v rest) are =
      let behind = items_text true (items_data rest) in
      omega (arith, length-append (comma_if later) (compact_text (data_of v) ++ behind), length-append (compact_text (data_of v)) behind, length-comma_if later, length-compact_text v are.0, length-items_text true rest are.1)

pub ruleset by_size = (data_of-depth, data_of-has_float)
