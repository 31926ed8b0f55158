-- What the builtins give that need no world: a row for each. Texts are lists of characters.
use Rattle.std.specs.Prelude.{ℕ, ◌^◌, ℤ, pos, negsuc, Bool, true, false, nat_lt, nat_le, if◌then◌else◌, ◌&&◌, List, [], ◌∷◌, ◌++◌, length, codes, bytes_eq, Option, Some, None, slice_get, slice_set, slice_range}
use Rattle.std.specs.Cmp.Lexicographic.{slice_cmp}
use Rattle.std.specs.Ordering.{nat_cmp, int_cmp}
use Rattle.std.specs.declared.cmp.Ordering.{Ordering}
use Rattle.std.specs.declared.cmp.Ordering.TheVariants.{Less, Equal, Greater}
use Rattle.std.specs.Fmt.{signed_decimal}
use Rattle.std.specs.Str.Parse.{signed_digits_value}
use Rattle.model_value.specs.Plain.{PlainValue, nil, bool, int, text, list, items_of, is_in_bounds}
use Rattle.model_value.specs.View.{plains_of}
use Rattle.model_builtin.specs.declared.builtin.Pure.{Pure}
use Rattle.model_builtin.specs.declared.builtin.Pure.TheVariants as row

-- what a builtin gives: a value, or why there is none
pub data BuiltinReply : Type 0 where
  value : PlainValue → BuiltinReply
  bad_kind : BuiltinReply
  bad_index : BuiltinReply
  too_large : BuiltinReply

-- ---- parts of a list

-- the item at a place from 0
abbrev pub item_at : {A : Type 0} → List A → ℤ → Option A
item_at xs (pos i) = slice_get xs i
item_at xs (negsuc _) = None

-- the list with another item at a place from 0
abbrev pub with_item : {A : Type 0} → List A → ℤ → A → Option (List A)
with_item xs (pos i) x = if nat_lt i (length xs) then Some (slice_set xs i x) else None
with_item xs (negsuc _) x = None

-- the part from i to before j, where 0 <= i <= j <= length
abbrev pub part_between : {A : Type 0} → List A → ℤ → ℤ → Option (List A)
part_between xs (pos i) (pos j) = if nat_le i j && nat_le j (length xs) then Some (slice_range xs i j) else None
part_between xs (pos i) (negsuc _) = None
part_between xs (negsuc _) j = None

-- the value made of a part, if there is one
abbrev pub part_reply : {A : Type 0} → (A → PlainValue) → Option A → BuiltinReply
part_reply make (Some x) = value (make x)
part_reply make None = bad_index

-- ---- numbers

abbrev pub in_64_bits : ℤ → Bool
in_64_bits (pos n) = nat_lt n (2 ^ 63)
in_64_bits (negsuc n) = nat_lt n (2 ^ 63)

abbrev pub if_spelled : ℤ → List ℕ → Option ℤ
if_spelled n characters = if in_64_bits n && bytes_eq (signed_decimal n) characters then Some n else None

-- the number that a sign and digits write, where it is itself spelled so: without other zeros or signs
abbrev pub read_decimal : List ℕ → Option ℤ
read_decimal characters = if_spelled (signed_digits_value 10 characters) characters

abbrev pub int_or_nil : Option ℤ → PlainValue
int_or_nil (Some n) = int n
int_or_nil None = nil

-- -1, 0 or 1
abbrev pub sign_of : Ordering → ℤ
sign_of Less = negsuc 0
sign_of Equal = pos 0
sign_of Greater = pos 1

-- ---- rows

abbrev pub list_value : List PlainValue → PlainValue
list_value items = list (plains_of items)

abbrev pub length_of : PlainValue → BuiltinReply
length_of (text characters) = value (int (pos (length characters)))
length_of (list items) = value (int (pos (length (items_of items))))
length_of _ = bad_kind

abbrev pub text_of_value : PlainValue → BuiltinReply
text_of_value nil = value (text (codes "nil"))
text_of_value (bool true) = value (text (codes "true"))
text_of_value (bool false) = value (text (codes "false"))
text_of_value (int n) = value (text (signed_decimal n))
text_of_value (text characters) = value (text characters)
text_of_value _ = bad_kind

abbrev pub read_number : PlainValue → BuiltinReply
read_number (text characters) = value (int_or_nil (read_decimal characters))
read_number _ = bad_kind

abbrev pub at : PlainValue → PlainValue → BuiltinReply
at (text characters) (int i) = part_reply (λ c. text (c ∷ [])) (item_at characters i)
at (list items) (int i) = part_reply (λ x. x) (item_at (items_of items) i)
at _ _ = bad_kind

abbrev pub push : PlainValue → PlainValue → BuiltinReply
push (list items) x = value (list_value (items_of items ++ x ∷ []))
push _ x = bad_kind

abbrev pub concat : PlainValue → PlainValue → BuiltinReply
concat (text a) (text b) = value (text (a ++ b))
concat (list a) (list b) = value (list_value (items_of a ++ items_of b))
concat _ _ = bad_kind

-- numbers by value, texts by the numbers of their characters
abbrev pub compare : PlainValue → PlainValue → BuiltinReply
compare (int a) (int b) = value (int (sign_of (int_cmp a b)))
compare (text a) (text b) = value (int (sign_of (slice_cmp nat_cmp a b)))
compare _ _ = bad_kind

abbrev pub put : PlainValue → PlainValue → PlainValue → BuiltinReply
put (list items) (int i) x = part_reply list_value (with_item (items_of items) i x)
put _ _ x = bad_kind

abbrev pub slice : PlainValue → PlainValue → PlainValue → BuiltinReply
slice (text characters) (int i) (int j) = part_reply text (part_between characters i j)
slice (list items) (int i) (int j) = part_reply list_value (part_between (items_of items) i j)
slice _ _ _ = bad_kind

-- ---- all builtins

abbrev pub of_one : Pure → PlainValue → BuiltinReply
of_one row.Length = length_of
of_one row.Text = text_of_value
of_one row.Number = read_number
of_one _ = λ x. bad_kind

abbrev pub of_two : Pure → PlainValue → PlainValue → BuiltinReply
of_two row.At = at
of_two row.Push = push
of_two row.Concat = concat
of_two row.Compare = compare
of_two _ = λ x y. bad_kind

abbrev pub of_three : Pure → PlainValue → PlainValue → PlainValue → BuiltinReply
of_three row.Put = put
of_three row.Slice = slice
of_three _ = λ x y z. bad_kind

-- only a value in bounds
abbrev pub reply_in_bounds : BuiltinReply → BuiltinReply
reply_in_bounds (value v) = if is_in_bounds v then value v else too_large
reply_in_bounds bad_kind = bad_kind
reply_in_bounds bad_index = bad_index
reply_in_bounds too_large = too_large

abbrev pub builtin_gives : Pure → List PlainValue → BuiltinReply
builtin_gives f (x ∷ []) = of_one f x
builtin_gives f (x ∷ y ∷ []) = of_two f x y
builtin_gives f (x ∷ y ∷ z ∷ []) = of_three f x y z
builtin_gives f _ = bad_kind

-- what a builtin gives of its arguments
abbrev pub apply : Pure → List PlainValue → BuiltinReply
apply f args = reply_in_bounds (builtin_gives f args)
