-- A value in bounds is read from its text, and from no other.
use Rattle.std.proofs.Common.{◌≡◌, ℕ, zero, suc, ◌<◌, ◌≤◌, Bool, true, false, List, [], ◌∷◌, ◌++◌, length, Option, Some, None, refl, sym, ap, ◌∙◌, subst, arith, append_assoc, append-nil, length-append}
use Rattle.std.specs.Prelude.{◌==◌, if◌then◌else◌, flat_map}
use Rattle.std.proofs.lemmas.Bool.Decides.{nat_tests}
use Rattle.std.proofs.lemmas.Option.{none-some, same_Some}
use Rattle.byte_fields.specs.Fields.{Decoder, ◌>>=◌, made_at, tested_at, never_at}
use Rattle.model_tokens.specs.Division.{EndsBefore}
use Rattle.model_tokens.specs.Reader.{front, rest_past, literal_text_at}
use Rattle.model_tokens.specs.Spelling.{spelled_character, spelled_text}
use Rattle.model_tokens.proofs.Lists.{whole_is}
use Rattle.model_tokens.proofs.LiteralLaws.{literal_again, literal_only}
use Rattle.model_value.specs.Plain.{PlainValue, nil, bool, int, text, ref, list, PlainValues, no_items, item, items_of, depth, greatest_depth, InBounds, is_in_bounds, most_depth}
use Rattle.model_value.specs.Spelling.{IsValue, AreValues, item_count}
use Rattle.model_value.specs.View.{plains_of}
use Rattle.model_value.proofs.Items.{plains_of-items_of}
use Rattle.model_value.proofs.ValueCodec.{InBounds-is_in_bounds, is_in_bounds-InBounds}
use Rattle.value_text.specs.Reading.{goes_on_word, value_of_word, word_at, value_text_row, behind_item, text_items_at, bracketed_items, value_text_at, nested_items, value_of_text}
use Rattle.value_text.specs.ValueText.{value_text, items_text}
use Rattle.value_text.proofs.Numerals.{passed}
use Rattle.value_text.proofs.Rows.{value_text_at-row}
use Rattle.value_text.proofs.WordLaws.{IsWord, HasWord, has_word, word_again, word_only}

-- one step was made
pub stepped : {A B : Type 0} (found : Option A) (next : A → Option B) (y : B) → (found >>= next) ≡ Some y → (x : A) × (found ≡ Some x) × (next x ≡ Some y)
stepped None next y e = absurd (none-some y e)
stepped (Some x) next y e = (x, refl, e)

-- what is made of a finding
abbrev made_from : {A B : Type 0} → (A → B) → Option (A × List ℕ) → Option (B × List ℕ)
made_from make found = found >>= λ x. Some (make x.0, x.1)

-- ---- the first byte of a text

-- no text of a value is empty, or begins as the end of a list
abbrev Begins : List ℕ → Type 0
Begins [] = ⊥
Begins (byte ∷ bytes) = (byte == 93) ≡ false

word_begins : (value : PlainValue) → HasWord value → Begins (value_text value)
word_begins value word = subst Begins (sym word.whole) word.no_end

begins : (value : PlainValue) → IsValue value → Begins (value_text value)
begins nil is = word_begins nil (has_word nil tt is)
begins (bool flag) is = word_begins (bool flag) (has_word (bool flag) tt is)
begins (int number) is = word_begins (int number) (has_word (int number) tt is)
begins (text characters) is = refl
begins (ref object) is = word_begins (ref object) (has_word (ref object) tt is)
begins (list items) is = refl

begins_more : (xs ys : List ℕ) → Begins xs → Begins (xs ++ ys)
begins_more [] ys b = absurd b
begins_more (x ∷ xs) ys b = b

begins_length : (xs : List ℕ) → Begins xs → 1 ≤ length xs
begins_length [] b = absurd b
begins_length (x ∷ xs) b = omega arith

items_text-more : (value : PlainValue) (items : PlainValues) → 1 ≤ item_count items → items_text (item value items) ≡ value_text value ++ 44 ∷ items_text items
items_text-more value no_items some = absurd (omega arith)
items_text-more value (item next rest) some = refl

items_begin : (value : PlainValue) (rest : PlainValues) → IsValue value → Begins (items_text (item value rest))
items_begin value no_items is = begins value is
items_begin value (item next rest) is = begins_more (value_text value) (44 ∷ items_text (item next rest)) (begins value is)

count-le_length : (items : PlainValues) → AreValues items → item_count items ≤ length (items_text items)
count-le_length no_items are = omega arith
count-le_length (item value no_items) are = omega (arith, begins_length (value_text value) (begins value are.0))
count-le_length (item value (item next rest)) are =
    let first = begins_length (value_text value) (begins value are.0) in
    let more = count-le_length (item next rest) are.1 in
    let sum = length-append (value_text value) (44 ∷ items_text (item next rest)) in
    omega arith

-- ---- what has a text is read

-- behind an item stands the end, or a comma and more of them
one_item : (read : Decoder PlainValue) (before : List PlainValue) (count : ℕ) (bytes behind : List ℕ) (value : PlainValue) → read bytes ≡ Some (value, behind)
    → text_items_at read before (suc count) bytes ≡ behind_item (before ++ value ∷ []) (text_items_at read (before ++ value ∷ []) count) behind
unfolding text_items_at
one_item read before count bytes behind value e = rw e refl

list_begun_if : (read : Decoder PlainValue) (bytes rest : List ℕ) (items : PlainValues) → Begins bytes → text_items_at read [] (length bytes) bytes ≡ Some (items_of items, rest) → bracketed_items read bytes ≡ Some (items, rest)
list_begun_if read [] rest items b e = absurd b
list_begun_if read (byte ∷ bytes) rest items b e = rw (b, e) (ap (λ vs. Some (vs, rest)) (plains_of-items_of items))

list_begun : (read : Decoder PlainValue) (items : PlainValues) (rest : List ℕ) → AreValues items → (1 ≤ item_count items → text_items_at read [] (length (items_text items ++ 93 ∷ rest)) (items_text items ++ 93 ∷ rest) ≡ Some (items_of items, rest))
    → bracketed_items read (items_text items ++ 93 ∷ rest) ≡ Some (items, rest)
list_begun read no_items rest are found = refl
list_begun read (item value more) rest are found =
    list_begun_if read (items_text (item value more) ++ 93 ∷ rest) rest (item value more) (begins_more (items_text (item value more)) (93 ∷ rest) (items_begin value more are.0)) (found (omega arith))

text_row : (characters rest : List ℕ) (items : Decoder PlainValues) → IsValue (text characters) → value_text_row items (spelled_text characters ++ rest) ≡ Some (text characters, rest)
text_row characters rest items is =
    ap (λ xs. made_at text literal_text_at xs) (append_assoc (flat_map spelled_character characters) (34 ∷ []) rest)
    ∙ ap (λ found. made_from text found) (literal_again characters rest is)

word_in : (value : PlainValue) (levels : ℕ) (rest : List ℕ) → IsWord value → IsValue value → EndsBefore goes_on_word rest → value_text_at levels (value_text value ++ rest) ≡ Some (value, rest)
word_in value levels rest word is ends = value_text_at-row levels (value_text value ++ rest) ∙ word_again value (has_word value word is) (nested_items levels) rest ends

mutual
  value_again : (value : PlainValue) (levels : ℕ) (rest : List ℕ) → IsValue value → depth value ≤ levels → EndsBefore goes_on_word rest → value_text_at levels (value_text value ++ rest) ≡ Some (value, rest)
  value_again nil levels rest is deep ends = word_in nil levels rest tt is ends
  value_again (bool flag) levels rest is deep ends = word_in (bool flag) levels rest tt is ends
  value_again (int number) levels rest is deep ends = word_in (int number) levels rest tt is ends
  value_again (text characters) levels rest is deep ends = value_text_at-row levels (spelled_text characters ++ rest) ∙ text_row characters rest (nested_items levels) is
  value_again (ref object) levels rest is deep ends = word_in (ref object) levels rest tt is ends
  value_again (list items) zero rest is deep ends = absurd (omega arith)
  value_again (list items) (suc levels) rest is deep ends =
      let bytes : List ℕ = items_text items ++ 93 ∷ rest in
      let long = count-le_length items is in
      let sum = length-append (items_text items) (93 ∷ rest) in
      value_text_at-row (suc levels) (value_text (list items) ++ rest)
      ∙ ap (λ xs. made_at list (bracketed_items (value_text_at levels)) xs) (append_assoc (items_text items) (93 ∷ []) rest)
      ∙ ap (λ found. made_from list found) (list_begun (value_text_at levels) items rest is (λ some. items_again items levels [] (length bytes) rest is (omega arith) some (omega arith)))

  items_again : (items : PlainValues) (levels : ℕ) (before : List PlainValue) (count : ℕ) (rest : List ℕ) → AreValues items → greatest_depth items ≤ levels → 1 ≤ item_count items → item_count items ≤ count
      → text_items_at (value_text_at levels) before count (items_text items ++ 93 ∷ rest) ≡ Some (before ++ items_of items, rest)
  items_again no_items levels before count rest are deep some enough = absurd (omega arith)
  items_again (item value more) levels before zero rest are deep some enough = absurd (omega arith)
  items_again (item value no_items) levels before (suc count) rest are deep some enough =
      one_item (value_text_at levels) before count (value_text value ++ 93 ∷ rest) (93 ∷ rest) value (value_again value levels (93 ∷ rest) are.0 (omega arith) refl)
  items_again (item value (item next more)) levels before (suc count) rest are deep some enough =
      let behind : List ℕ = items_text (item next more) ++ 93 ∷ rest in
      let more_items : List PlainValue = items_of (item next more) in
      ap (text_items_at (value_text_at levels) before (suc count)) (append_assoc (value_text value) (44 ∷ items_text (item next more)) (93 ∷ rest))
      ∙ one_item (value_text_at levels) before count (value_text value ++ 44 ∷ behind) (44 ∷ behind) value (value_again value levels (44 ∷ behind) are.0 (omega arith) refl)
      ∙ items_again (item next more) levels (before ++ value ∷ []) count rest are.1 (omega arith) (omega arith) (omega arith)
      ∙ ap (λ (vs : List PlainValue). Some (vs, rest)) (append_assoc before (value ∷ []) more_items)

-- ---- what is read has the text

pub record ValueRead (levels : ℕ) (bytes : List ℕ) (value : PlainValue) (rest : List ℕ) : Type 0 where
  pub is : IsValue value
  pub deep : depth value ≤ levels
  pub whole : bytes ≡ value_text value ++ rest

record ItemsRead (levels : ℕ) (bytes : List ℕ) (items : PlainValues) (rest : List ℕ) : Type 0 where
  are : AreValues items
  deep : greatest_depth items < levels
  whole : bytes ≡ items_text items ++ 93 ∷ rest

-- items behind others
record MoreRead (levels : ℕ) (before : List PlainValue) (bytes : List ℕ) (values : List PlainValue) (rest : List ℕ) : Type 0 where
  more : PlainValues
  behind : before ++ items_of more ≡ values
  some : 1 ≤ item_count more
  are : AreValues more
  deep : greatest_depth more ≤ levels
  whole : bytes ≡ items_text more ++ 93 ∷ rest

ReadsOnly : (levels : ℕ) → Decoder PlainValue → Type 0
ReadsOnly levels read = (bytes : List ℕ) (value : PlainValue) (rest : List ℕ) → read bytes ≡ Some (value, rest) → ValueRead levels bytes value rest

is_number : (a b : ℕ) → (a == b) ≡ true → a ≡ b
is_number a b h = grind (arith, nat_tests)

made_pair : {A B : Type 0} (make : A → B) (found : Option (A × List ℕ)) (y : B) (rest : List ℕ) → made_from make found ≡ Some (y, rest) → (x : A) × (found ≡ Some (x, rest)) × (make x ≡ y)
made_pair make None y rest e = absurd (none-some (y, rest) e)
made_pair {A} {B} make (Some x) y rest e =
    let p = same_Some (make x.0, x.1) (y, rest) e in
    (x.0, ap (λ (q : B × List ℕ). Some (x.0, q.1)) p, ap (λ (q : B × List ℕ). q.0) p)

text_only_row : (bytes : List ℕ) (levels : ℕ) (value : PlainValue) (rest : List ℕ) → made_at text literal_text_at bytes ≡ Some (value, rest) → ValueRead levels (34 ∷ bytes) value rest
text_only_row bytes levels value rest e =
    let m = made_pair text (literal_text_at bytes) value rest e in
    let read = literal_only bytes m.0 rest m.1 in
    subst (λ v. ValueRead levels (34 ∷ bytes) v rest) m.2 (record { is = read.scalars; deep = omega arith; whole = sym read.whole })

list_only_row : (items : Decoder PlainValues) (bytes : List ℕ) (levels : ℕ) (value : PlainValue) (rest : List ℕ) → ((bs : List ℕ) (vs : PlainValues) (r : List ℕ) → items bs ≡ Some (vs, r) → ItemsRead levels bs vs r)
    → made_at list items bytes ≡ Some (value, rest) → ValueRead levels (91 ∷ bytes) value rest
list_only_row items bytes levels value rest only e =
    let m = made_pair list (items bytes) value rest e in
    let read = only bytes m.0 rest m.1 in
    let deep = read.deep in
    let whole : 91 ∷ bytes ≡ value_text (list m.0) ++ rest = ap (λ xs. 91 ∷ xs) (read.whole ∙ sym (append_assoc (items_text m.0) (93 ∷ []) rest)) in
    subst (λ v. ValueRead levels (91 ∷ bytes) v rest) m.2 (record { is = read.are; deep = omega arith; whole = whole })

word_only_row : (bytes : List ℕ) (levels : ℕ) (value : PlainValue) (rest : List ℕ) → word_at bytes ≡ Some (value, rest) → ValueRead levels bytes value rest
word_only_row bytes levels value rest e =
    let s = stepped (value_of_word (front goes_on_word bytes)) (λ v. Some (v, rest_past goes_on_word bytes)) (value, rest) e in
    let p = same_Some (s.0, rest_past goes_on_word bytes) (value, rest) s.2 in
    let read = word_only (front goes_on_word bytes) s.0 s.1 in
    let flat = read.flat in
    let whole : bytes ≡ value_text s.0 ++ rest_past goes_on_word bytes = sym (whole_is goes_on_word bytes) ∙ ap (λ xs. xs ++ rest_past goes_on_word bytes) read.whole in
    subst (λ (q : PlainValue × List ℕ). ValueRead levels bytes q.0 q.1) p (record { is = read.is; deep = omega arith; whole = whole })

row_if : (items : Decoder PlainValues) (levels : ℕ) (byte : ℕ) (bytes : List ℕ) (value : PlainValue) (rest : List ℕ) → ((bs : List ℕ) (vs : PlainValues) (r : List ℕ) → items bs ≡ Some (vs, r) → ItemsRead levels bs vs r)
    → (q b : Bool) → (byte == 34) ≡ q → (byte == 91) ≡ b
    → (if q then made_at text literal_text_at bytes else (if b then made_at list items bytes else word_at (byte ∷ bytes))) ≡ Some (value, rest) → ValueRead levels (byte ∷ bytes) value rest
row_if items levels byte bytes value rest only true b hq hb e = rw (is_number byte 34 hq) (text_only_row bytes levels value rest e)
row_if items levels byte bytes value rest only false true hq hb e = rw (is_number byte 91 hb) (list_only_row items bytes levels value rest only e)
row_if items levels byte bytes value rest only false false hq hb e = word_only_row (byte ∷ bytes) levels value rest e

row_only : (items : Decoder PlainValues) (levels : ℕ) → ((bs : List ℕ) (vs : PlainValues) (r : List ℕ) → items bs ≡ Some (vs, r) → ItemsRead levels bs vs r) → ReadsOnly levels (value_text_row items)
unfolding ReadsOnly
row_only items levels only [] value rest e = absurd (none-some (value, rest) e)
row_only items levels only (byte ∷ bytes) value rest e = row_if items levels byte bytes value rest only (byte == 34) (byte == 91) refl refl e

behind_if : (levels : ℕ) (before : List PlainValue) (value : PlainValue) (more : Decoder (List PlainValue)) (byte : ℕ) (bytes : List ℕ) (values : List PlainValue) (rest : List ℕ) → IsValue value → depth value ≤ levels
    → ((bs : List ℕ) (vs : List PlainValue) (r : List ℕ) → more bs ≡ Some (vs, r) → MoreRead levels (before ++ value ∷ []) bs vs r)
    → (e c : Bool) → (byte == 93) ≡ e → (byte == 44) ≡ c
    → (if e then Some (before ++ value ∷ [], bytes) else (if c then more bytes else None)) ≡ Some (values, rest) → MoreRead levels before (value_text value ++ byte ∷ bytes) values rest
behind_if levels before value more byte bytes values rest is deep later true c he hc found =
    let p = same_Some (before ++ value ∷ [], bytes) (values, rest) found in
    let all : before ++ value ∷ [] ≡ values = ap (λ (q : List PlainValue × List ℕ). q.0) p in
    let end : bytes ≡ rest = ap (λ (q : List PlainValue × List ℕ). q.1) p in
    let whole : value_text value ++ byte ∷ bytes ≡ value_text value ++ 93 ∷ rest = ap (λ b. value_text value ++ b ∷ bytes) (is_number byte 93 he) ∙ ap (λ bs. value_text value ++ 93 ∷ bs) end in
    record { more = item value no_items; behind = all; some = omega arith; are = (is, tt); deep = omega arith; whole = whole }
behind_if levels before value more byte bytes values rest is deep later false true he hc found =
    let m = later bytes values rest found in
    let some = m.some in
    let more_deep = m.deep in
    let whole : value_text value ++ byte ∷ bytes ≡ items_text (item value m.more) ++ 93 ∷ rest =
    ap (λ b. value_text value ++ b ∷ bytes) (is_number byte 44 hc) ∙ ap (λ bs. value_text value ++ 44 ∷ bs) m.whole
    ∙ sym (append_assoc (value_text value) (44 ∷ items_text m.more) (93 ∷ rest)) ∙ ap (λ xs. xs ++ 93 ∷ rest) (sym (items_text-more value m.more some)) in
    record {
      more = item value m.more;
      behind = sym (append_assoc before (value ∷ []) (items_of m.more)) ∙ m.behind;
      some = omega arith;
      are = (is, m.are);
      deep = omega arith;
      whole = whole;
    }
behind_if levels before value more byte bytes values rest is deep later false false he hc found = absurd (none-some (values, rest) found)

behind_only : (levels : ℕ) (before : List PlainValue) (value : PlainValue) (more : Decoder (List PlainValue)) (bytes : List ℕ) (values : List PlainValue) (rest : List ℕ) → IsValue value → depth value ≤ levels
    → ((bs : List ℕ) (vs : List PlainValue) (r : List ℕ) → more bs ≡ Some (vs, r) → MoreRead levels (before ++ value ∷ []) bs vs r)
    → behind_item (before ++ value ∷ []) more bytes ≡ Some (values, rest) → MoreRead levels before (value_text value ++ bytes) values rest
behind_only levels before value more [] values rest is deep later found = absurd (none-some (values, rest) found)
behind_only levels before value more (byte ∷ bytes) values rest is deep later found = behind_if levels before value more byte bytes values rest is deep later (byte == 93) (byte == 44) refl refl found

items_only : (levels : ℕ) (read : Decoder PlainValue) → ReadsOnly levels read → (count : ℕ) (before : List PlainValue) (bytes : List ℕ) (values : List PlainValue) (rest : List ℕ) → text_items_at read before count bytes ≡ Some (values, rest) → MoreRead levels before bytes values rest
unfolding text_items_at ReadsOnly
items_only levels read only zero before bytes values rest e = absurd (none-some (values, rest) e)
items_only levels read only (suc count) before bytes values rest e =
    let s = stepped (read bytes) (λ x. behind_item (before ++ x.0 ∷ []) (text_items_at read (before ++ x.0 ∷ []) count) x.1) (values, rest) e in
    let one = only bytes s.0.0 s.0.1 s.1 in
    let more = behind_only levels before s.0.0 (text_items_at read (before ++ s.0.0 ∷ []) count) s.0.1 values rest one.is one.deep (λ bs vs r f. items_only levels read only count (before ++ s.0.0 ∷ []) bs vs r f) s.2 in
    subst (λ bs. MoreRead levels before bs values rest) (sym one.whole) more

list_if : (levels : ℕ) (read : Decoder PlainValue) → ReadsOnly levels read → (byte : ℕ) (bytes : List ℕ) (items : PlainValues) (rest : List ℕ) → (b : Bool) → (byte == 93) ≡ b
    → (if b then Some (no_items, bytes) else made_at plains_of (text_items_at read [] (length (byte ∷ bytes))) (byte ∷ bytes)) ≡ Some (items, rest) → ItemsRead (suc levels) (byte ∷ bytes) items rest
list_if levels read only byte bytes items rest true hb e =
    let p = same_Some (no_items, bytes) (items, rest) e in
    let none : ItemsRead (suc levels) (byte ∷ bytes) no_items bytes = record { are = tt; deep = omega arith; whole = ap (λ b. b ∷ bytes) (is_number byte 93 hb) } in
    subst (λ (q : PlainValues × List ℕ). ItemsRead (suc levels) (byte ∷ bytes) q.0 q.1) p none
list_if levels read only byte bytes items rest false hb e =
    let m = made_pair plains_of (text_items_at read [] (length (byte ∷ bytes)) (byte ∷ bytes)) items rest e in
    let found = items_only levels read only (length (byte ∷ bytes)) [] (byte ∷ bytes) m.0 rest m.1 in
    let same : found.more ≡ items = sym (plains_of-items_of found.more) ∙ ap plains_of found.behind ∙ m.2 in
    let deep = found.deep in
    subst (λ vs. ItemsRead (suc levels) (byte ∷ bytes) vs rest) same (record { are = found.are; deep = omega arith; whole = found.whole })

list_only : (levels : ℕ) (read : Decoder PlainValue) → ReadsOnly levels read → (bytes : List ℕ) (items : PlainValues) (rest : List ℕ) → bracketed_items read bytes ≡ Some (items, rest) → ItemsRead (suc levels) bytes items rest
list_only levels read only [] items rest e = absurd (none-some (items, rest) e)
list_only levels read only (byte ∷ bytes) items rest e = list_if levels read only byte bytes items rest (byte == 93) refl e

never_only : (bytes : List ℕ) (items : PlainValues) (rest : List ℕ) → never_at {A = PlainValues} bytes ≡ Some (items, rest) → ItemsRead 0 bytes items rest
never_only bytes items rest e = absurd (none-some (items, rest) e)

value_only : (levels : ℕ) → ReadsOnly levels (value_text_at levels)
unfolding value_text_at
value_only zero = row_only never_at 0 never_only
value_only (suc levels) = row_only (bracketed_items (value_text_at levels)) (suc levels) (list_only levels (value_text_at levels) (value_only levels))

-- ---- the whole text

-- the value that has a text is read from it
pub text_again : (value : PlainValue) → IsValue value → InBounds value → value_of_text (value_text value) ≡ Some value
text_again value is bounds =
    let read : value_text_at most_depth (value_text value) ≡ Some (value, []) = ap (value_text_at most_depth) (sym (append-nil (value_text value))) ∙ value_again value most_depth [] is bounds.1 tt in
    rw (read, is_in_bounds-InBounds value bounds) refl

is_empty : (xs : List ℕ) → (length xs == 0) ≡ true → xs ≡ []
is_empty [] h = refl
is_empty (x ∷ xs) h =
    let none : length (x ∷ xs) ≡ 0 = is_number (length (x ∷ xs)) 0 h in
    absurd (omega arith)

-- what a text that was read says
pub record TextIs (bytes : List ℕ) (value : PlainValue) : Type 0 where
  pub is : IsValue value
  pub bounds : InBounds value
  pub whole : bytes ≡ value_text value

text_read : (bytes : List ℕ) (value : PlainValue) → value_of_text bytes ≡ Some value → TextIs bytes value
unfolding ReadsOnly
text_read bytes value e =
    let t = stepped (tested_at is_in_bounds (value_text_at most_depth) bytes) (λ x. if length x.1 == 0 then Some x.0 else None) value e in
    let w = passed (length t.0.1 == 0) t.0.0 value t.2 in
    let r = stepped (value_text_at most_depth bytes) (λ x. if is_in_bounds x.0 then Some x else None) t.0 t.1 in
    let b = passed (is_in_bounds r.0.0) r.0 t.0 r.2 in
    let read = value_only most_depth bytes r.0.0 r.0.1 r.1 in
    let none : r.0.1 ≡ [] = ap (λ (q : PlainValue × List ℕ). q.1) b.1 ∙ is_empty t.0.1 w.0 in
    let same : r.0.0 ≡ value = ap (λ (q : PlainValue × List ℕ). q.0) b.1 ∙ w.1 in
    let whole : bytes ≡ value_text r.0.0 = read.whole ∙ ap (λ xs. value_text r.0.0 ++ xs) none ∙ append-nil (value_text r.0.0) in
    subst (TextIs bytes) same (record { is = read.is; bounds = InBounds-is_in_bounds r.0.0 b.0; whole = whole })

-- and from no other
pub text_only : (bytes : List ℕ) (value : PlainValue) → value_of_text bytes ≡ Some value → IsValue value × InBounds value × (bytes ≡ value_text value)
text_only bytes value e = let read = text_read bytes value e in (read.is, read.bounds, read.whole)
