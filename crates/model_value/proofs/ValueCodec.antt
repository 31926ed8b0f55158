-- A value is read exactly where a value in bounds has its spelling.
use Rattle.std.proofs.Common.{rules, Fits, ◌≡◌, ℕ, zero, suc, ◌^◌, ◌<◌, ◌≤◌, ℤ, Bool, true, false, eqb, leb, ◌&&◌, List, [], ◌∷◌, ◌++◌, length, refl, sym, ap, subst, ◌∙◌, arith}
use Rattle.std.specs.Prelude.{FitsSigned}
use Rattle.std.specs.Int.{w32, w64, to_be_bytes, cast_unsigned, cast_signed}
use Rattle.std.specs.List.{flat_map}
use Rattle.std.proofs.Math.Facts.{sfits_to_z, Fits-of_z}
use Rattle.std.proofs.lemmas.Int.{to_z-of_z, of_z-to_z}
use Rattle.std.proofs.lemmas.Bool.{eqb-true, eqb-false, leb-true, le-leb}
use Rattle.std.proofs.lemmas.List.Concat.{flat_map-cons}
use Rattle.byte_fields.specs.Fields.{Decoder, made_at, list_of, list_at, never_at, text_field}
use Rattle.byte_fields.proofs.Codecs.{Codec, EachFits, FitsText, wide32, wide64, number_codec, byte_codec, text_codec, list_codec, headed_codec, made_codec, said_codec, tested_codec, chosen_codec, nothing_codec, never_codec}
use Rattle.model_value.specs.Plain.{PlainValue, nil, bool, int, text, ref, list, PlainValues, no_items, item, items_of, weight, weight_of_all, depth, greatest_depth, InBounds, is_in_bounds, most_weight, most_depth}
use Rattle.model_value.specs.View.{plains_of}
use Rattle.model_value.specs.Spelling.{item_count, value_spelling, items_spelling, IsValue, AreValues}
use Rattle.model_value.specs.Reading.{value_of_kind, value_row, value_at, bounded_at}
use Rattle.model_value.proofs.Items.{plains_of-items_of}
use Rattle.model_value.proofs.Spellings.{count-le_weight, encode_utf8_all-le_weight}

-- the numbers are of their types, and lengths and counts of 32 bits
abbrev mutual
  pub HasSpelling : PlainValue → Type 0
  HasSpelling nil = Unit {0}
  HasSpelling (bool flag) = Unit {0}
  HasSpelling (int n) = FitsSigned w64 n
  HasSpelling (text s) = FitsText s
  HasSpelling (ref n) = n < 2 ^ 32
  HasSpelling (list items) = (item_count items < 2 ^ 32) × HaveSpellings items

  pub HaveSpellings : PlainValues → Type 0
  HaveSpellings no_items = Unit {0}
  HaveSpellings (item v rest) = HasSpelling v × HaveSpellings rest

-- ---- one value, by what its items are

abbrev kind_of : PlainValue → ℕ
kind_of nil = 0
kind_of (bool false) = 1
kind_of (bool true) = 2
kind_of (int n) = 3
kind_of (text s) = 4
kind_of (ref n) = 5
kind_of (list items) = 6

abbrev list_spelling : PlainValues → List ℕ
list_spelling items = to_be_bytes w32 (item_count items) ++ items_spelling items

abbrev body : PlainValue → List ℕ
body nil = []
body (bool b) = []
body (int n) = to_be_bytes w64 (cast_unsigned w64 n)
body (text s) = text_field s
body (ref n) = to_be_bytes w32 n
body (list items) = list_spelling items

abbrev RowFits : (PlainValues → Type 0) → PlainValue → Type 0
RowFits F nil = Unit {0}
RowFits F (bool b) = Unit {0}
RowFits F (int n) = FitsSigned w64 n
RowFits F (text s) = FitsText s
RowFits F (ref n) = n < 2 ^ 32
RowFits F (list items) = F items

abbrev OfKind : (PlainValues → Type 0) → ℕ → PlainValue → Type 0
OfKind F kind v = (kind_of v ≡ kind) × RowFits F v

is_nil : (v : PlainValue) → kind_of v ≡ 0 → v ≡ nil
is_nil nil e = refl
is_nil (bool false) e = absurd (omega arith)
is_nil (bool true) e = absurd (omega arith)
is_nil (int n) e = absurd (omega arith)
is_nil (text s) e = absurd (omega arith)
is_nil (ref n) e = absurd (omega arith)
is_nil (list items) e = absurd (omega arith)

is_false : (v : PlainValue) → kind_of v ≡ 1 → v ≡ bool false
is_false nil e = absurd (omega arith)
is_false (bool false) e = refl
is_false (bool true) e = absurd (omega arith)
is_false (int n) e = absurd (omega arith)
is_false (text s) e = absurd (omega arith)
is_false (ref n) e = absurd (omega arith)
is_false (list items) e = absurd (omega arith)

is_true : (v : PlainValue) → kind_of v ≡ 2 → v ≡ bool true
is_true nil e = absurd (omega arith)
is_true (bool false) e = absurd (omega arith)
is_true (bool true) e = refl
is_true (int n) e = absurd (omega arith)
is_true (text s) e = absurd (omega arith)
is_true (ref n) e = absurd (omega arith)
is_true (list items) e = absurd (omega arith)

Fits-below : (n : ℕ) → Fits w64 n → n < 2 ^ 64
Fits-below n fits = omega (arith, fits)

below-Fits : (n : ℕ) → n < 2 ^ 64 → Fits w64 n
below-Fits n lt = search rules

word_fits : (n : ℤ) → FitsSigned w64 n → cast_unsigned w64 n < 2 ^ 64
word_fits n fits = Fits-below (cast_unsigned w64 n) (Fits-of_z {w = w64} {z = n} fits)

int_fits : (n : ℕ) → n < 2 ^ 64 → FitsSigned w64 (cast_signed w64 n)
int_fits n lt = sfits_to_z {w = w64} {n = n} (below-Fits n lt)

is_int : (F : PlainValues → Type 0) (v : PlainValue) → kind_of v ≡ 3 → RowFits F v → (n : ℕ) × (v ≡ int (cast_signed w64 n)) × (n < 2 ^ 64)
is_int F nil e fits = absurd (omega arith)
is_int F (bool false) e fits = absurd (omega arith)
is_int F (bool true) e fits = absurd (omega arith)
is_int F (int n) e fits = (cast_unsigned w64 n, ap int (sym (to_z-of_z w64 n fits)), word_fits n fits)
is_int F (text s) e fits = absurd (omega arith)
is_int F (ref n) e fits = absurd (omega arith)
is_int F (list items) e fits = absurd (omega arith)

is_text : (F : PlainValues → Type 0) (v : PlainValue) → kind_of v ≡ 4 → RowFits F v → (s : List ℕ) × (v ≡ text s) × (FitsText s)
is_text F nil e fits = absurd (omega arith)
is_text F (bool false) e fits = absurd (omega arith)
is_text F (bool true) e fits = absurd (omega arith)
is_text F (int n) e fits = absurd (omega arith)
is_text F (text s) e fits = (s, refl, fits)
is_text F (ref n) e fits = absurd (omega arith)
is_text F (list items) e fits = absurd (omega arith)

is_ref : (F : PlainValues → Type 0) (v : PlainValue) → kind_of v ≡ 5 → RowFits F v → (n : ℕ) × (v ≡ ref n) × (n < 2 ^ 32)
is_ref F nil e fits = absurd (omega arith)
is_ref F (bool false) e fits = absurd (omega arith)
is_ref F (bool true) e fits = absurd (omega arith)
is_ref F (int n) e fits = absurd (omega arith)
is_ref F (text s) e fits = absurd (omega arith)
is_ref F (ref n) e fits = (n, refl, fits)
is_ref F (list items) e fits = absurd (omega arith)

is_list : (F : PlainValues → Type 0) (v : PlainValue) → kind_of v ≡ 6 → RowFits F v → (items : PlainValues) × (v ≡ list items) × F items
is_list F nil e fits = absurd (omega arith)
is_list F (bool false) e fits = absurd (omega arith)
is_list F (bool true) e fits = absurd (omega arith)
is_list F (int n) e fits = absurd (omega arith)
is_list F (text s) e fits = absurd (omega arith)
is_list F (ref n) e fits = absurd (omega arith)
is_list F (list items) e fits = (items, refl, fits)

kind-small : (v : PlainValue) → kind_of v < 7
kind-small nil = omega arith
kind-small (bool false) = omega arith
kind-small (bool true) = omega arith
kind-small (int n) = omega arith
kind-small (text s) = omega arith
kind-small (ref n) = omega arith
kind-small (list items) = omega arith

abbrev Apart : ℕ → ℕ → Type 0
Apart kind n = eqb kind n ≡ false

no_other : (kind : ℕ) (v : PlainValue) → Apart kind 0 → Apart kind 1 → Apart kind 2 → Apart kind 3 → Apart kind 4 → Apart kind 5 → Apart kind 6 → kind_of v ≡ kind → ⊥
no_other kind v a b c d e f g is =
    let small = kind-small v in
    let a1 = eqb-false kind 0 a in
    let b1 = eqb-false kind 1 b in
    let c1 = eqb-false kind 2 c in
    let d1 = eqb-false kind 3 d in
    let e1 = eqb-false kind 4 e in
    let f1 = eqb-false kind 5 f in
    let g1 = eqb-false kind 6 g in
    omega arith

body_codec : (F : PlainValues → Type 0) (r : Decoder PlainValues) → Codec PlainValues list_spelling F r → (kind : ℕ) → Codec PlainValue body (OfKind F kind) (value_of_kind r kind)
body_codec F r items kind =
    chosen_codec (eqb kind 0)
    (λ h. let is = eqb-true kind 0 h in said_codec body (OfKind F kind) (λ v e. rw e refl) (λ v e. subst (OfKind F kind) (sym e) (sym is, tt)) (λ v f. is_nil v (f.0 ∙ is)) (nothing_codec nil))
    (λ a. chosen_codec (eqb kind 1)
    (λ h. let is = eqb-true kind 1 h in said_codec body (OfKind F kind) (λ v e. rw e refl) (λ v e. subst (OfKind F kind) (sym e) (sym is, tt)) (λ v f. is_false v (f.0 ∙ is)) (nothing_codec (bool false)))
    (λ b. chosen_codec (eqb kind 2)
    (λ h. let is = eqb-true kind 2 h in said_codec body (OfKind F kind) (λ v e. rw e refl) (λ v e. subst (OfKind F kind) (sym e) (sym is, tt)) (λ v f. is_true v (f.0 ∙ is)) (nothing_codec (bool true)))
    (λ c. chosen_codec (eqb kind 3)
    (λ h. let is = eqb-true kind 3 h in made_codec (λ n. int (cast_signed w64 n)) body (OfKind F kind) (number_codec w64 (2 ^ 64) wide64) (λ v f. is_int F v (f.0 ∙ is) f.1) (λ n lt. (sym is, int_fits n lt)) (λ n lt. ap (to_be_bytes w64) (of_z-to_z w64 n lt)))
    (λ d. chosen_codec (eqb kind 4)
    (λ h. let is = eqb-true kind 4 h in made_codec text body (OfKind F kind) text_codec (λ v f. is_text F v (f.0 ∙ is) f.1) (λ s fits. (sym is, fits)) (λ s _. refl))
    (λ e. chosen_codec (eqb kind 5)
    (λ h. let is = eqb-true kind 5 h in made_codec ref body (OfKind F kind) (number_codec w32 (2 ^ 32) wide32) (λ v f. is_ref F v (f.0 ∙ is) f.1) (λ n lt. (sym is, lt)) (λ n _. refl))
    (λ f. chosen_codec (eqb kind 6)
    (λ h. let is = eqb-true kind 6 h in made_codec list body (OfKind F kind) items (λ v f. is_list F v (f.0 ∙ is) f.1) (λ items fits. (sym is, fits)) (λ items _. refl))
    (λ g. never_codec body (OfKind F kind) (λ v k. no_other kind v a b c d e f g k.0))))))))

spelled_so : (v : PlainValue) → value_spelling v ≡ (kind_of v ∷ []) ++ body v
spelled_so nil = refl
spelled_so (bool false) = refl
spelled_so (bool true) = refl
spelled_so (int n) = refl
spelled_so (text s) = refl
spelled_so (ref n) = refl
spelled_so (list items) = refl

row_codec : (F : PlainValues → Type 0) (r : Decoder PlainValues) → Codec PlainValues list_spelling F r → Codec PlainValue value_spelling (RowFits F) (value_row r)
row_codec F r items = said_codec value_spelling (RowFits F) (λ v _. spelled_so v) (λ v f. f.1) (λ v f. let small = kind-small v in (omega arith, f))
    (headed_codec kind_of body (RowFits F) (value_of_kind r) byte_codec (λ kind _. body_codec F r items kind))

-- ---- lists in lists

-- lists nest at most so deep, and there is a spelling
abbrev pub Nests : ℕ → PlainValue → Type 0
Nests levels v = (depth v ≤ levels) × HasSpelling v

abbrev NestAll : ℕ → PlainValues → Type 0
NestAll levels items = (item_count items < 2 ^ 32) × ((greatest_depth items ≤ levels) × HaveSpellings items)

count-plains_of : (vs : List PlainValue) → item_count (plains_of vs) ≡ length vs
count-plains_of [] = refl
count-plains_of (v ∷ vs) = omega (arith, count-plains_of vs)

length-items_of : (items : PlainValues) → length (items_of items) ≡ item_count items
length-items_of no_items = refl
length-items_of (item v rest) = omega (arith, length-items_of rest)

spelled_all : (vs : List PlainValue) → items_spelling (plains_of vs) ≡ flat_map value_spelling vs
spelled_all [] = refl
spelled_all (v ∷ vs) = ap (λ (x : List ℕ). value_spelling v ++ x) (spelled_all vs) ∙ sym (flat_map-cons value_spelling v vs)

each_nests : (levels : ℕ) (before : List PlainValue) (items : PlainValues) → greatest_depth items ≤ levels → HaveSpellings items → EachFits (λ _. Nests levels) before (items_of items)
each_nests levels before no_items deep has = tt
each_nests levels before (item v rest) deep has = ((omega arith, has.0), each_nests levels (before ++ v ∷ []) rest (omega arith) has.1)

all_nest : (levels : ℕ) (before vs : List PlainValue) → EachFits (λ _. Nests levels) before vs → (greatest_depth (plains_of vs) ≤ levels) × HaveSpellings (plains_of vs)
all_nest levels before [] each = (omega arith, tt)
all_nest levels before (v ∷ vs) each =
    let one = each.0.0 in
    let more = all_nest levels (before ++ v ∷ []) vs each.1 in
    let deep = more.0 in
    (omega arith, (each.0.1, more.1))

items_spelled : (vs : List PlainValue) → list_spelling (plains_of vs) ≡ list_of value_spelling vs
items_spelled vs = ap (λ (n : ℕ). to_be_bytes w32 n ++ items_spelling (plains_of vs)) (count-plains_of vs) ∙ ap (λ (x : List ℕ). to_be_bytes w32 (length vs) ++ x) (spelled_all vs)

items_codec : (levels : ℕ) → Codec PlainValue value_spelling (Nests levels) (value_at levels) → Codec PlainValues list_spelling (NestAll levels) (made_at plains_of (list_at (λ _. value_at levels)))
items_codec levels one =
    made_codec plains_of list_spelling (NestAll levels) (list_codec value_spelling (λ _. Nests levels) (λ _. value_at levels) (λ _. one))
    (λ items fits. (items_of items, sym (plains_of-items_of items), (rw (length-items_of items) (fits.0), each_nests levels [] items fits.1.0 fits.1.1)))
    (λ vs fits. (rw (count-plains_of vs) (fits.0), all_nest levels [] vs fits.1))
    (λ vs _. items_spelled vs)

to_nests : (levels : ℕ) (v : PlainValue) → RowFits (NestAll levels) v → Nests (suc levels) v
to_nests levels nil fits = (omega arith, fits)
to_nests levels (bool b) fits = (omega arith, fits)
to_nests levels (int n) fits = (omega arith, fits)
to_nests levels (text s) fits = (omega arith, fits)
to_nests levels (ref n) fits = (omega arith, fits)
to_nests levels (list items) fits = let deep = fits.1.0 in (omega arith, (fits.0, fits.1.1))

from_nests : (levels : ℕ) (v : PlainValue) → Nests (suc levels) v → RowFits (NestAll levels) v
from_nests levels nil fits = fits.1
from_nests levels (bool b) fits = fits.1
from_nests levels (int n) fits = fits.1
from_nests levels (text s) fits = fits.1
from_nests levels (ref n) fits = fits.1
from_nests levels (list items) fits = let deep = fits.0 in (fits.1.0, (omega arith, fits.1.1))

abbrev NoItems : PlainValues → Type 0
NoItems items = ⊥

to_flat : (v : PlainValue) → RowFits NoItems v → Nests 0 v
to_flat nil fits = (omega arith, fits)
to_flat (bool b) fits = (omega arith, fits)
to_flat (int n) fits = (omega arith, fits)
to_flat (text s) fits = (omega arith, fits)
to_flat (ref n) fits = (omega arith, fits)
to_flat (list items) fits = absurd fits

from_flat : (v : PlainValue) → Nests 0 v → RowFits NoItems v
from_flat nil fits = fits.1
from_flat (bool b) fits = fits.1
from_flat (int n) fits = fits.1
from_flat (text s) fits = fits.1
from_flat (ref n) fits = fits.1
from_flat (list items) fits = let deep = fits.0 in absurd (omega arith)

pub value_codec : (levels : ℕ) → Codec PlainValue value_spelling (Nests levels) (value_at levels)
unfolding value_at
value_codec zero = said_codec value_spelling (Nests 0) (λ v _. refl) to_flat from_flat (row_codec NoItems never_at (never_codec list_spelling NoItems (λ items h. h)))
value_codec (suc levels) = said_codec value_spelling (Nests (suc levels)) (λ v _. refl) (to_nests levels) (from_nests levels) (row_codec (NestAll levels) (made_at plains_of (list_at (λ _. value_at levels))) (items_codec levels (value_codec levels)))

-- ---- values in bounds

both_true : (a b : Bool) → (a && b) ≡ true → (a ≡ true) × (b ≡ true)
both_true true true e = (refl, refl)
both_true true false e = absurd cc
both_true false b e = absurd cc

both_hold : (a b : Bool) → a ≡ true → b ≡ true → (a && b) ≡ true
both_hold true b e f = f
both_hold false b e f = absurd cc

pub InBounds-is_in_bounds : (v : PlainValue) → is_in_bounds v ≡ true → InBounds v
InBounds-is_in_bounds v e =
    let parts = both_true (leb (weight v) most_weight) (leb (depth v) most_depth) e in
    (leb-true (weight v) most_weight parts.0, leb-true (depth v) most_depth parts.1)

pub is_in_bounds-InBounds : (v : PlainValue) → InBounds v → is_in_bounds v ≡ true
is_in_bounds-InBounds v fits = both_hold (leb (weight v) most_weight) (leb (depth v) most_depth) (le-leb (weight v) most_weight fits.0) (le-leb (depth v) most_depth fits.1)

-- a light value has a spelling
mutual
  has_spelling : (v : PlainValue) → IsValue v → weight v < 2 ^ 28 → HasSpelling v
  has_spelling nil is light = tt
  has_spelling (bool flag) is light = tt
  has_spelling (int n) is light = is
  has_spelling (text s) is light = (is, omega (arith, encode_utf8_all-le_weight s))
  has_spelling (ref n) is light = is
  has_spelling (list items) is light = (omega (arith, count-le_weight items), have_spellings items is (omega arith))

  have_spellings : (items : PlainValues) → AreValues items → weight_of_all items < 2 ^ 28 → HaveSpellings items
  have_spellings no_items is light = tt
  have_spellings (item v rest) is light = (has_spelling v is.0 (omega arith), have_spellings rest is.1 (omega arith))

-- it is in bounds, and there is a spelling
abbrev pub FitsBounds : PlainValue → Type 0
FitsBounds v = Nests most_depth v × (is_in_bounds v ≡ true)

pub bounded_codec : Codec PlainValue value_spelling FitsBounds bounded_at
bounded_codec = tested_codec is_in_bounds (value_codec most_depth)

pub is_bounded : (v : PlainValue) → IsValue v → InBounds v → FitsBounds v
is_bounded v is fits = ((fits.1, has_spelling v is (omega (arith, fits.0))), is_in_bounds-InBounds v fits)
