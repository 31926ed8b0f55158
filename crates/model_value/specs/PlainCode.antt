-- A code of plain trees, so that a type may be seen as holding them: the marks of a tree, each list behind its items.
use Rattle.std.specs.Prelude.{◌≡◌, ℕ, zero, suc, ℤ, pos, Bool, true, false, List, [], ◌∷◌, ◌++◌, refl}
use Rattle.std.specs.Coded.{Coded, code_by, coded×, coded_ℕ, coded_ℤ, coded_list}
use Rattle.std.proofs.Common.{ap, ◌∙◌, append_assoc, append-nil, sym}
use Rattle.model_value.specs.Plain.{PlainValue, nil, bool, int, text, ref, list, PlainValues, no_items, item}

-- its kind, and the number or the text of a kind that has one
abbrev pub Mark : Type 0
Mark = ℕ × (ℤ × List ℕ)

abbrev pub mark : ℕ → Mark
mark kind = (kind, (pos 0, []))

abbrev pub mark_bool : Bool → Mark
mark_bool false = mark 1
mark_bool true = mark 2

abbrev mutual
  pub marks : PlainValue → List Mark
  marks nil = mark 0 ∷ []
  marks (bool flag) = mark_bool flag ∷ []
  marks (int number) = (3, (number, [])) ∷ []
  marks (text characters) = (4, (pos 0, characters)) ∷ []
  marks (ref object) = (5, (pos 0, object ∷ [])) ∷ []
  marks (list items) = marks_of_all items ++ mark 6 ∷ []

  pub marks_of_all : PlainValues → List Mark
  marks_of_all no_items = mark 7 ∷ []
  marks_of_all (item value rest) = marks_of_all rest ++ (marks value ++ mark 8 ∷ [])

-- a reader holds the trees and the rows of trees that are not used yet
abbrev pub wrap_list : List PlainValue → List PlainValues → (List PlainValue → List PlainValues → List PlainValue)
    → List PlainValue
wrap_list values [] next = []
wrap_list values (row ∷ rows) next = next (list row ∷ values) rows

abbrev pub join_item : List PlainValue → List PlainValues → (List PlainValue → List PlainValues → List PlainValue)
    → List PlainValue
join_item [] rows next = []
join_item (value ∷ values) [] next = []
join_item (value ∷ values) (row ∷ rows) next = next values (item value row ∷ rows)

abbrev pub first_code_number : List ℕ → ℕ
first_code_number [] = 0
first_code_number (number ∷ rest) = number

abbrev pub read_mark : ℕ → ℤ → List ℕ → List PlainValue → List PlainValues
    → (List PlainValue → List PlainValues → List PlainValue) → List PlainValue
read_mark zero n s values rows next = next (nil ∷ values) rows
read_mark (suc zero) n s values rows next = next (bool false ∷ values) rows
read_mark (suc (suc zero)) n s values rows next = next (bool true ∷ values) rows
read_mark (suc (suc (suc zero))) n s values rows next = next (int n ∷ values) rows
read_mark (suc (suc (suc (suc zero)))) n s values rows next = next (text s ∷ values) rows
read_mark (suc (suc (suc (suc (suc zero))))) n s values rows next = next (ref (first_code_number s) ∷ values) rows
read_mark (suc (suc (suc (suc (suc (suc zero)))))) n s values rows next = wrap_list values rows next
read_mark (suc (suc (suc (suc (suc (suc (suc zero))))))) n s values rows next = next values (no_items ∷ rows)
read_mark (suc (suc (suc (suc (suc (suc (suc (suc _)))))))) n s values rows next = join_item values rows next

abbrev pub read_marks : List Mark → List PlainValue → List PlainValues → List PlainValue
read_marks [] values rows = values
read_marks (m ∷ ms) values rows = read_mark m.0 m.1.0 m.1.1 values rows (read_marks ms)

abbrev pub first_value : List PlainValue → PlainValue
first_value [] = nil
first_value (value ∷ values) = value

abbrev pub from_marks : List Mark → PlainValue
from_marks ms = first_value (read_marks ms [] [])

read_bool : (flag : Bool) (more : List Mark) (values : List PlainValue) (rows : List PlainValues)
    → read_marks (mark_bool flag ∷ more) values rows ≡ read_marks more (bool flag ∷ values) rows
read_bool false more values rows = refl
read_bool true more values rows = refl

mutual
  reads : (value : PlainValue) (more : List Mark) (values : List PlainValue) (rows : List PlainValues)
      → read_marks (marks value ++ more) values rows ≡ read_marks more (value ∷ values) rows
  reads nil more values rows = refl
  reads (bool flag) more values rows = read_bool flag more values rows
  reads (int number) more values rows = refl
  reads (text characters) more values rows = refl
  reads (ref object) more values rows = refl
  reads (list items) more values rows =
      ap (λ ms. read_marks ms values rows) (append_assoc (marks_of_all items) (mark 6 ∷ []) more) ∙ reads_all items
      (mark 6 ∷ more) values rows

  reads_all : (items : PlainValues) (more : List Mark) (values : List PlainValue) (rows : List PlainValues)
      → read_marks (marks_of_all items ++ more) values rows ≡ read_marks more values (items ∷ rows)
  reads_all no_items more values rows = refl
  reads_all (item value rest) more values rows =
      ap (λ ms. read_marks ms values rows) (append_assoc (marks_of_all rest) (marks value ++ mark 8 ∷ []) more)
      ∙ reads_all rest ((marks value ++ mark 8 ∷ []) ++ more) values rows
      ∙ ap (λ ms. read_marks ms values (rest ∷ rows)) (append_assoc (marks value) (mark 8 ∷ []) more)
      ∙ reads value (mark 8 ∷ more) values (rest ∷ rows)

pub from-marks : (value : PlainValue) → from_marks (marks value) ≡ value
from-marks value = ap (λ ms. first_value (read_marks ms [] [])) (sym (append-nil (marks value))) ∙ ap first_value
    (reads value [] [] [])

abbrev pub coded_plain : Coded PlainValue
coded_plain = code_by (List Mark) (coded_list (coded× coded_ℕ (coded× coded_ℤ (coded_list coded_ℕ)))) marks from_marks
    from-marks
