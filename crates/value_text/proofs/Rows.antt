-- The readers of values by how deep lists may still nest.
use Rattle.std.proofs.Common.{◌≡◌, ◌≢◌, ℕ, zero, suc, ◌-◌, ◌<◌, false, List, ◌∷◌, refl, sym, ap, ◌∙◌, arith}
use Rattle.std.specs.Prelude.{◌==◌}
use Rattle.std.proofs.lemmas.Bool.Decides.{nat_tests}
use Rattle.byte_fields.specs.Fields.{Decoder}
use Rattle.model_value.specs.Plain.{PlainValues}
use Rattle.value_text.specs.Reading.{word_at, value_text_row, bracketed_items, value_text_at, nested_items}

pub value_text_at-row : (levels : ℕ) (bytes : List ℕ) → value_text_at levels bytes ≡ value_text_row (nested_items levels) bytes
unfolding value_text_at
value_text_at-row zero bytes = refl
value_text_at-row (suc levels) bytes = refl

pub nested_items-list : (levels : ℕ) (bytes : List ℕ) → 0 < levels → nested_items levels bytes ≡ bracketed_items (value_text_at (levels - 1)) bytes
nested_items-list zero bytes h = absurd (omega arith)
nested_items-list (suc levels) bytes h = let e : suc levels - 1 ≡ levels = omega arith in rw e refl

-- what begins neither as a text nor as a list is a word
word_in_row : (items : Decoder PlainValues) (first : ℕ) (behind : List ℕ) → first ≢ 34 → first ≢ 91 → value_text_row items (first ∷ behind) ≡ word_at (first ∷ behind)
word_in_row items first behind quote bracket =
    let q : (first == 34) ≡ false = grind (arith, nat_tests) in
    let b : (first == 91) ≡ false = grind (arith, nat_tests) in
    rw (q, b) refl

pub value_text_at-word : (levels : ℕ) (bytes : List ℕ) (first : ℕ) (behind : List ℕ) → bytes ≡ first ∷ behind → first ≢ 34 → first ≢ 91 → value_text_at levels bytes ≡ word_at bytes
value_text_at-word levels bytes first behind whole quote bracket =
    value_text_at-row levels bytes ∙ ap (value_text_row (nested_items levels)) whole ∙ word_in_row (nested_items levels) first behind quote bracket ∙ sym (ap word_at whole)

pub ruleset by_row = (value_text_at-row, nested_items-list)
