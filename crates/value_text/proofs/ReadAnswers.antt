-- What a function answers that reads a whole text.
use Rattle.std.proofs.Common.{◌≡◌, ◌≢◌, ℕ, List, Result, Ok, Err, refl, sym, ap, ◌∙◌}
use Rattle.std.specs.Prelude.{IfOk, IfErr}
use Rattle.std.proofs.lemmas.Option.{none-some, same_Some}
use Rattle.byte_fields.specs.Fields.{Decodes}
use Rattle.model_value.specs.declared.fault.ValueFault.{ValueFault}
use Rattle.model_value.specs.declared.fault.ValueFault.TheVariants.{BadValue, WantOfMemory}
use Rattle.model_value.specs.declared.value.Value.{Value}
use Rattle.model_value.specs.Plain.{PlainValue, InBounds}
use Rattle.model_value.specs.Spelling.{IsValue}
use Rattle.model_value.specs.View.{plain}
use Rattle.value_text.specs.Answer.{ReadsValue}
use Rattle.value_text.specs.Reading.{value_of_text}
use Rattle.value_text.specs.ValueText.{value_text}
use Rattle.value_text.proofs.TextLaws.{text_again, text_only}

-- what a function returned that reads the value of these bytes
abbrev pub Answers : Result Value ValueFault → List ℕ → Type 0
Answers result bytes = Decodes BadValue plain result (value_of_text bytes)

pub answers_read : (result : Result Value ValueFault) (bytes : List ℕ) → Answers result bytes → IfOk result (λ value. IsValue (plain value) × InBounds (plain value) × (bytes ≡ value_text (plain value)))
answers_read (Ok value) bytes given = text_only bytes (plain value) given
answers_read (Err fault) bytes given = tt

pub answers_bad : (result : Result Value ValueFault) (bytes : List ℕ) → Answers result bytes → result ≡ Err BadValue → (value : PlainValue) → IsValue value → InBounds value → bytes ≢ value_text value
answers_bad (Ok found) bytes given bad value is bounds = absurd cc
answers_bad (Err fault) bytes given bad value is bounds = λ e. none-some value (sym (given cc) ∙ ap value_of_text e ∙ text_again value is bounds)

pub answers_only : (result : Result Value ValueFault) (bytes : List ℕ) → Answers result bytes → (value : PlainValue) → IsValue value → InBounds value → bytes ≡ value_text value → IfOk result (λ read. plain read ≡ value)
answers_only (Ok found) bytes given value is bounds e = same_Some (plain found) value (sym given ∙ ap value_of_text e ∙ text_again value is bounds)
answers_only (Err fault) bytes given value is bounds e = tt

pub answers_reads : (result : Result Value ValueFault) (bytes : List ℕ) → Answers result bytes → ReadsValue result (value_of_text bytes)
answers_reads (Ok value) bytes given = given
answers_reads (Err BadValue) bytes given = given refl
answers_reads (Err WantOfMemory) bytes given = tt

-- where no text is refused, there was no memory
pub only_want : {X : Type 0} (result : Result X ValueFault) → (result ≡ Err BadValue → ⊥) → IfErr result (λ fault. fault ≡ WantOfMemory)
only_want (Ok x) is_read = tt
only_want (Err BadValue) is_read = absurd (is_read refl)
only_want (Err WantOfMemory) is_read = refl
