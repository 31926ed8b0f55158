-- The characters of words.
use Rattle.std.proofs.Common.{◌≡◌, ℕ, Bool, true, false, List, refl, sym, ap, ◌∙◌}
use Rattle.std.specs.Prelude.{codes}
use Rattle.std.specs.Str.{chars}
use Rattle.model_value.specs.Plain.{text}
use Rattle.model_value.specs.View.{plain}
use Rattle.model_value.specs.declared.value.Value.{Value}
use Rattle.model_value.specs.declared.value.Value.TheVariants.{Nil, Bool as Flag, Text}
use Rattle.model_value.proofs.Plains.{plain-Nil, plain-Bool, plain-Text}
use Rattle.model_builtin.specs.Builtins.{value, text_of_value}

chars-nil_word : chars (codes "nil") ≡ codes "nil"
unfolding chars
chars-nil_word = refl

chars-true_word : chars (codes "true") ≡ codes "true"
unfolding chars
chars-true_word = refl

chars-false_word : chars (codes "false") ≡ codes "false"
unfolding chars
chars-false_word = refl

pub nil_given : (x : Value) (word : List ℕ) → x ≡ Nil → word ≡ chars (codes "nil") → text_of_value (plain x) ≡ value (plain (Text word))
nil_given x word e f = ap (λ (v : Value). text_of_value (plain v)) e ∙ ap text_of_value plain-Nil ∙ ap (λ (s : List ℕ). value (text s)) (sym (f ∙ chars-nil_word)) ∙ ap value (sym (plain-Text word))

pub true_given : (x : Value) (flag : Bool) (word : List ℕ) → x ≡ Flag flag → flag ≡ true → word ≡ chars (codes "true") → text_of_value (plain x) ≡ value (plain (Text word))
true_given x flag word e b f =
    ap (λ (v : Value). text_of_value (plain v)) (e ∙ ap Flag b) ∙ ap text_of_value (plain-Bool true) ∙ ap (λ (s : List ℕ). value (text s)) (sym (f ∙ chars-true_word)) ∙ ap value (sym (plain-Text word))

pub false_given : (x : Value) (flag : Bool) (word : List ℕ) → x ≡ Flag flag → flag ≡ false → word ≡ chars (codes "false") → text_of_value (plain x) ≡ value (plain (Text word))
false_given x flag word e b f =
    ap (λ (v : Value). text_of_value (plain v)) (e ∙ ap Flag b) ∙ ap text_of_value (plain-Bool false) ∙ ap (λ (s : List ℕ). value (text s)) (sym (f ∙ chars-false_word)) ∙ ap value (sym (plain-Text word))
