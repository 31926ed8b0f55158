-- Spellings that are fed to a hasher piece by piece.
use Rattle.std.proofs.Common.{◌≡◌, List, [], ◌∷◌, ◌++◌, sym, ap, ◌∙◌, append_assoc}
use Rattle.std.proofs.lemmas.List.{append-nil}
use Rattle.model_value.specs.Spelling.{value_spelling, items_spelling}
use Rattle.model_value.specs.View.{plain, plains}
use Rattle.model_value.specs.declared.value.Value.{Value}
pub use Rattle.model_value.proofs.Spellings.{by_weight}

-- a further item is spelled after the others
pub items_spelling-push : (vs : List Value) (v : Value) → items_spelling (plains (vs ++ v ∷ [])) ≡ items_spelling (plains vs) ++ value_spelling (plain v)
items_spelling-push [] v = append-nil (value_spelling (plain v))
items_spelling-push (w ∷ vs) v =
    ap (λ more. value_spelling (plain w) ++ more) (items_spelling-push vs v) ∙ sym (append_assoc (value_spelling (plain w)) (items_spelling (plains vs)) (value_spelling (plain v)))
