-- Lists of values with the same plain trees are of one length.
use Rattle.std.proofs.Common.{◌≡◌, List, [], ◌∷◌, length, refl, sym, ap, ◌∙◌, arith}
use Rattle.model_value.specs.Spelling.{item_count}
use Rattle.model_value.specs.View.{plains}
use Rattle.model_value.specs.declared.value.Value.{Value}

-- a list of values has as many plain trees
pub count-plains : (vs : List Value) → item_count (plains vs) ≡ length vs
count-plains [] = refl
count-plains (v ∷ vs) = omega (arith, count-plains vs)

pub length-plains : (xs ys : List Value) → plains xs ≡ plains ys → length xs ≡ length ys
length-plains xs ys e = sym (count-plains xs) ∙ ap item_count e ∙ count-plains ys

-- for the list of another length
pub ruleset by_length = (length-plains)
