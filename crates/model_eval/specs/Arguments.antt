-- What a method starts with that may take a second value.
use Rattle.std.specs.Prelude.{Bool, false, nat_eq, if◌then◌else◌, List, [], ◌∷◌, length, Option, Some, None}
use Rattle.model_value.specs.Plain.{PlainValue}
use Rattle.model_tree.specs.Tree.{MethodTree}

abbrev pub takes_two : Option MethodTree → Bool
takes_two None = false
takes_two (Some m) = nat_eq (length m.params) 2

-- a method with two parameters starts with both values, and any other one with the first alone
abbrev pub one_or_both : Bool → PlainValue → PlainValue → List PlainValue
one_or_both both first second = if both then first ∷ second ∷ [] else first ∷ []
