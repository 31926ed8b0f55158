-- What an outcome puts and prints.
use Rattle.std.specs.Prelude.{ℕ, ◌+◌, List, [], ◌∷◌, ◌++◌, Option, Some, None}
use Rattle.std.specs.Fmt.{decimal}
use Rattle.run_steps.specs.Steps.{Step, Puts, Prints}
use Rattle.command_outcome.specs.declared.outcome.Put.{Put}

-- files are put in order, and then a text is printed
abbrev pub steps_of : List Put → List ℕ → List Step
steps_of [] text = Prints text ∷ []
steps_of (put ∷ puts) text = Puts put.name put.bytes ∷ steps_of puts text

-- these bytes, under the name that was given, if one was
abbrev pub optional_put : Option (List ℕ) → List ℕ → List Put
optional_put None bytes = []
optional_put (Some name) bytes = record { name = name; bytes = bytes } ∷ []

-- a name that ends in a number
abbrev pub numbered_name : List ℕ → ℕ → List ℕ
numbered_name prefix number = prefix ++ decimal number

-- bytes under such a name
abbrev pub numbered_put : List ℕ → ℕ → List ℕ → Put
numbered_put prefix number bytes = record { name = numbered_name prefix number; bytes = bytes }

-- each of these bytes, under a name that ends in its number, from this one on
abbrev pub numbered_puts : List ℕ → ℕ → List (List ℕ) → List Put
numbered_puts prefix number [] = []
numbered_puts prefix number (bytes ∷ rest) = numbered_put prefix number bytes ∷ numbered_puts prefix (number + 1) rest
