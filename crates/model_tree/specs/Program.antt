-- What it is that a text is read as a program, and what it is that it is refused.
use Rattle.std.specs.Prelude.{◌≡◌, ◌⊎◌, ℕ, ◌+◌, ◌≤◌, ◌<◌, List, length, Some, None}
use Rattle.model_tokens.specs.declared.token.Token.{Token}
use Rattle.model_tokens.specs.Division.{Divides}
use Rattle.model_tree.specs.declared.bound.Bound.{Bound}
use Rattle.model_tree.specs.declared.bound.Bound.TheVariants as bound
use Rattle.model_tree.specs.Tree.{ProgramTree}
use Rattle.model_tree.specs.Grammar.{Derives}
use Rattle.model_tree.specs.Bounds.{most_program_bytes, most_nested, greatest, brackets_after, operators_after, first_excess}

abbrev pub FewBrackets : List Token → Type 0
FewBrackets ts = greatest brackets_after 0 ts ≤ most_nested

abbrev pub FewOperators : List Token → Type 0
FewOperators ts = greatest operators_after 0 ts ≤ most_nested

-- these tokens are a program within the bounds, which stands for this tree
pub record IsSpelled (tokens : List Token) (tree : ProgramTree) : Type 0 where
  pub brackets : FewBrackets tokens
  pub operators : FewOperators tokens
  pub derives : Derives tokens tree
  pub fits : first_excess tree ≡ None

-- this text is a program within the bounds, which stands for this tree
pub record IsRead (text : List ℕ) (tree : ProgramTree) : Type 0 where
  pub bytes : length text ≤ most_program_bytes
  pub tokens : List Token
  pub divides : Divides tokens text
  pub spelled : IsSpelled tokens tree

-- some text is read as this tree
abbrev pub IsProgram : ProgramTree → Type 0
IsProgram tree = (text : List ℕ) × IsRead text tree

-- ---- refusals

-- The bound that the tokens pass first, and the count. Brackets and operators are looked at first, and their count is the
-- first that is above the bound.
abbrev pub ArePast : Bound → ℕ → List Token → Type 0
ArePast what count ts =
    ((most_nested < greatest brackets_after 0 ts) × (what ≡ bound.Brackets) × (count ≡ most_nested + 1))
    ⊎ ((FewBrackets ts × (most_nested < greatest operators_after 0 ts) × (what ≡ bound.Operators)
    × (count ≡ most_nested + 1))
    ⊎ (FewBrackets ts × FewOperators ts
    × ((tree : ProgramTree) × Derives ts tree × (first_excess tree ≡ Some (what, count)))))

-- the bound that the text passes first, and the count
abbrev pub IsTooLarge : Bound → ℕ → List ℕ → Type 0
IsTooLarge what count text =
    ((most_program_bytes < length text) × (what ≡ bound.Bytes) × (count ≡ length text))
    ⊎ ((length text ≤ most_program_bytes) × ((ts : List Token) × Divides ts text × ArePast what count ts))

-- these tokens are within the bounds for brackets and operators, and no program
pub record AreNoProgram (tokens : List Token) : Type 0 where
  pub brackets : FewBrackets tokens
  pub operators : FewOperators tokens
  pub underived : (tree : ProgramTree) → ¬ Derives tokens tree

-- This text is not too long, and no program: it is divided into no tokens, or into tokens that are none.
abbrev pub IsNoProgram : List ℕ → Type 0
IsNoProgram text = (length text ≤ most_program_bytes) × ((ts : List Token) → Divides ts text → AreNoProgram ts)

-- ---- what comes of a text: a program within the bounds, none, or a bound that is passed

pub data Reading : Type 0 where
  a_program : ProgramTree → Reading
  no_program : Reading
  too_large : Bound → ℕ → Reading

abbrev pub IsReading : List ℕ → Reading → Type 0
IsReading text (a_program tree) = IsRead text tree
IsReading text no_program = IsNoProgram text
IsReading text (too_large what count) = IsTooLarge what count text
