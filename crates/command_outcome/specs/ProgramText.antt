-- The lines that tell of a program: its size, or its first fault.
use Rattle.std.specs.Prelude.{ℕ, List, [], ◌∷◌, ◌++◌, length, encode_utf8_all, codes}
use Rattle.std.specs.List.{sum_by}
use Rattle.text_lines.specs.Lines.{spell_numbers}
use Rattle.model_solved.specs.declared.fault.CheckFault.{CheckFault}
use Rattle.model_solved.specs.declared.fault.CheckFault.TheVariants.{Twice, NoName, NoClass, NoField, Count, NoRoot, WantOfMemory}
use Rattle.model_tree.specs.Tree.{ProgramTree}
use Rattle.model_tree.specs.declared.bound.Bound.{Bound}
use Rattle.model_tree.specs.declared.bound.Bound.TheVariants as bound

-- how many methods all classes have together
abbrev pub method_count : ProgramTree → ℕ
method_count tree = sum_by (λ c. length c.methods) tree

-- the line of a program without faults: the numbers of its classes and of its methods
abbrev pub counts_line : ProgramTree → List ℕ
counts_line tree = spell_numbers (codes "classes") (length tree ∷ [])
    ++ spell_numbers (codes " methods") (method_count tree ∷ []) ++ codes "\n"

-- the text is no program from this place on
abbrev pub syntax_line : ℕ → List ℕ
syntax_line at = spell_numbers (codes "syntax") (at ∷ []) ++ codes "\n"

abbrev pub bound_word : Bound → List ℕ
bound_word bound.Bytes = codes "too-large bytes"
bound_word bound.Brackets = codes "too-large brackets"
bound_word bound.Operators = codes "too-large operators"
bound_word bound.Classes = codes "too-large classes"
bound_word bound.Fields = codes "too-large fields"
bound_word bound.Methods = codes "too-large methods"
bound_word bound.Parameters = codes "too-large parameters"

-- the text passes this bound, with this count
abbrev pub too_large_line : Bound → ℕ → List ℕ
too_large_line what count = spell_numbers (bound_word what) (count ∷ []) ++ codes "\n"

-- a word and a name
abbrev pub named_line : List ℕ → List ℕ → List ℕ
named_line word name = word ++ encode_utf8_all name ++ codes "\n"

-- the line of a fault that a check finds: what it is, and the name at which it stands
abbrev pub check_line : CheckFault → List ℕ
check_line (Twice name) = named_line (codes "twice ") name
check_line (NoName name) = named_line (codes "no-name ") name
check_line (NoClass name) = named_line (codes "no-class ") name
check_line (NoField name) = named_line (codes "no-field ") name
check_line (Count name) = named_line (codes "count ") name
check_line NoRoot = codes "no-root\n"
check_line WantOfMemory = []
