-- The lines of the grammar whose operators have two sides, by their numbers.
use Rattle.std.specs.Prelude.{ℕ, Option, Some, None}
use Rattle.model_lang.specs.declared.operators.Line.{Line}
use Rattle.model_lang.specs.declared.operators.Line.TheVariants as line

abbrev pub line_number : Line → ℕ
line_number line.Term = 2
line_number line.Sum = 3
line_number line.Relation = 4
line_number line.And = 5
line_number line.Or = 6

abbrev pub tighter_of : Line → Option Line
tighter_of line.Term = None
tighter_of line.Sum = Some line.Term
tighter_of line.Relation = Some line.Sum
tighter_of line.And = Some line.Relation
tighter_of line.Or = Some line.And
