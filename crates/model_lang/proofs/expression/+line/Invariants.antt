-- With less room, or on a tighter line, or further into the forms of one line.
use Rattle.std.proofs.Common.{◌≡◌, ◌+◌, ◌-◌, ◌*◌, length, map}
use Rattle.model_tree.specs.TreeView.{expression_tree}
use Rattle.model_lang.specs.Lines.{line_number}
use Rattle.model_lang.specs.Reader.{read_operator_line, read_unary, read_post, suffixes_of, read_more, more_of, turns_of}
use Rattle.model_lang.proofs.expression.+line.Given as goal

abbrev pub decreases-unary : goal.decreases-unary
decreases-unary l = 32 * l.room + 3

abbrev pub decreases-inner : goal.decreases-inner
decreases-inner l = 32 * l.room + 2 * line_number l.line

abbrev pub decreases-line : goal.decreases-line
decreases-line l = 32 * l.room + 2 * line_number l.line + 1

abbrev pub decreases-further : goal.decreases-further
decreases-further l = 32 * l.room + 14

abbrev pub decreases-arguments : goal.decreases-arguments
decreases-arguments l = 32 * l.room + 15

abbrev pub decreases-call : goal.decreases-call
decreases-call l = 32 * l.room + 16

abbrev pub decreases-builtin_or_local : goal.decreases-builtin_or_local
decreases-builtin_or_local l = 32 * l.room + 16

abbrev pub decreases-create : goal.decreases-create
decreases-create l = 32 * l.room + 16

abbrev pub decreases-bracket_prim : goal.decreases-bracket_prim
decreases-bracket_prim l = 32 * l.room + 16

abbrev pub decreases-future : goal.decreases-future
decreases-future l = 32 * l.room + 17

abbrev pub decreases-word_prim : goal.decreases-word_prim
decreases-word_prim l = 32 * l.room + 17

abbrev pub decreases-suffix : goal.decreases-suffix
decreases-suffix l = 32 * l.room + 18

abbrev pub decreases-prim : goal.decreases-prim
decreases-prim l = 32 * l.room + 18

abbrev pub decreases-post : goal.decreases-post
decreases-post l = 32 * l.room + 19

abbrev pub invariant-line-loop-turn : goal.invariant-line-loop-turn
invariant-line-loop-turn l =
    let number = line_number l.line in
    let inner = read_operator_line (read_unary l.room) (number - 1) in
    more_of number inner (turns_of number (length l.tokens) - l._turn) (expression_tree l.left) l.rest ≡ read_operator_line (read_unary l.room) number l.tokens

abbrev pub invariant-post-loop-turn : goal.invariant-post-loop-turn
invariant-post-loop-turn l =
    let inner = read_operator_line (read_unary l.room) 6 in
    suffixes_of inner (length l.tokens - l._turn) (expression_tree l.object) l.rest ≡ read_post inner l.tokens

abbrev pub invariant-further-loop-turn : goal.invariant-further-loop-turn
invariant-further-loop-turn l =
    let inner = read_operator_line (read_unary l.room) 6 in
    read_more l.close inner (l.turns - l._turn) (map expression_tree l.found.items) l.rest ≡ read_more l.close inner l.turns (map expression_tree l.fn.found.items) l.tokens
