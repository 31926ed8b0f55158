use Rattle.std.proofs.Common.{◌≡◌, ◌+◌, ◌-◌, ◌*◌, [], length, map}
use Rattle.model_tree.specs.TreeView.{statement_tree}
use Rattle.model_lang.specs.Reader.{read_block, read_actions}
use Rattle.model_lang.proofs.statement.+block.Given as goal

abbrev pub decreases-block : goal.decreases-block
decreases-block l = 5 * l.room

abbrev pub decreases-otherwise : goal.decreases-otherwise
decreases-otherwise l = 5 * l.room + 1

abbrev pub decreases-while_statement : goal.decreases-while_statement
decreases-while_statement l = 5 * l.room + 1

abbrev pub decreases-choice : goal.decreases-choice
decreases-choice l = 5 * l.room + 2

abbrev pub decreases-statement : goal.decreases-statement
decreases-statement l = 5 * l.room + 3

abbrev pub decreases-statements : goal.decreases-statements
decreases-statements l = 5 * l.room + 4

abbrev pub invariant-statements-loop-turn : goal.invariant-statements-loop-turn
invariant-statements-loop-turn l =
    let block = read_block l.room in
    read_actions block (length l.tokens - l._turn) (map statement_tree l.found.items) l.rest ≡ read_actions block (length l.tokens) [] l.tokens
