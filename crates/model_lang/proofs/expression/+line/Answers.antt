use Rattle.std.proofs.Common.{◌≡◌, ◌-◌, length, refl, sym, ◌∙◌, subst, Some, arith}
use Rattle.model_lang.specs.Answer.{ParsesPart}
use Rattle.model_tree.specs.TreeView.{expression_tree}
use Rattle.model_lang.specs.Reader.{read_operator_line, read_unary, read_prim}
use Rattle.model_lang.proofs.Turns.{line_begins, tightest_sides}
use Rattle.model_lang.proofs.expression.+line.Goals as goal

pub inner-returns-in-None : goal.inner-returns-in-None
inner-returns-in-None t c =
    subst (λ m. ParsesPart expression_tree c.unary.result m) (sym (tightest_sides (read_unary c.args.room) c.args.line c.args.tokens.now (sym c.tighter.ensures ∙ c.in-None.is))) c.unary.ensures

pub line-loop-turn-init : goal.line-loop-turn-init
line-loop-turn-init t c = line_begins (read_unary c.args.room) c.args.line c.args.tokens.now (expression_tree c.in_ok-left.left) c.in_ok-left.rest.now c.in_ok-left.ensures

pub post-loop-turn-init : goal.post-loop-turn-init
post-loop-turn-init t c =
    let first : read_prim (read_operator_line (read_unary c.args.room) 6) c.args.tokens.now ≡ Some (expression_tree c.in_ok-object.object, c.in_ok-object.rest.now) = c.in_ok-object.ensures in
    let whole : length c.args.tokens.now - 0 ≡ length c.args.tokens.now = omega arith in
    rw (whole, first) refl
