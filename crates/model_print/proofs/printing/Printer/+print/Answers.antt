use Rattle.std.proofs.Common.{rules, ◌≡◌, ◌∷◌, ap, ◌∙◌, refl}
use Rattle.std.proofs.lemmas.Result.{on_ok_weaker}
use Rattle.model_tokens.specs.declared.token.Token.TheVariants as token
use Rattle.model_tokens.specs.declared.token.Symbol.TheVariants as symbol
use Rattle.model_tree.specs.declared.tree.Expr.{Expr, the_lemmas}
use Rattle.model_tree.specs.Tree.{binary, call, future, create}
use Rattle.model_tree.specs.TreeView.{expression_tree, expression_trees}
use Rattle.model_tree.specs.Grammar.{phrase_spelling, more_spelling}
use Rattle.model_print.specs.Canonical.{phrase_of, phrases_of}
use Rattle.model_print.specs.Printing.{with_tokens}
use Rattle.model_print.proofs.PrintedForms.{binary_printed, call_printed, future_printed, create_printed, part_printed}
use Rattle.model_print.proofs.printing.Printer.+print.Goals as goal

pub phrase-returns-in_ok-symbol-in-Binary : goal.phrase-returns-in_ok-symbol-in-Binary
phrase-returns-in_ok-symbol-in-Binary t c =
    let tree : expression_tree c.args.expr.now ≡ binary c.in-Binary.op (expression_tree c.deref-in-Binary.result.now) (expression_tree c.deref-in-Binary-2.result.now) = search (rules, the_lemmas) in
    on_ok_weaker c.at_level-in-Binary-2.result
    (λ last. binary_printed _ _ _ _ _ _ _ _ _ _ _ tree c.left_of.ensures c.op_symbol.ensures c.right_of.ensures c.in_ok-at_level-in-Binary.ensures c.in_ok-symbol-in-Binary.ensures last)
    c.at_level-in-Binary-2.ensures

pub phrase-returns-in_ok-symbol-in-Call : goal.phrase-returns-in_ok-symbol-in-Call
phrase-returns-in_ok-symbol-in-Call t c =
    let tree : expression_tree c.args.expr.now ≡ call (expression_tree c.deref-in-Call.result.now) c.in-Call.name (expression_trees c.deref-in-Call-2.result.now) = search (rules, the_lemmas) in
    on_ok_weaker c.call-in-Call.result
    (λ last. call_printed _ _ _ _ _ _ _ _ tree c.in_ok-at_level-in-Call.ensures c.in_ok-symbol-in-Call.ensures last)
    c.call-in-Call.ensures

pub phrase-returns-in_ok-delay-in-Future : goal.phrase-returns-in_ok-delay-in-Future
phrase-returns-in_ok-delay-in-Future t c =
    let tree : expression_tree c.args.expr.now ≡ future (expression_tree c.deref-in-Future.result.now) (expression_tree c.deref-in-Future-2.result.now) c.in-Future.name (expression_trees c.deref-in-Future-3.result.now) = search (rules, the_lemmas) in
    on_ok_weaker c.call-in-Future.result
    (λ last. future_printed _ _ _ _ _ _ _ _ _ tree c.in_ok-at_level-in-Future.ensures c.in_ok-delay-in-Future.ensures last)
    c.call-in-Future.ensures

pub phrase-returns-in_ok-phrase-in-Create : goal.phrase-returns-in_ok-phrase-in-Create
phrase-returns-in_ok-phrase-in-Create t c =
    let tree : expression_tree c.args.expr.now ≡ create c.in-Create.class (expression_tree c.deref-in-Create.result.now) = search (rules, the_lemmas) in
    on_ok_weaker c.symbol-in-Create.result
    (λ last. create_printed _ _ _ _ _ _ _ tree c.in_ok-create_opening-in-Create.ensures c.in_ok-phrase-in-Create.ensures last)
    c.symbol-in-Create.ensures

pub phrases-loop-expr-preserved : goal.phrases-loop-expr-preserved
phrases-loop-expr-preserved t c =
    part_printed (λ es. more_spelling (phrases_of (expression_trees es))) (λ (e : Expr). token.Symbol symbol.Comma ∷ phrase_spelling (phrase_of (expression_tree e))) (λ x xs. refl)
    c.in-Some.further.now c.loop-expr.expr-index c.expr-item.result _ _ _ c.loop-expr-test.true c.expr-item.is c.loop-expr.invariant
    (c.in_ok-phrase-2.ensures ∙ ap (λ p. with_tokens p (phrase_spelling (phrase_of (expression_tree c.expr-item.result)))) c.in_ok-symbol.ensures)
