use Rattle.std.proofs.Common.{rules, ◌≡◌, ◌∷◌, ap, sym, ◌∙◌, refl}
use Rattle.std.proofs.lemmas.Result.{on_ok_weaker}
use Rattle.model_tokens.specs.declared.token.Token.TheVariants as token
use Rattle.model_tokens.specs.declared.token.Word.TheVariants as word
use Rattle.model_tree.specs.declared.tree.Stmt.{Stmt, the_lemmas}
use Rattle.model_tree.specs.Tree.{when, while, no_else, else_block}
use Rattle.model_tree.specs.TreeView.{expression_tree, statement_tree, statement_trees}
use Rattle.model_tree.specs.Grammar.{in_round, in_braces, phrase_spelling, action_spelling, block_spelling}
use Rattle.model_print.specs.Canonical.{phrase_of, action_of, block_of}
use Rattle.model_print.specs.Printing.{with_tokens}
use Rattle.model_print.proofs.PrintedForms.{both_printed, choice_else_printed, part_printed}
use Rattle.model_print.proofs.printing.Printer.+statements.Goals as goal

pub statement-returns-in_ok-test_head-in-If-default-default-None : goal.statement-returns-in_ok-test_head-in-If-default-default-None
statement-returns-in_ok-test_head-in-If-default-default-None t c =
    let tree : statement_tree c.args.statement.now ≡ when (expression_tree c.in-If-default-default-None.test) (statement_trees c.deref.result.now) no_else = search (rules, the_lemmas) in
    on_ok_weaker c.block.result
    (λ last. both_printed _ _ _ (token.Word word.If ∷ in_round (phrase_spelling (phrase_of (expression_tree c.in-If-default-default-None.test)))) (in_braces (block_spelling (block_of (statement_trees c.deref.result.now)))) c.in_ok-test_head-in-If-default-default-None.ensures last
    ∙ ap (λ s. with_tokens c.args.self.now (action_spelling (action_of s))) (sym tree))
    c.block.ensures

pub statement-returns-in_ok-word-in-If-default-default-Some : goal.statement-returns-in_ok-word-in-If-default-default-Some
statement-returns-in_ok-word-in-If-default-default-Some t c =
    let tree : statement_tree c.args.statement.now ≡ when (expression_tree c.in-If-default-default-Some.test) (statement_trees c.deref-in-If-default-default-Some.result.now) (else_block (statement_trees c.deref-in-If-default-default-Some-2.result.now)) = search (rules, the_lemmas) in
    on_ok_weaker c.block-in-If-default-default-Some-2.result
    (λ last. choice_else_printed _ _ _ _ _ _ _ _ _ tree c.in_ok-test_head-in-If-default-default-Some.ensures c.in_ok-block-in-If-default-default-Some.ensures c.in_ok-word-in-If-default-default-Some.ensures last)
    c.block-in-If-default-default-Some-2.ensures

pub statement-returns-in_ok-test_head-in-While : goal.statement-returns-in_ok-test_head-in-While
statement-returns-in_ok-test_head-in-While t c =
    let tree : statement_tree c.args.statement.now ≡ while (expression_tree c.in-While.test) (statement_trees c.deref-in-While.result.now) = search (rules, the_lemmas) in
    on_ok_weaker c.block-in-While.result
    (λ last. both_printed _ _ _ (token.Word word.While ∷ in_round (phrase_spelling (phrase_of (expression_tree c.in-While.test)))) (in_braces (block_spelling (block_of (statement_trees c.deref-in-While.result.now)))) c.in_ok-test_head-in-While.ensures last
    ∙ ap (λ s. with_tokens c.args.self.now (action_spelling (action_of s))) (sym tree))
    c.block-in-While.ensures

pub statements-loop-statement-preserved : goal.statements-loop-statement-preserved
statements-loop-statement-preserved t c =
    part_printed (λ ss. block_spelling (block_of (statement_trees ss))) (λ (x : Stmt). action_spelling (action_of (statement_tree x))) (λ x xs. refl)
    c.args.statements.now c.loop-statement.statement-index c.statement-item.result _ _ _ c.loop-statement-test.true c.statement-item.is c.loop-statement.invariant c.in_ok-statement.ensures
