use Rattle.std.proofs.Common.{rules, ◌≡◌, ◌++◌, List, None, sym, ◌∙◌, map, subst}
use Rattle.std.specs.Prelude.{Err}
use Rattle.model_tree.specs.Tree.{Name, Statement, when, else_block}
use Rattle.model_tree.specs.TreeView.{expression_tree, statement_tree, statement_trees}
use Rattle.model_tree.specs.declared.tree.Stmt.{the_lemmas}
use Rattle.model_tree.specs.declared.tree.Class.{Class}
use Rattle.model_check.specs.Answer.{Solves, IsFirstFault}
use Rattle.model_solved.specs.Faults.{first_of, faults_of_expression, faults_of_statement, faults_of_statements}
use Rattle.model_solved.specs.SolvedView.{solved_statement}
use Rattle.model_check.specs.Solving.{solve_statement}
use Rattle.model_check.proofs.Blocks.{list_goes, list_ends, list_refused}
use Rattle.model_check.proofs.First.{first_behind, refused_is, refused_behind}
use Rattle.model_check.proofs.statement.+statement.Goals as goal

pub block-loop-stmt-preserved : goal.block-loop-stmt-preserved
block-loop-stmt-preserved t c =
    let classes = map (λ (k : Class). k.name) c.args.classes.now in
    let fields = c.args.fields.now in
    let scope = c.args.scope.now.names.items in
    let now = c.loop-stmt.scope in
    list_goes classes fields scope c.args.stmts.now c.args.scope.now.slots now.names.items c.statement.new.scope.names.items now.slots c.statement.new.scope.slots c.loop-stmt.solved.items c.push.new.items.items c.loop-stmt.stmt-index c.stmt-item.result c.in_ok-statement.field-0 c.loop-stmt-test.true c.stmt-item.is c.loop-stmt.invariant c.in_ok-statement.ensures.solved c.in_ok-statement.ensures.scope c.in_ok-statement.ensures.slots c.in_ok-push.ensures.ok

pub block-returns-in_err-statement-clause-solved : goal.block-returns-in_err-statement-clause-solved
block-returns-in_err-statement-clause-solved t c =
    let classes = map (λ (k : Class). k.name) c.args.classes.now in
    let fields = c.args.fields.now in
    let scope = c.args.scope.now.names.items in
    let now = c.loop-stmt.scope in
    let fault = c.in_err-statement.field-0.0 in
    let refused : c.from_residual.result ≡ Err fault = search rules in
    refused_is c.from_residual.result fault _ _ refused (list_refused classes fields scope c.args.stmts.now c.args.scope.now.slots now.names.items now.slots c.loop-stmt.solved.items c.loop-stmt.stmt-index c.stmt-item.result fault c.loop-stmt-test.true c.stmt-item.is c.loop-stmt.invariant c.in_err-statement.ensures.solved)

pub block-returns-clause-solved : goal.block-returns-clause-solved
block-returns-clause-solved t c =
    let classes = map (λ (k : Class). k.name) c.args.classes.now in
    let fields = c.args.fields.now in
    let scope = c.args.scope.now.names.items in
    let now = c.loop-stmt.scope in
    let whole = list_ends classes fields scope c.args.stmts.now c.args.scope.now.slots now.names.items now.slots c.loop-stmt.solved.items c.loop-stmt.stmt-index c.loop-stmt-test.false c.loop-stmt.invariant now.within in
    (whole.0, whole.1)

pub statement-returns-in_err-block-in-Some-clause-solved : goal.statement-returns-in_err-block-in-Some-clause-solved
statement-returns-in_err-block-in-Some-clause-solved t c =
    let classes = map (λ (k : Class). k.name) c.args.classes.now in
    let fields = c.args.fields.now in
    let scope = c.args.scope.now.names.items in
    let test = expression_tree c.in-If.test in
    let yes = statement_trees c.deref-in-If.result.now in
    let no = statement_trees c.deref-in-Some.result.now in
    let whole : statement_tree c.args.stmt.now ≡ when test yes (else_block no) = search (rules, the_lemmas) in
    let result = c.from_residual-in_err-block-in-Some.result in
    let fault = c.in_err-block-in-Some.field-0.0 in
    let refused : result ≡ Err fault = search rules in
    let before = faults_of_expression classes fields scope test ++ faults_of_statements classes fields scope yes in
    let front : first_of before ≡ None =
    first_behind (faults_of_expression classes fields scope test) (faults_of_statements classes fields scope yes) c.in_ok-test-in-If.ensures.0 ∙ c.in_ok-yes-in-If.ensures.solved.0 in
    let here = subst (λ (ns : List Name). IsFirstFault fault (faults_of_statements classes fields ns no)) c.in_ok-yes-in-If.ensures.scope c.in_err-block-in-Some.ensures.solved in
    subst (λ (s : Statement). Solves result (faults_of_statement classes fields scope s) (λ t. solved_statement t ≡ solve_statement classes fields scope s)) (sym whole) (refused_behind result fault before (faults_of_statements classes fields scope no) (λ t. solved_statement t ≡ solve_statement classes fields scope (when test yes (else_block no))) refused front here)
