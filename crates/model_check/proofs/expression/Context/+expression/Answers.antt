use Rattle.std.proofs.Common.{rules, ◌≡◌, ℕ, ◌++◌, None, take, sym, ap, ◌∙◌, map, subst}
use Rattle.std.specs.Prelude.{Err}
use Rattle.std.proofs.lemmas.List.{take_all, at_drop_all}
use Rattle.model_tree.specs.Tree.{Expression, binary, builtin, future}
use Rattle.model_tree.specs.Bounds.{how_many}
use Rattle.model_tree.specs.TreeView.{expression_tree, expression_trees}
use Rattle.model_tree.specs.declared.tree.Expr.{the_lemmas}
use Rattle.model_tree.specs.declared.tree.Class.{Class}
use Rattle.model_solved.specs.declared.solved.SolvedExpr.{the_lemmas as solved_lemmas}
use Rattle.model_check.specs.Answer.{Solves, IsFirstFault}
use Rattle.model_solved.specs.Faults.{first_of, faults_of_builtin, faults_of_expression, faults_of_expressions}
use Rattle.model_solved.specs.SolvedTree.{solved_expressions_of}
use Rattle.model_solved.specs.SolvedView.{solved_expression}
use Rattle.model_check.specs.Solving.{solve_expression}
use Rattle.model_check.proofs.First.{first_of-append, first_of-three, first_behind, refused_before, refused_behind}
use Rattle.model_check.proofs.Trees.{solved_expressions_of-map, how_many-map}
use Rattle.model_check.proofs.expression.Context.+expression.Goals as goal

pub expressions-returns : goal.expressions-returns
expressions-returns t c =
    let classes = map (λ (k : Class). k.name) c.args.self.now.classes.now in
    let fields = c.args.self.now.fields.now in
    let scope = c.args.self.now.scope.now.names.items in
    let es = c.args.exprs.now in
    let i = c.loop-expr.expr-index in
    let all : take i es ≡ es = take_all i es c.loop-expr-test.false in (
      sym c.loop-expr.invariant.faults ∙ at_drop_all (λ rest. first_of (faults_of_expressions classes fields scope (expression_trees rest))) es i c.loop-expr-test.false,
      ap solved_expressions_of (rw all at c.loop-expr.invariant.solved) ∙ solved_expressions_of-map classes fields scope es,
    )

pub builtin-returns-in_err-name : goal.builtin-returns-in_err-name
builtin-returns-in_err-name t c =
    let classes = map (λ (k : Class). k.name) c.args.self.now.classes.now in
    let fields = c.args.self.now.fields.now in
    let scope = c.args.self.now.scope.now.names.items in
    let name = c.args.name.now in
    let args = expression_trees c.args.args.now in
    let count = how_many-map c.args.args.now in
    let result = c.from_residual.result in
    let fault = c.in_err-name.field-0.0 in
    let refused : result ≡ Err fault = search rules in
    let here = subst (λ (n : ℕ). IsFirstFault fault (faults_of_builtin name n)) (sym count) c.in_err-name.ensures in
    refused_before result fault (faults_of_builtin name (how_many args)) (faults_of_expressions classes fields scope args) (λ s. solved_expression s ≡ solve_expression classes fields scope (builtin name args)) refused here

pub builtin-returns-in_err-args : goal.builtin-returns-in_err-args
builtin-returns-in_err-args t c =
    let classes = map (λ (k : Class). k.name) c.args.self.now.classes.now in
    let fields = c.args.self.now.fields.now in
    let scope = c.args.self.now.scope.now.names.items in
    let name = c.args.name.now in
    let args = expression_trees c.args.args.now in
    let count = how_many-map c.args.args.now in
    let result = c.from_residual-in_err-args.result in
    let fault = c.in_err-args.field-0.0 in
    let refused : result ≡ Err fault = search rules in
    let front = subst (λ (n : ℕ). first_of (faults_of_builtin name n) ≡ None) (sym count) c.in_ok-name.ensures.0 in
    refused_behind result fault (faults_of_builtin name (how_many args)) (faults_of_expressions classes fields scope args) (λ s. solved_expression s ≡ solve_expression classes fields scope (builtin name args)) refused front c.in_err-args.ensures

pub builtin-returns : goal.builtin-returns
builtin-returns t c =
    let classes = map (λ (k : Class). k.name) c.args.self.now.classes.now in
    let fields = c.args.self.now.fields.now in
    let scope = c.args.self.now.scope.now.names.items in
    let name = c.args.name.now in
    let args = expression_trees c.args.args.now in
    let count = how_many-map c.args.args.now in
    let front = subst (λ (n : ℕ). first_of (faults_of_builtin name n) ≡ None) (sym count) c.in_ok-name.ensures.0 in (
      first_behind (faults_of_builtin name (how_many args)) (faults_of_expressions classes fields scope args) front ∙ c.in_ok-args.ensures.0,
      rw (← c.in_ok-args.ensures.1, ← c.in_ok-name.ensures.1) (search (rules, solved_lemmas)),
    )

pub expression-returns-in_ok-new_binary-in-Binary : goal.expression-returns-in_ok-new_binary-in-Binary
expression-returns-in_ok-new_binary-in-Binary t c =
    let classes = map (λ (k : Class). k.name) c.args.self.now.classes.now in
    let fields = c.args.self.now.fields.now in
    let scope = c.args.self.now.scope.now.names.items in
    let left = expression_tree c.deref-in-Binary.result.now in
    let right = expression_tree c.deref-in-Binary-2.result.now in
    let whole : expression_tree c.args.expr.now ≡ binary c.in-Binary.op left right = search (rules, the_lemmas) in
    let two = first_of-append (faults_of_expression classes fields scope left) (faults_of_expression classes fields scope right) in (
      rw (whole, two, c.in_ok-left-in-Binary.ensures.0) c.in_ok-right-in-Binary.ensures.0,
      rw whole (rw (c.in_ok-left-in-Binary.ensures.1, c.in_ok-right-in-Binary.ensures.1) at c.in_ok-new_binary-in-Binary.ensures),
    )

pub expression-returns-in_err-args-in-Future : goal.expression-returns-in_err-args-in-Future
expression-returns-in_err-args-in-Future t c =
    let classes = map (λ (k : Class). k.name) c.args.self.now.classes.now in
    let fields = c.args.self.now.fields.now in
    let scope = c.args.self.now.scope.now.names.items in
    let object = expression_tree c.deref-in-Future.result.now in
    let delay = expression_tree c.deref-in-Future-2.result.now in
    let args = expression_trees c.deref-in-Future-3.result.now in
    let whole : expression_tree c.args.expr.now ≡ future object delay c.in-Future.name args = search (rules, the_lemmas) in
    let result = c.from_residual-in_err-args-in-Future.result in
    let refused : result ≡ Err c.in_err-args-in-Future.field-0.0 = search rules in
    let before = faults_of_expression classes fields scope object ++ faults_of_expression classes fields scope delay in
    let front : first_of before ≡ None =
    first_behind (faults_of_expression classes fields scope object) (faults_of_expression classes fields scope delay) c.in_ok-object-in-Future.ensures.0 ∙ c.in_ok-delay-in-Future.ensures.0 in
    subst (λ (e : Expression). Solves result (faults_of_expression classes fields scope e) (λ s. solved_expression s ≡ solve_expression classes fields scope e)) (sym whole) (refused_behind result c.in_err-args-in-Future.field-0.0 before (faults_of_expressions classes fields scope args) (λ s. solved_expression s ≡ solve_expression classes fields scope (future object delay c.in-Future.name args)) refused front c.in_err-args-in-Future.ensures)

pub expression-returns-in_ok-new_future-in-Future : goal.expression-returns-in_ok-new_future-in-Future
expression-returns-in_ok-new_future-in-Future t c =
    let classes = map (λ (k : Class). k.name) c.args.self.now.classes.now in
    let fields = c.args.self.now.fields.now in
    let scope = c.args.self.now.scope.now.names.items in
    let object = expression_tree c.deref-in-Future.result.now in
    let delay = expression_tree c.deref-in-Future-2.result.now in
    let args = expression_trees c.deref-in-Future-3.result.now in
    let whole : expression_tree c.args.expr.now ≡ future object delay c.in-Future.name args = search (rules, the_lemmas) in
    let three = first_of-three (faults_of_expression classes fields scope object) (faults_of_expression classes fields scope delay) (faults_of_expressions classes fields scope args) in (
      rw (whole, three, c.in_ok-object-in-Future.ensures.0, c.in_ok-delay-in-Future.ensures.0) c.in_ok-args-in-Future.ensures.0,
      rw whole (rw (c.in_ok-object-in-Future.ensures.1, c.in_ok-delay-in-Future.ensures.1, c.in_ok-args-in-Future.ensures.1) at c.in_ok-new_future-in-Future.ensures),
    )
