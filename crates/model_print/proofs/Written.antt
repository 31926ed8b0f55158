-- The canonical form stands in the grammar, and its tree is the tree.
use Rattle.std.proofs.Common.{◌≡◌, ℕ, ◌-◌, ◌<◌, ◌≤◌, Bool, true, false, cond, List, [], ◌∷◌, map, refl, ap, ◌∙◌, arith}
use Rattle.std.specs.Prelude.{nat_le}
use Rattle.std.proofs.lemmas.Bool.Decides.{nat_tests}
use Rattle.model_tree.specs.declared.tree.BinaryOp.{BinaryOp}
use Rattle.model_tree.specs.declared.tree.BinaryOp.TheVariants as op
use Rattle.model_tree.specs.Tree.{Expression, nil, bool, int, text, this, local, field, list, unary, binary, builtin, call, future, create, Expressions, no_expressions, expression, Statement, declare, assign, set_field, when, while, give, do_, Statements, no_statements, statement, no_else, else_block, MethodTree, ProgramTree}
use Rattle.model_tree.specs.Grammar.{Phrase, brackets, a_binary, operator_line, line, left_of, IsWellFormed, AreWellFormed, tree_of, trees_of, IsWellFormedAction, IsWellFormedBlock, AreWellFormedMethods, AreWellFormedClasses, tree_of_action, trees_of_block, tree_of_method, tree_of_class}
use Rattle.model_print.specs.Canonical.{at_line, phrase_of, phrases_of, action_of, block_of, method_form, class_form}

-- ---- a phrase where one of a line may stand

pub either : (P : Phrase → Type 0) (b : Bool) (p q : Phrase) → P p → P q → P (cond b p q)
either P true p q h k = h
either P false p q h k = k

line_if : (wanted : ℕ) (p : Phrase) (b : Bool) → nat_le (line p) wanted ≡ b → line (cond b p (brackets p)) ≤ wanted
line_if wanted p true h = grind (arith, nat_tests)
line_if wanted p false h = omega arith

line_at : (wanted : ℕ) (p : Phrase) → line (at_line wanted p) ≤ wanted
line_at wanted p = line_if wanted p (nat_le (line p) wanted) refl

stands_at : (wanted : ℕ) (p : Phrase) → IsWellFormed p → IsWellFormed (at_line wanted p)
stands_at wanted p h = either IsWellFormed (nat_le (line p) wanted) p (brackets p) h h

tree_at : (wanted : ℕ) (p : Phrase) → tree_of (at_line wanted p) ≡ tree_of p
tree_at wanted p = either (λ q. tree_of q ≡ tree_of p) (nat_le (line p) wanted) p (brackets p) refl refl

-- one of that line or of a tighter one gets no brackets
pub stays : (wanted : ℕ) (p : Phrase) → line p ≤ wanted → at_line wanted p ≡ p
stays wanted p h =
    let test : nat_le (line p) wanted ≡ true = grind (arith, nat_tests) in
    ap (λ b. cond b p (brackets p)) test

line_of_within : (o : BinaryOp) → (0 < operator_line o) × (operator_line o ≤ 6)
line_of_within op.Or = (omega arith, omega arith)
line_of_within op.And = (omega arith, omega arith)
line_of_within op.Same = (omega arith, omega arith)
line_of_within op.Differs = (omega arith, omega arith)
line_of_within op.Less = (omega arith, omega arith)
line_of_within op.AtMost = (omega arith, omega arith)
line_of_within op.Greater = (omega arith, omega arith)
line_of_within op.AtLeast = (omega arith, omega arith)
line_of_within op.Plus = (omega arith, omega arith)
line_of_within op.Minus = (omega arith, omega arith)
line_of_within op.Times = (omega arith, omega arith)
line_of_within op.Divide = (omega arith, omega arith)
line_of_within op.Rest = (omega arith, omega arith)

-- line 6 is the loosest
pub loosest : (p : Phrase) → line p ≤ 6
loosest (a_binary o a b) = (line_of_within o).1
loosest p = omega arith

pub right_of : (o : BinaryOp) (n : ℕ) → n < operator_line o → n ≤ operator_line o - 1
right_of o n h = omega arith

tighter : (o : BinaryOp) (p : Phrase) → line (at_line (operator_line o - 1) p) < operator_line o
tighter o p = omega (arith, line_at (operator_line o - 1) p, (line_of_within o).0)

-- ---- expressions

mutual
  pub written-stands : (e : Expression) → IsWellFormed (phrase_of e)
  written-stands nil = tt
  written-stands (bool b) = tt
  written-stands (int n) = tt
  written-stands (text t) = tt
  written-stands this = tt
  written-stands (local x) = tt
  written-stands (field x) = tt
  written-stands (list items) = all_written-stand items
  written-stands (unary o a) = (stands_at 1 (phrase_of a) (written-stands a), line_at 1 (phrase_of a))
  written-stands (binary o a b) = (
    stands_at (left_of o) (phrase_of a) (written-stands a),
    line_at (left_of o) (phrase_of a),
    stands_at (operator_line o - 1) (phrase_of b) (written-stands b),
    tighter o (phrase_of b),
  )
  written-stands (builtin x args) = all_written-stand args
  written-stands (call object x args) = (stands_at 0 (phrase_of object) (written-stands object), line_at 0 (phrase_of object), all_written-stand args)
  written-stands (future object delay x args) =
      (stands_at 0 (phrase_of object) (written-stands object), line_at 0 (phrase_of object), written-stands delay, all_written-stand args)
  written-stands (create x options) = written-stands options

  all_written-stand : (es : Expressions) → AreWellFormed (phrases_of es)
  all_written-stand no_expressions = tt
  all_written-stand (expression a more) = (written-stands a, all_written-stand more)

mutual
  pub tree-written : (e : Expression) → tree_of (phrase_of e) ≡ e
  tree-written nil = refl
  tree-written (bool b) = refl
  tree-written (int n) = refl
  tree-written (text t) = refl
  tree-written this = refl
  tree-written (local x) = refl
  tree-written (field x) = refl
  tree-written (list items) = ap list (trees-all_written items)
  tree-written (unary o a) = ap (unary o) (tree_at 1 (phrase_of a) ∙ tree-written a)
  tree-written (binary o a b) =
      ap (λ x. binary o x (tree_of (at_line (operator_line o - 1) (phrase_of b)))) (tree_at (left_of o) (phrase_of a) ∙ tree-written a)
      ∙ ap (binary o a) (tree_at (operator_line o - 1) (phrase_of b) ∙ tree-written b)
  tree-written (builtin x args) = ap (builtin x) (trees-all_written args)
  tree-written (call object x args) =
      ap (λ y. call y x (trees_of (phrases_of args))) (tree_at 0 (phrase_of object) ∙ tree-written object) ∙ ap (call object x) (trees-all_written args)
  tree-written (future object delay x args) =
      ap (λ y. future y (tree_of (phrase_of delay)) x (trees_of (phrases_of args))) (tree_at 0 (phrase_of object) ∙ tree-written object)
      ∙ ap (λ y. future object y x (trees_of (phrases_of args))) (tree-written delay)
      ∙ ap (future object delay x) (trees-all_written args)
  tree-written (create x options) = ap (create x) (tree-written options)

  trees-all_written : (es : Expressions) → trees_of (phrases_of es) ≡ es
  trees-all_written no_expressions = refl
  trees-all_written (expression a more) = ap (λ y. expression y (trees_of (phrases_of more))) (tree-written a) ∙ ap (expression a) (trees-all_written more)

-- ---- statements

mutual
  action-stands : (s : Statement) → IsWellFormedAction (action_of s)
  action-stands (declare x a) = written-stands a
  action-stands (assign x a) = written-stands a
  action-stands (set_field x a) = written-stands a
  action-stands (when a block no_else) = (written-stands a, block-stands block)
  action-stands (when a block (else_block other)) = (written-stands a, block-stands block, block-stands other)
  action-stands (while a block) = (written-stands a, block-stands block)
  action-stands (give a) = written-stands a
  action-stands (do_ a) = written-stands a

  block-stands : (ss : Statements) → IsWellFormedBlock (block_of ss)
  block-stands no_statements = tt
  block-stands (statement a more) = (action-stands a, block-stands more)

mutual
  tree-action : (s : Statement) → tree_of_action (action_of s) ≡ s
  tree-action (declare x a) = ap (declare x) (tree-written a)
  tree-action (assign x a) = ap (assign x) (tree-written a)
  tree-action (set_field x a) = ap (set_field x) (tree-written a)
  tree-action (when a block no_else) =
      ap (λ y. when y (trees_of_block (block_of block)) no_else) (tree-written a) ∙ ap (λ y. when a y no_else) (trees-block block)
  tree-action (when a block (else_block other)) =
      ap (λ y. when y (trees_of_block (block_of block)) (else_block (trees_of_block (block_of other)))) (tree-written a)
      ∙ ap (λ y. when a y (else_block (trees_of_block (block_of other)))) (trees-block block)
      ∙ ap (λ y. when a block (else_block y)) (trees-block other)
  tree-action (while a block) = ap (λ y. while y (trees_of_block (block_of block))) (tree-written a) ∙ ap (while a) (trees-block block)
  tree-action (give a) = ap give (tree-written a)
  tree-action (do_ a) = ap do_ (tree-written a)

  trees-block : (ss : Statements) → trees_of_block (block_of ss) ≡ ss
  trees-block no_statements = refl
  trees-block (statement a more) = ap (λ y. statement y (trees_of_block (block_of more))) (tree-action a) ∙ ap (statement a) (trees-block more)

-- ---- classes

methods-stand : (ms : List MethodTree) → AreWellFormedMethods (map method_form ms)
methods-stand [] = tt
methods-stand (m ∷ ms) = (block-stands m.body, methods-stand ms)

pub classes-stand : (cs : ProgramTree) → AreWellFormedClasses (map class_form cs)
classes-stand [] = tt
classes-stand (c ∷ cs) = (methods-stand c.methods, classes-stand cs)

trees-methods : (ms : List MethodTree) → map tree_of_method (map method_form ms) ≡ ms
trees-methods [] = refl
trees-methods (m ∷ ms) =
    let same : tree_of_method (method_form m) ≡ m = ap (λ b. record m { body = b }) (trees-block m.body) in
    ap (λ y. y ∷ map tree_of_method (map method_form ms)) same ∙ ap (λ ys. m ∷ ys) (trees-methods ms)

pub trees-classes : (cs : ProgramTree) → map tree_of_class (map class_form cs) ≡ cs
trees-classes [] = refl
trees-classes (c ∷ cs) =
    let same : tree_of_class (class_form c) ≡ c = ap (λ ms. record c { methods = ms }) (trees-methods c.methods) in
    ap (λ y. y ∷ map tree_of_class (map class_form cs)) same ∙ ap (λ ys. c ∷ ys) (trees-classes cs)
