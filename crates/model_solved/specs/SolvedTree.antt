-- Resolved methods as plain trees.
use Rattle.std.specs.Prelude.{ℕ, ℤ, Bool, List, [], ◌∷◌}
use Rattle.model_tree.specs.declared.tree.UnaryOp.{UnaryOp}
use Rattle.model_tree.specs.declared.tree.BinaryOp.{BinaryOp}
use Rattle.model_tree.specs.Tree.{Name}
use Rattle.model_solved.specs.declared.builtin.Builtin.{Builtin}

mutual
  pub data SolvedExpression : Type 0 where
    nil : SolvedExpression
    bool : Bool → SolvedExpression
    int : ℤ → SolvedExpression
    text : List ℕ → SolvedExpression
    this : SolvedExpression
    local : ℕ → SolvedExpression
    field : ℕ → SolvedExpression
    list : SolvedExpressions → SolvedExpression
    unary : UnaryOp → SolvedExpression → SolvedExpression
    binary : BinaryOp → SolvedExpression → SolvedExpression → SolvedExpression
    builtin : Builtin → SolvedExpressions → SolvedExpression
    call : SolvedExpression → Name → SolvedExpressions → SolvedExpression
    future : SolvedExpression → SolvedExpression → Name → SolvedExpressions → SolvedExpression
    create : ℕ → SolvedExpression → SolvedExpression

  pub data SolvedExpressions : Type 0 where
    no_expressions : SolvedExpressions
    expression : SolvedExpression → SolvedExpressions → SolvedExpressions

mutual
  pub data SolvedStatement : Type 0 where
    declare : ℕ → SolvedExpression → SolvedStatement
    assign : ℕ → SolvedExpression → SolvedStatement
    set_field : ℕ → SolvedExpression → SolvedStatement
    when : SolvedExpression → SolvedStatements → SolvedOtherwise → SolvedStatement
    while : SolvedExpression → SolvedStatements → SolvedStatement
    give : SolvedExpression → SolvedStatement
    do_ : SolvedExpression → SolvedStatement

  pub data SolvedStatements : Type 0 where
    no_statements : SolvedStatements
    statement : SolvedStatement → SolvedStatements → SolvedStatements

  pub data SolvedOtherwise : Type 0 where
    no_else : SolvedOtherwise
    else_block : SolvedStatements → SolvedOtherwise

pub record SolvedMethod : Type 0 where
  pub params : ℕ
  pub slots : ℕ
  pub body : SolvedStatements

abbrev pub solved_expressions_of : List SolvedExpression → SolvedExpressions
solved_expressions_of [] = no_expressions
solved_expressions_of (e ∷ es) = expression e (solved_expressions_of es)

abbrev pub solved_statements_of : List SolvedStatement → SolvedStatements
solved_statements_of [] = no_statements
solved_statements_of (s ∷ ss) = statement s (solved_statements_of ss)
