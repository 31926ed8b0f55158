-- The plain tree that a resolved method in memory stands for.
use Rattle.std.specs.Prelude.{List, map, Option, Some, None, Vec}
use Rattle.std.specs.declared.alloc.Global.{Global}
use Rattle.model_solved.specs.SolvedTree.{SolvedExpression, nil, bool, int, text, this, local, field, list, unary, binary, builtin, call, future, create, SolvedExpressions, solved_expressions_of, SolvedStatement, declare, assign, set_field, when, while, give, do_, SolvedStatements, solved_statements_of, SolvedOtherwise, no_else, else_block, SolvedMethod}
use Rattle.model_solved.specs.declared.solved.SolvedExpr.{SolvedExpr, fold-SolvedExpr}
use Rattle.model_solved.specs.declared.solved.SolvedExpr.TheOpen.{SolvedExpr-F}
use Rattle.model_solved.specs.declared.solved.SolvedStmt.{SolvedStmt, fold-SolvedStmt}
use Rattle.model_solved.specs.declared.solved.SolvedStmt.TheOpen.{SolvedStmt-F}
use Rattle.model_solved.specs.declared.solved.Solved.{Solved}

-- one level, with each part already seen as its plain tree
abbrev pub solved_expression_step : SolvedExpr-F SolvedExpression → SolvedExpression
solved_expression_step SolvedExpr-F.Nil = nil
solved_expression_step (SolvedExpr-F.Bool b) = bool b
solved_expression_step (SolvedExpr-F.Int n) = int n
solved_expression_step (SolvedExpr-F.Text s) = text s
solved_expression_step SolvedExpr-F.This = this
solved_expression_step (SolvedExpr-F.Local slot) = local slot
solved_expression_step (SolvedExpr-F.Field slot) = field slot
solved_expression_step (SolvedExpr-F.List items) = list (solved_expressions_of items.items)
solved_expression_step (SolvedExpr-F.Unary op of) = unary op of.value
solved_expression_step (SolvedExpr-F.Binary op left right) = binary op left.value right.value
solved_expression_step (SolvedExpr-F.Builtin name args) = builtin name (solved_expressions_of args.items)
solved_expression_step (SolvedExpr-F.Call object name args) = call object.value name (solved_expressions_of args.items)
solved_expression_step (SolvedExpr-F.Future object delay name args) =
    future object.value delay.value name (solved_expressions_of args.items)
solved_expression_step (SolvedExpr-F.Create class options) = create class options.value

abbrev pub solved_expression : SolvedExpr → SolvedExpression
solved_expression = fold-SolvedExpr SolvedExpression solved_expression_step

abbrev pub solved_expressions : List SolvedExpr → SolvedExpressions
solved_expressions es = solved_expressions_of (map solved_expression es)

abbrev pub solved_else_of : Option (Vec SolvedStatement Global) → SolvedOtherwise
solved_else_of None = no_else
solved_else_of (Some block) = else_block (solved_statements_of block.items)

abbrev pub solved_statement_step : SolvedStmt-F SolvedStatement → SolvedStatement
solved_statement_step (SolvedStmt-F.Let slot value) = declare slot (solved_expression value)
solved_statement_step (SolvedStmt-F.Assign slot value) = assign slot (solved_expression value)
solved_statement_step (SolvedStmt-F.SetField slot value) = set_field slot (solved_expression value)
solved_statement_step (SolvedStmt-F.If test block other) =
    when (solved_expression test) (solved_statements_of block.items) (solved_else_of other)
solved_statement_step (SolvedStmt-F.While test body) = while (solved_expression test) (solved_statements_of body.items)
solved_statement_step (SolvedStmt-F.Return value) = give (solved_expression value)
solved_statement_step (SolvedStmt-F.Do value) = do_ (solved_expression value)

abbrev pub solved_statement : SolvedStmt → SolvedStatement
solved_statement = fold-SolvedStmt SolvedStatement solved_statement_step

abbrev pub solved_statements : List SolvedStmt → SolvedStatements
solved_statements ss = solved_statements_of (map solved_statement ss)

abbrev pub solved_method : Solved → SolvedMethod
solved_method s = record { params = s.params; slots = s.slots; body = solved_statements s.body.items }
