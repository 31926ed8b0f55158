-- The plain tree that a program in memory stands for.
use Rattle.std.specs.Prelude.{List, map, Option, Some, None, Vec}
use Rattle.std.specs.declared.alloc.Global.{Global}
use Rattle.model_tree.specs.Tree.{Expression, nil, bool, int, text, this, local, field, list, unary, binary, builtin, call, future, create, Expressions, expressions_of, Statement, declare, assign, set_field, when, while, give, do_, Statements, statements_of, Otherwise, no_else, else_block, MethodTree, ClassTree, ProgramTree}
use Rattle.model_tree.specs.declared.tree.Expr.{Expr, fold-Expr}
use Rattle.model_tree.specs.declared.tree.Expr.TheOpen.{Expr-F}
use Rattle.model_tree.specs.declared.tree.Stmt.{Stmt, fold-Stmt}
use Rattle.model_tree.specs.declared.tree.Stmt.TheOpen.{Stmt-F}
use Rattle.model_tree.specs.declared.tree.Method.{Method}
use Rattle.model_tree.specs.declared.tree.Class.{Class}

-- one level, with each part already seen as its plain tree
abbrev pub expression_step : Expr-F Expression → Expression
expression_step Expr-F.Nil = nil
expression_step (Expr-F.Bool b) = bool b
expression_step (Expr-F.Int n) = int n
expression_step (Expr-F.Text s) = text s
expression_step Expr-F.This = this
expression_step (Expr-F.Local name) = local name
expression_step (Expr-F.Field name) = field name
expression_step (Expr-F.List items) = list (expressions_of items.items)
expression_step (Expr-F.Unary op of) = unary op of.value
expression_step (Expr-F.Binary op left right) = binary op left.value right.value
expression_step (Expr-F.Builtin name args) = builtin name (expressions_of args.items)
expression_step (Expr-F.Call object name args) = call object.value name (expressions_of args.items)
expression_step (Expr-F.Future object delay name args) =
    future object.value delay.value name (expressions_of args.items)
expression_step (Expr-F.Create class options) = create class options.value

abbrev pub expression_tree : Expr → Expression
expression_tree = fold-Expr Expression expression_step

abbrev pub expression_trees : List Expr → Expressions
expression_trees es = expressions_of (map expression_tree es)

abbrev pub else_of : Option (Vec Statement Global) → Otherwise
else_of None = no_else
else_of (Some block) = else_block (statements_of block.items)

abbrev pub statement_step : Stmt-F Statement → Statement
statement_step (Stmt-F.Let name value) = declare name (expression_tree value)
statement_step (Stmt-F.Assign name value) = assign name (expression_tree value)
statement_step (Stmt-F.SetField name value) = set_field name (expression_tree value)
statement_step (Stmt-F.If test block other) = when (expression_tree test) (statements_of block.items) (else_of other)
statement_step (Stmt-F.While test body) = while (expression_tree test) (statements_of body.items)
statement_step (Stmt-F.Return value) = give (expression_tree value)
statement_step (Stmt-F.Do value) = do_ (expression_tree value)

abbrev pub statement_tree : Stmt → Statement
statement_tree = fold-Stmt Statement statement_step

abbrev pub statement_trees : List Stmt → Statements
statement_trees ss = statements_of (map statement_tree ss)

abbrev pub method_tree : Method → MethodTree
method_tree m = record { name = m.name; params = m.params.items; body = statement_trees m.body.items }

abbrev pub class_tree : Class → ClassTree
class_tree c = record { name = c.name; fields = c.fields.items; methods = map method_tree c.methods.items }

abbrev pub program_tree : List Class → ProgramTree
program_tree = map class_tree
