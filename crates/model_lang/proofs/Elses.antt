-- The tree of an `if` that has an `else`.
use Rattle.std.proofs.Common.{◌≡◌, sym, ap, ◌∙◌, Some, Vec}
use Rattle.std.specs.declared.alloc.Global.{Global}
use Rattle.model_tree.specs.declared.tree.Expr.{Expr}
use Rattle.model_tree.specs.declared.tree.Stmt.{Stmt, fold-roll-Stmt}
use Rattle.model_tree.specs.declared.tree.Stmt.TheVariants.{If, rolls-If}
use Rattle.model_tree.specs.declared.tree.Stmt.TheOpen.{Stmt-F}
use Rattle.model_tree.specs.Tree.{Statement, when, else_block}
use Rattle.model_tree.specs.TreeView.{statement_tree, statement_step, statement_trees, expression_tree}

pub else_tree : (test : Expr) (block other : Vec Stmt Global) → statement_tree (If test block (Some other)) ≡ when (expression_tree test) (statement_trees block.items) (else_block (statement_trees other.items))
else_tree test block other =
    ap statement_tree (sym (rolls-If test block (Some other))) ∙ fold-roll-Stmt Statement statement_step (Stmt-F.If test block (Some other))
