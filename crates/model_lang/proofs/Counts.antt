-- Counts along tokens, and how many arguments there are.
use Rattle.std.proofs.Common.{◌≡◌, ℕ, ◌≤◌, List, [], ◌∷◌, length, refl, arith}
use Rattle.model_tokens.specs.declared.token.Token.{Token}
use Rattle.model_tokens.specs.declared.token.Symbol.{Symbol}
use Rattle.model_tree.specs.declared.tree.Expr.{Expr}
use Rattle.model_tree.specs.TreeView.{expression_trees}
use Rattle.model_tree.specs.Bounds.{greatest, how_many}

pub greatest-le : (after : ℕ → Symbol → ℕ) (count : ℕ) (ts : List Token) → count ≤ greatest after count ts
greatest-le after count [] = omega arith
greatest-le after count (t ∷ ts) = omega arith

pub ruleset by_greatest = (greatest-le)

pub how_many-trees : (es : List Expr) → how_many (expression_trees es) ≡ length es
how_many-trees [] = refl
how_many-trees (e ∷ es) = omega (arith, how_many-trees es)

pub ruleset by_count = (how_many-trees)
