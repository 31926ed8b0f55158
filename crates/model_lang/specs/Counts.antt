-- The counts along the tokens of a text that are bounded.
use Rattle.std.specs.Prelude.{ℕ}
use Rattle.model_tokens.specs.declared.token.Symbol.{Symbol}
use Rattle.model_tree.specs.Bounds.{brackets_after, operators_after}
use Rattle.model_lang.specs.declared.bounds.TokenCount.{TokenCount}
use Rattle.model_lang.specs.declared.bounds.TokenCount.TheVariants as what

-- what each of them is behind a symbol
abbrev pub count_symbol : TokenCount → ℕ → Symbol → ℕ
count_symbol what.Brackets = brackets_after
count_symbol what.Operators = operators_after
