use Rattle.std.proofs.Common.{◌↔◌, ◌≤◌, drop}
use Rattle.model_tree.specs.Bounds.{greatest, most_nested}
use Rattle.model_lang.specs.Counts.{count_symbol}
use Rattle.model_lang.proofs.bounds.stays_low.Given as goal

abbrev pub invariant-loop-token : goal.invariant-loop-token
invariant-loop-token l = (l.count ≤ most_nested) × (greatest (count_symbol l.what) l.count (drop l.token-index l.tokens) ≤ most_nested ↔ greatest (count_symbol l.what) 0 l.tokens ≤ most_nested)
