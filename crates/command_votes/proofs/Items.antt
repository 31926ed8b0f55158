-- Values that name nothing: lists of any other length.
use Rattle.std.proofs.Common.{ℕ, ◌<◌, ◌≤◌, ◌≡◌, List, [], ◌∷◌, None, length, refl, arith}
use Rattle.model_value.specs.View.{plains}
use Rattle.model_value.specs.declared.value.Value.{Value}
use Rattle.command_votes.specs.VoteRead.{named_by_items}

pub short : (seq : ℕ) (items : List Value) → length items < 2 → None ≡ named_by_items seq (plains items)
short seq [] few = refl
short seq (number ∷ []) few = refl
short seq (number ∷ digits ∷ rest) few = absurd (omega arith)

pub long : (seq : ℕ) (items : List Value) → 3 ≤ length items → None ≡ named_by_items seq (plains items)
long seq [] many = absurd (omega arith)
long seq (number ∷ []) many = absurd (omega arith)
long seq (number ∷ digits ∷ []) many = absurd (omega arith)
long seq (number ∷ digits ∷ other ∷ rest) many = refl
