-- The readers of values by how deep lists may still nest.
use Rattle.std.proofs.Common.{◌≡◌, ℕ, zero, suc, ◌-◌, ◌<◌, List, refl, arith}
use Rattle.byte_fields.specs.Fields.{made_at, list_at}
use Rattle.model_value.specs.View.{plains_of}
use Rattle.model_value.specs.Reading.{value_at, value_row, items_in}

pub value_at-row : (levels : ℕ) (bytes : List ℕ) → value_at levels bytes ≡ value_row (items_in levels) bytes
unfolding value_at
value_at-row zero bytes = refl
value_at-row (suc levels) bytes = refl

pub items_in-room : (levels : ℕ) (bytes : List ℕ) → 0 < levels → items_in levels bytes ≡ made_at plains_of (list_at (λ _. value_at (levels - 1))) bytes
items_in-room zero bytes h = absurd (omega arith)
items_in-room (suc levels) bytes h = let e : suc levels - 1 ≡ levels = omega arith in rw e refl
