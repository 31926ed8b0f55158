use Rattle.std.proofs.Common.{◌≡◌, ◌+◌, ◌≤◌, ◌↔◌, drop}
use Rattle.model_value.specs.Plain.{weight_of_all, greatest_depth}
use Rattle.model_value.specs.View.{plains}
use Rattle.model_value.proofs.measure.+room_behind.Given as goal

abbrev pub invariant-room_behind_all-loop-item : goal.invariant-room_behind_all-loop-item
invariant-room_behind_all-loop-item l =
    (l.left + weight_of_all (plains l.items) ≡ l.room + weight_of_all (plains (drop l.item-index l.items)))
    × (greatest_depth (plains (drop l.item-index l.items)) ≤ l.levels ↔ greatest_depth (plains l.items) ≤ l.levels)
