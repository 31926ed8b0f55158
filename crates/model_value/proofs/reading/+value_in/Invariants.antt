use Rattle.std.proofs.Common.{◌≡◌, ◌+◌, ◌-◌, ◌*◌, []}
use Rattle.byte_fields.specs.Fields.{items_at}
use Rattle.model_value.specs.Plain.{values_weight}
use Rattle.model_value.specs.View.{plain_values}
use Rattle.model_value.specs.Reading.{value_at}
use Rattle.model_value.proofs.reading.+value_in.Given as goal

abbrev pub decreases-value_of_kind : goal.decreases-value_of_kind
decreases-value_of_kind l = 4 * l.levels + 1

abbrev pub decreases-items_in : goal.decreases-items_in
decreases-items_in l = 4 * l.levels

abbrev pub decreases-items_of : goal.decreases-items_of
decreases-items_of l = 4 * l.levels + 3

abbrev pub decreases-value_in : goal.decreases-value_in
decreases-value_in l = 4 * l.levels + 2

-- what is read so far, and then the rest, is what is read of all; what was read weighs as much as the room has lost
abbrev pub invariant-items_of-loop : goal.invariant-items_of-loop
invariant-items_of-loop l = record {
  so_far : items_at (λ _. value_at l.levels) (plain_values l.items.items) (l.count - l.counter) l.rest ≡ items_at (λ _. value_at l.levels) [] l.count l.bytes;
  spent : values_weight (plain_values l.items.items) + l.left ≡ l.room;
}
