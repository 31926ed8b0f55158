use Rattle.std.proofs.Common.{◌≡◌, ◌+◌, ◌-◌, ◌*◌, [], length}
use Rattle.model_value.specs.View.{plain_values}
use Rattle.value_text.specs.Reading.{value_text_at, text_items_at}
use Rattle.value_text.proofs.reading.+value_text_at.Given as goal

abbrev pub decreases-value_text_at : goal.decreases-value_text_at
decreases-value_text_at l = 4 * l.levels + 2

abbrev pub decreases-list_value_at : goal.decreases-list_value_at
decreases-list_value_at l = 4 * l.levels + 1

abbrev pub decreases-nested_items : goal.decreases-nested_items
decreases-nested_items l = 4 * l.levels

abbrev pub decreases-text_items_at : goal.decreases-text_items_at
decreases-text_items_at l = 4 * l.levels + 3

-- what is read so far, and then the rest, is what is read of all
abbrev pub invariant-text_items_at-loop : goal.invariant-text_items_at-loop
invariant-text_items_at-loop l = text_items_at (value_text_at l.levels) (plain_values l.items.items) (length l.bytes - l.counter) l.rest ≡ text_items_at (value_text_at l.levels) [] (length l.bytes) l.bytes
