use Rattle.system_plain.proofs.StepRows.{left_row, lost_row, publishes_not, publishes_so, refused_row, stale_row, stays_row}
use Rattle.system_plain.proofs.laws.steps_in_words.Goals as goal

pub returns : goal.returns
returns g c = record { may_publish = publishes_so; may_not = publishes_not; lost = lost_row; refused = refused_row; stale = stale_row; left = left_row; stays = stays_row }
