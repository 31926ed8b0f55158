-- Which worlds are spelled.
use Rattle.std.specs.Prelude.{ℕ, List, length, ◌≤◌}
use Rattle.std.specs.List.{AllByRecursion}
use Rattle.world_plain.specs.Messages.{PlainMessage}
use Rattle.tea_base.specs.Limits.{most_here}
use Rattle.world_plain.specs.Valid.{Valid, most_arguments}
use Rattle.world_plain.specs.World.{WorldRecord, world_weight, most_world_weight}

-- valid for some program, told by the numbers of fields of its classes
abbrev pub IsValid : WorldRecord → Type 0
IsValid w = (counts : List ℕ) × Valid counts w

abbrev pub MessageHasFewArguments : PlainMessage → Type 0
MessageHasFewArguments m = length m.args ≤ most_arguments

-- what of this keeps each count within its field
pub record IsSmall (w : WorldRecord) : Type 0 where
  pub views : length w.views ≤ most_here
  pub arguments : AllByRecursion MessageHasFewArguments w.pending
  pub weight : world_weight w ≤ most_world_weight
