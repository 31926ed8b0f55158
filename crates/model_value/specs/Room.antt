-- What a weight leaves of a room.
use Rattle.std.specs.Prelude.{◌≡◌, ◌+◌, ◌<◌, ℕ, Option, Some, None}

-- nothing where the weight is greater than the room
abbrev pub IsRoomBehind : Option ℕ → ℕ → ℕ → Type 0
IsRoomBehind None room weight = room < weight
IsRoomBehind (Some left) room weight = left + weight ≡ room
