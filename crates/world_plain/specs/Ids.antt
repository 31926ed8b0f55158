-- The numbers of objects.
use Rattle.std.specs.Prelude.{List, map}
use Rattle.world_plain.specs.World.{ObjectRecord}
use Rattle.world_plain.specs.Valid.{RiseFrom}

-- each object has a higher number than the one before it, and the first one at least 1
abbrev pub HaveRisingIds : List ObjectRecord → Type 0
HaveRisingIds objects = RiseFrom 0 (map (λ o. o.id) objects)
