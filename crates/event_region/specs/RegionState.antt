-- What contracts see of a region, and the bytes of a place in it.
use Rattle.std.specs.Prelude.{ℕ, ◌+◌, ◌≤◌, List, length, slice_range}
use Rattle.event_region.specs.declared.region.Place.{Place}

-- all bytes that were appended, and the room for more
pub record RegionState : Type 0 where
  pub bytes : List ℕ
  pub spare : ℕ

-- the place lies within the bytes
abbrev pub IsPlaceWithin : List ℕ → Place → Type 0
IsPlaceWithin bytes place = place.start + place.len ≤ length bytes

abbrev pub place_bytes : List ℕ → Place → List ℕ
place_bytes bytes place = slice_range bytes place.start (place.start + place.len)
