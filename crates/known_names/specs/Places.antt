-- Known names by their place in a list.
use Rattle.std.specs.Prelude.{◌≡◌, ◌≤◌, ℕ, List, length, insert, slice_get, slice_set, Some, None, Result, Ok, Err}
use Rattle.world_plain.specs.declared.world.Known.{Known}
use Rattle.known_names.specs.Names.{object_known, with_known}

-- this name stands at this place
abbrev pub IsKnownAt : ℕ → List ℕ → List Known → Type 0
IsKnownAt place x ks = (k : Known) × (slice_get ks place ≡ Some k) × (k.name ≡ x) × (object_known x ks ≡ Some k.object)

-- where a name stands, or would stand
abbrev pub IsPlaceOf : Result ℕ ℕ → List ℕ → List Known → Type 0
IsPlaceOf (Ok place) x ks =
    IsKnownAt place x ks × ((object : ℕ)
    → with_known x object ks ≡ slice_set ks place (record { name = x; object = object }))
IsPlaceOf (Err place) x ks =
    (place ≤ length ks) × (object_known x ks ≡ None)
    × ((object : ℕ) → with_known x object ks ≡ insert ks place (record { name = x; object = object }))
