-- Known names by rising name, who is known by one, and what a name more makes of them.
use Rattle.std.specs.Prelude.{◌≡◌, ◌≤◌, ℕ, List, [], ◌∷◌, Option, Some, None, bytes_eq, if◌then◌else◌}
use Rattle.tea_base.specs.Order.{comes_before}
use Rattle.world_plain.specs.Valid.{KnownRise}
use Rattle.world_plain.specs.World.{known_weight, total_weight, most_world_weight}
use Rattle.world_plain.specs.declared.world.Known.{Known}

-- what is true of all names
pub record AreNames (ks : List Known) : Type 0 where
  pub rise : KnownRise ks
  pub light : total_weight known_weight ks ≤ most_world_weight

-- names beside which their weight together is kept
pub record IsWeighedNames (held : ℕ) (ks : List Known) : Type 0 where
  pub names : AreNames ks
  pub weight : held ≡ total_weight known_weight ks

-- the object that is known by a name, if there is one
abbrev pub object_known : List ℕ → List Known → Option ℕ
object_known x [] = None
object_known x (k ∷ ks) = if bytes_eq x k.name then Some k.object else object_known x ks

-- an object in place of any other that is known by that name; a new name goes before the first greater one
abbrev pub with_known : List ℕ → ℕ → List Known → List Known
with_known x object [] = record { name = x; object = object } ∷ []
with_known x object (k ∷ ks) =
    if bytes_eq x k.name then record { name = x; object = object } ∷ ks
    else (if comes_before x k.name then record { name = x; object = object } ∷ k ∷ ks else k ∷ with_known x object ks)
