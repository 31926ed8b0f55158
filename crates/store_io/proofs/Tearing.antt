-- A piece of which a first part was written, and what is left of a store.
use Rattle.std.proofs.Common.{◌≡◌, ℕ, ◌≤◌, List, ◌++◌, take, drop, Option, Some, None, refl, ap, sym, ◌∙◌}
use Rattle.std.proofs.lemmas.List.{take-append-drop, take-take}
use Rattle.tea_io.specs.Sink.{GrowsWithin}
use Rattle.store_io.specs.Store.{MayBeLeft, MayBeTorn}

pub front_written : (held piece new : List ℕ) (n : ℕ) → new ≡ held ++ take n piece → GrowsWithin (Some held) (Some new) piece
front_written held piece new n e = (drop n piece, record { front = take n piece; whole = take-append-drop n piece; written = ap Some e })

-- a kill leaves what was safe
pub safe_is_left : (bytes : Option (List ℕ)) (safe : ℕ) (left : List ℕ) → MayBeLeft bytes safe left → MayBeTorn bytes safe left
safe_is_left None safe left kill = tt
safe_is_left (Some bytes) safe left kill = ap (take safe) kill.2 ∙ take-take safe kill.0 bytes kill.1
