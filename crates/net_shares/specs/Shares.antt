-- What a share gives, and what it brings back to its net.
use Rattle.std.specs.Prelude.{◌≡◌, ℕ, ⊤, ◌+◌, List, [], ◌++◌, Option, Some, None, Result, Ok, Err}
use Rattle.tea_io.specs.Told.{TakesFirst}
use Rattle.tea_io.specs.Links.{Counts, no_counts}
use Rattle.tea_io.specs.declared.net.NetFault.{NetFault}

-- a link that is given is the first of those to come; where none is given they stay
abbrev pub GivesFirst : {L : Type 0} → Option (List L) → Option (List L) → Result (Option L) NetFault → Type 0
GivesFirst before now (Ok (Some link)) = TakesFirst before now link
GivesFirst before now (Ok None) = now ≡ before
GivesFirst before now (Err fault) = now ≡ before

-- a link that is given has counted nothing
abbrev pub GivesNew : {L : Type 0} → (L → Counts) → Result (Option L) NetFault → Type 0
GivesNew counts (Ok (Some link)) = counts link ≡ no_counts
GivesNew counts (Ok None) = ⊤
GivesNew counts (Err fault) = ⊤

-- one link more is out where one is given
abbrev pub Lends : {L : Type 0} → ℕ → ℕ → Result (Option L) NetFault → Type 0
Lends before now (Ok (Some link)) = now ≡ before + 1
Lends before now (Ok None) = now ≡ before
Lends before now (Err fault) = now ≡ before

-- no link was given back yet, where it is told which were
abbrev pub none_of : {L : Type 0} → Option (List L) → Option (List L)
none_of None = None
none_of (Some told) = Some []

-- the list with that of a share behind it, where both are told
abbrev pub with_all : {L : Type 0} → Option (List L) → Option (List L) → Option (List L)
with_all None more = None
with_all (Some told) None = None
with_all (Some told) (Some more) = Some (told ++ more)
