-- The entry of a head, by the bytes of all payloads.
use Rattle.std.specs.Prelude.{ℕ, ◌+◌, ◌≤◌, List, [], ◌∷◌}
use Rattle.tea_base.specs.declared.entry.Entry.{Entry}
use Rattle.tea_base.specs.declared.entry.What.{What}
use Rattle.tea_base.specs.declared.entry.What.TheVariants as what
use Rattle.tea_base.specs.Limits.{most_payload}
use Rattle.event_region.specs.RegionState.{place_bytes}
use Rattle.session_log.specs.declared.heads.Head.{Head}
use Rattle.session_log.specs.declared.heads.HeadKind.{HeadKind}
use Rattle.session_log.specs.declared.heads.HeadKind.TheVariants.{Join, Exit, Event}

abbrev pub what_of : List ℕ → HeadKind → What
what_of payloads Join = what.Join
what_of payloads Exit = what.Exit
what_of payloads (Event number place) = what.Event number (place_bytes payloads place)

abbrev pub entry_of : List ℕ → Head → Entry
entry_of payloads head =
    record { seq = head.seq; time = head.time; view = head.view; what = what_of payloads head.kind }

-- the payload lies within the first bytes, and is not too long
abbrev pub IsKindWithin : ℕ → HeadKind → Type 0
IsKindWithin bound Join = Unit {0}
IsKindWithin bound Exit = Unit {0}
IsKindWithin bound (Event number place) = (place.start + place.len ≤ bound) × (place.len ≤ most_payload)

abbrev pub AreWithin : ℕ → List Head → Type 0
AreWithin bound [] = Unit {0}
AreWithin bound (head ∷ rest) = IsKindWithin bound head.kind × AreWithin bound rest

-- it is a Join or an Exit
abbrev pub IsPresence : HeadKind → Type 0
IsPresence Join = Unit {0}
IsPresence Exit = Unit {0}
IsPresence (Event number place) = ⊥
