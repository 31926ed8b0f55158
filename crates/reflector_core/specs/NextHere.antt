-- How the next view that is here is found.
use Rattle.std.specs.Prelude.{ℕ, nat_lt, Bool, true, ◌&&◌, if◌then◌else◌, List, Option, Some, None}
use Rattle.tea_base.specs.declared.entry.Entry.{Entry}
use Rattle.tea_base.specs.Readings.{is_here}
use Rattle.session_log.specs.declared.kinds.EntryKind.{EntryKind}
use Rattle.session_log.specs.declared.kinds.EntryKind.TheVariants as entry
use Rattle.resend_table.specs.declared.stand.Kind.{Kind}
use Rattle.resend_table.specs.declared.stand.Kind.TheVariants as noted

-- it comes before what was found, where something was
abbrev pub is_before : ℕ → Option ℕ → Bool
is_before view None = true
is_before view (Some found) = nat_lt view found

-- the lesser of what was found and of this view, where that is above and here
abbrev pub lesser_here : List Entry → ℕ → Option ℕ → ℕ → Option ℕ
lesser_here log above found view =
    if nat_lt above view && (is_before view found && is_here log view) then Some view else found

-- what the table notes of an entry
abbrev pub noted_kind : EntryKind → Kind
noted_kind entry.Join = noted.Join
noted_kind entry.Exit = noted.Exit
noted_kind entry.Event = noted.Event
