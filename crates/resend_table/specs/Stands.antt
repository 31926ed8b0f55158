-- How views stand after entries.
use Rattle.std.specs.Prelude.{ℕ, ◌+◌, ◌-◌, ◌≡◌, Bool, true, false, ◌&&◌, if◌then◌else◌, nat_eq, List, Option, unwrap_or}
use Rattle.tea_base.specs.declared.entry.Entry.{Entry}
use Rattle.tea_base.specs.declared.entry.What.{What}
use Rattle.tea_base.specs.declared.entry.What.TheVariants as what
use Rattle.tea_base.specs.Readings.{current, is_here, last_number}
use Rattle.indexmap.specs.IndexMap.{IndexMap, get}
use Rattle.resend_table.specs.declared.stand.Kind.{Kind}
use Rattle.resend_table.specs.declared.stand.Kind.TheVariants.{Join, Exit, Event}
use Rattle.resend_table.specs.declared.stand.Stand.{Stand}

abbrev pub entry_kind : What → Kind
entry_kind what.Join = Join
entry_kind what.Exit = Exit
entry_kind (what.Event number payload) = Event

-- the entry has this seq, this view, and is of this kind
abbrev pub IsNotedAs : ℕ → ℕ → Kind → Entry → Type 0
IsNotedAs seq view kind entry = (entry.seq ≡ seq) × (entry.view ≡ view) × (entry_kind entry.what ≡ kind)

abbrev pub is_event_kind : Kind → Bool
is_event_kind Join = false
is_event_kind Exit = false
is_event_kind Event = true

-- how a view stands after the entries of a log
abbrev pub stand_of : List Entry → ℕ → Stand
stand_of log view = record { current = current log view; here = is_here log view; last = last_number log view }

-- a view that no entry names
abbrev pub absent_stand : Stand
absent_stand = record { current = 0; here = false; last = 0 }

-- that of a view whose last Join, where it is here, or Exit has this seq
abbrev pub with_presence : Stand → ℕ → Bool → Stand
with_presence stand seq here = record { current = seq; here = here; last = stand.last }

-- what one more entry of a view makes of its stand
abbrev pub stand_after : Stand → ℕ → Kind → Stand
stand_after stand seq Join = with_presence stand seq true
stand_after stand seq Exit = with_presence stand seq false
stand_after stand seq Event = record { current = stand.current; here = stand.here; last = stand.last + 1 }

-- and of how many views are here
abbrev pub here_count_after : ℕ → Bool → Kind → ℕ
here_count_after count here Join = if here then count else count + 1
here_count_after count here Exit = if here then count - 1 else count
here_count_after count here Event = count

-- and of how many were here before it
abbrev pub here_count_before : ℕ → Bool → Kind → ℕ
here_count_before count here Join = if here then count else count - 1
here_count_before count here Exit = if here then count + 1 else count
here_count_before count here Event = count

-- ---- what the maps hold

abbrev pub stand_in : {S : Type 0} → IndexMap ℕ Stand S → ℕ → Stand
stand_in stands view = unwrap_or (get nat_eq stands view) absent_stand

-- both numbers are the same
abbrev pub same_pair : ℕ × ℕ → ℕ × ℕ → Bool
same_pair x y = nat_eq x.0 y.0 && nat_eq x.1 y.1

abbrev pub seq_in : {S : Type 0} → IndexMap (ℕ × ℕ) ℕ S → ℕ → ℕ → Option ℕ
seq_in seqs view number = get same_pair seqs (view, number)
