-- What an entry records, but for an Event's number and payload.
use Rattle.tea_base.specs.declared.entry.What.{What}
use Rattle.tea_base.specs.declared.entry.What.TheVariants as what
use Rattle.session_log.specs.declared.kinds.EntryKind.{EntryKind}
use Rattle.session_log.specs.declared.kinds.EntryKind.TheVariants.{Join, Exit, Event}

abbrev pub entry_kind : What → EntryKind
entry_kind what.Join = Join
entry_kind what.Exit = Exit
entry_kind (what.Event number payload) = Event
