-- The entry whose payload is borrowed.
use Rattle.std.specs.Prelude.{List}
use Rattle.tea_base.specs.declared.entry.Entry.{Entry}
use Rattle.entry_fields.specs.Lent.{lent_what}
use Rattle.session_log.specs.LogState.{next_entry}
use Rattle.session_log.specs.declared.lent.LentLogEntry.{LentLogEntry}

-- it stands directly after the entries of a log
abbrev pub lent_entry : List Entry → LentLogEntry → Entry
lent_entry log entry = next_entry log entry.time entry.view (lent_what entry.what)
