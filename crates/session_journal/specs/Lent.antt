-- What a record says whose bytes are borrowed.
use Rattle.entry_fields.specs.Lent.{lent_what}
use Rattle.session_journal.specs.declared.change.Change.{Change}
use Rattle.session_journal.specs.declared.change.Change.TheVariants as change
use Rattle.session_journal.specs.declared.change.LentChange.{LentChange}
use Rattle.session_journal.specs.declared.change.LentChange.TheVariants.{Came, Reached, Kept}

abbrev pub lent_change : LentChange → Change
lent_change (Came time view what) = change.Came time view (lent_what what)
lent_change (Reached time) = change.Reached time
lent_change (Kept time bytes) = change.Kept time bytes.now
