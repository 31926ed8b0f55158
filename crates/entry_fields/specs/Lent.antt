-- What an entry records whose payload is borrowed.
use Rattle.tea_base.specs.declared.entry.What.{What}
use Rattle.tea_base.specs.declared.entry.What.TheVariants as what
use Rattle.entry_fields.specs.declared.lent.LentWhat.{LentWhat}
use Rattle.entry_fields.specs.declared.lent.LentWhat.TheVariants.{Join, Exit, Event}

abbrev pub lent_what : LentWhat → What
lent_what Join = what.Join
lent_what Exit = what.Exit
lent_what (Event number payload) = what.Event number payload.now
