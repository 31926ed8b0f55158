-- Reading the entries of a log, each tested against those before it.
use Rattle.std.specs.Prelude.{List}
use Rattle.std.specs.Int.{w32, w64}
use Rattle.tea_base.specs.declared.entry.Entry.{Entry}
use Rattle.byte_fields.specs.Fields.{Decoder, number_at, paired_at, made_at, tested_at}
use Rattle.entry_fields.specs.Reading.{what_at}
use Rattle.session_log.specs.LogState.{next_entry}
use Rattle.session_log.specs.Legality.{may_follow}

-- the entry behind those of a log
unfoldable pub log_entry_at : List Entry → Decoder Entry
log_entry_at log =
    made_at (λ p. next_entry log p.0 p.1.0 p.1.1) (paired_at (number_at w64) (paired_at (number_at w32) what_at))

-- the same, where it may follow
unfoldable pub entry_after : List Entry → Decoder Entry
entry_after log = tested_at (may_follow log) (log_entry_at log)
