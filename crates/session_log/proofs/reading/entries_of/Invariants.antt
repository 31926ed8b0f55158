use Rattle.std.proofs.Common.{◌≡◌, ◌-◌, []}
use Rattle.byte_fields.specs.Fields.{items_at}
use Rattle.session_log.specs.Reading.{entry_after}
use Rattle.session_log.specs.Tally.{TellsLog}
use Rattle.session_log.proofs.reading.entries_of.Given as goal

-- what is read so far, and then the rest, is what is read of all
abbrev pub invariant-loop : goal.invariant-loop
invariant-loop l = record {
  told : TellsLog l.tally l.log.entries;
  same : items_at entry_after l.log.entries (l.count - l.counter) l.rest ≡ items_at entry_after [] l.count l.bytes;
}
