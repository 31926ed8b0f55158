use Rattle.std.proofs.Common.{◌≡◌, ◌-◌, length}
use Rattle.session_log.specs.Tally.{TellsLog}
use Rattle.session_journal.specs.Frames.{read_on}
use Rattle.session_journal.specs.State.{body_step}
use Rattle.session_journal.specs.Journal.{record_check, read_records}
use Rattle.session_journal.specs.Reading.{place_of}
use Rattle.session_journal.proofs.reading.read_records.Given as goal

-- on from here is on from the start
abbrev pub invariant-loop : goal.invariant-loop
invariant-loop l = record {
  told : TellsLog l.tally l.stored.log.entries;
  same : read_on record_check body_step (length l.bytes - l.counter) (place_of l.stored l.check l.rest) ≡ read_records l.fn.first l.bytes;
}
