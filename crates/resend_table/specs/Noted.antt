-- What a table of resends tells of the entries that it noted.
use Rattle.std.specs.Prelude.{ℕ, ◌≡◌, List, option_map}
use Rattle.tea_base.specs.declared.entry.Entry.{Entry}
use Rattle.tea_base.specs.Readings.{here_count, view_event}
use Rattle.resend_table.specs.declared.stand.Stand.{Stand}
use Rattle.resend_table.specs.declared.table.Resend.{Resend}
use Rattle.resend_table.specs.Stands.{stand_of, stand_in, seq_in}

-- for how many more entries it has room
abbrev pub spare_of : Resend → ℕ
spare_of table = table.spare

abbrev pub stand_at : Resend → ℕ → Stand
stand_at table view = stand_in table.stands view

-- it noted these entries in order: each view stands as they say, each Event is found at its seq, and so many are here
pub record HasNoted (table : Resend) (log : List Entry) : Type 0 where
  pub stands : (view : ℕ) → stand_at table view ≡ stand_of log view
  pub seqs : (view number : ℕ)
      → seq_in table.seqs view number ≡ option_map (λ entry. entry.seq) (view_event log view number)
  pub here : table.here_count ≡ here_count log

-- what one noted, the other did
abbrev pub KeepsNoted : Resend → Resend → Type 0
KeepsNoted old new = (log : List Entry) → HasNoted old log → HasNoted new log
