-- The numbers of refusals.
use Rattle.std.specs.Prelude.{ℕ}
use Rattle.wire_frames.specs.declared.code.RefusalCode.{RefusalCode}
use Rattle.wire_frames.specs.declared.code.RefusalCode.TheVariants as code

abbrev pub code_number : RefusalCode → ℕ
code_number code.Stale = 1
code_number code.TooLong = 2
code_number code.Differs = 3
code_number code.Gap = 4
code_number code.LogFull = 5
code_number code.TimeEnd = 6
code_number code.ViewsFull = 7
code_number code.BadView = 8
code_number code.Ahead = 9
code_number code.Older = 10
code_number code.NoSuchSeq = 11
code_number code.OtherSession = 12
code_number code.BadFrame = 13
code_number code.NotJoined = 14
code_number code.AlreadyJoined = 15
