use Rattle.std.proofs.Common.{map, take}
use Rattle.session_journal.specs.Founding.{Adds, came_of}
use Rattle.session_journal.proofs.founding.add_entries.Given as goal

-- the entries so far
abbrev pub invariant-loop-place : goal.invariant-loop-place
invariant-loop-place l = Adds l.initial.draft l.draft (map came_of (take l.place l.log.entries))
