use Rattle.std.proofs.Common.{◌≡◌, drop}
use Rattle.commands.specs.Verdict.{text_in}
use Rattle.commands.proofs.hosting.host_id.Given as goal

-- the program is none of those so far
abbrev pub invariant-loop-found : goal.invariant-loop-found
invariant-loop-found l = text_in l.read l.line.program ≡ text_in (drop l.found-index l.read) l.line.program
