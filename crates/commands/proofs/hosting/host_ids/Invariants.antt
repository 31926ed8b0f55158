use Rattle.std.proofs.Common.{◌≡◌, take}
use Rattle.commands.specs.Verdict.{host_ids}
use Rattle.commands.proofs.hosting.host_ids.Given as goal

-- the ids so far
abbrev pub invariant-loop-line : goal.invariant-loop-line
invariant-loop-line l = l.ids ≡ host_ids l.read (take l.line-index l.lines)
