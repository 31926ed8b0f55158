use Rattle.std.proofs.Common.{◌≡◌, drop}
use Rattle.commands.specs.Verdict.{are_apart}
use Rattle.commands.proofs.hosting.are_apart.Given as goal

-- it depends on the ids that are left
abbrev pub invariant-loop-place : goal.invariant-loop-place
invariant-loop-place l = are_apart l.ids ≡ are_apart (drop l.place l.ids)
