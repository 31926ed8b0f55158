use Rattle.std.proofs.Common.{◌≡◌, drop}
use Rattle.commands.specs.Verdict.{is_among}
use Rattle.commands.proofs.hosting.is_among.Given as goal

-- it depends on the ids that are left
abbrev pub invariant-loop-other : goal.invariant-loop-other
invariant-loop-other l = is_among l.id l.ids ≡ is_among l.id (drop l.other-index l.ids)
