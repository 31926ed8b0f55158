use Rattle.std.proofs.Common.{◌≡◌, take}
use Rattle.std.specs.List.{count_by}
use Rattle.std.specs.Str.{bytes_eq}
use Rattle.drill.proofs.ending.agreeing.Given as goal

-- those among the snapshots so far
abbrev pub invariant-loop-snapshot : goal.invariant-loop-snapshot
invariant-loop-snapshot l = l.agree ≡ count_by (λ snapshot. bytes_eq snapshot l.bytes) (take l.snapshot-index l.snapshots)
