use Rattle.std.proofs.Common.{◌-◌, drop}
use Rattle.std.specs.Prelude.{◌↔◌}
use Rattle.world_plain.specs.Valid.{KnownRise}
use Rattle.world_plain.proofs.objects.names_rise.Given as goal

abbrev pub invariant-loop-i : goal.invariant-loop-i
invariant-loop-i l = KnownRise l.known ↔ KnownRise (drop (l.i - 1) l.known)
