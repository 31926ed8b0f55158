use Rattle.std.proofs.Common.{◌≡◌, take, drop}
use Rattle.reflector_core.proofs.session.entries.entries_after.Given as goal

abbrev pub invariant-loop-i : goal.invariant-loop-i
invariant-loop-i l = l.entries ≡ take l.i (drop l.after l.log.entries)
