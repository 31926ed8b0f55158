use Rattle.std.proofs.Common.{◌≡◌, take}
use Rattle.world_plain.proofs.copies.copy_known_names.Given as goal

abbrev pub invariant-loop-one : goal.invariant-loop-one
invariant-loop-one l = l.copies.items ≡ take l.one-index l.known
