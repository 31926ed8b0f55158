use Rattle.std.proofs.Common.{◌-◌, map, drop}
use Rattle.std.specs.Prelude.{◌↔◌}
use Rattle.world_plain.specs.Messages.{plain_message}
use Rattle.world_plain.specs.Valid.{AreInOrder}
use Rattle.world_plain.proofs.messages.are_in_order.Given as goal

abbrev pub invariant-loop-i : goal.invariant-loop-i
invariant-loop-i l = AreInOrder (map plain_message l.messages) ↔ AreInOrder (map plain_message (drop (l.i - 1) l.messages))
