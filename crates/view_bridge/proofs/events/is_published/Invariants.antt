use Rattle.std.proofs.Common.{◌≡◌, map, drop}
use Rattle.world_plain.specs.Messages.{plain_outgoing}
use Rattle.view_bridge.specs.Topics.{is_published}
use Rattle.view_bridge.proofs.events.is_published.Given as goal

-- none was found so far
abbrev pub invariant-loop-i : goal.invariant-loop-i
invariant-loop-i l = is_published l.scope l.event (map plain_outgoing (drop l.i l.events.items)) ≡ is_published l.scope l.event (map plain_outgoing l.events.items)
