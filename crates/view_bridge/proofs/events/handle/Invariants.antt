use Rattle.std.proofs.Common.{◌≡◌, ◌++◌, map, length}
use Rattle.world_plain.specs.Messages.{plain_outgoing}
use Rattle.view_bridge.specs.Topics.{handled_events}
use Rattle.view_bridge.proofs.events.handle.Given as goal

-- the events that were handled so far, and those of what is left
abbrev pub invariant-loop-outgoing : goal.invariant-loop-outgoing
invariant-loop-outgoing l =
    map plain_outgoing l.handled.items ++ handled_events l.topics (map plain_outgoing l.later.items) ≡ handled_events l.topics (map plain_outgoing l.fn.events)

abbrev pub decreases-loop-outgoing : goal.decreases-loop-outgoing
decreases-loop-outgoing l = length l.later.items
