use Rattle.std.proofs.Common.{◌≡◌, drop}
use Rattle.view_bridge.specs.Topics.{handling_of}
use Rattle.view_bridge.proofs.events.handling_of.Given as goal

-- none was found so far
abbrev pub invariant-loop-topic : goal.invariant-loop-topic
invariant-loop-topic l = handling_of (drop l.topic-index l.topics) l.scope l.event ≡ handling_of l.topics l.scope l.event
