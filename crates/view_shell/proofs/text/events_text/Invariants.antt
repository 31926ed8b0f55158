use Rattle.std.proofs.Common.{◌≡◌, ◌++◌, drop, map, string_bytes}
use Rattle.world_plain.specs.Messages.{plain_outgoing}
use Rattle.view_shell.specs.ViewText.{events_text}
use Rattle.view_shell.proofs.text.events_text.Given as goal

-- the lines so far, and those of the events that are left
abbrev pub invariant-loop-event : goal.invariant-loop-event
invariant-loop-event l = string_bytes l.text ++ events_text (map plain_outgoing (drop l.event-index l.event-items)) ≡ events_text (map plain_outgoing l.event-items)
