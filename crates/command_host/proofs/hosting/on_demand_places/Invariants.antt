use Rattle.std.proofs.Common.{◌≡◌, ◌≤◌, ◌+◌, length, take}
use Rattle.command_host.specs.Hosting.{log_names, on_demand_names}
use Rattle.command_host.proofs.hosting.on_demand_places.Given as goal

-- the places so far, and there is a room for each id that is left
abbrev pub invariant-loop-id : goal.invariant-loop-id
invariant-loop-id l = (log_names l.places ≡ on_demand_names l.prefix (take l.id-index l.ids)) × (length l.ids ≤ length l.rooms.items + l.id-index)
