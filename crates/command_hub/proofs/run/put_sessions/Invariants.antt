use Rattle.std.proofs.Common.{◌≡◌, map, take}
use Rattle.command_outcome.specs.Outcome.{numbered_puts}
use Rattle.command_hub.specs.HubRun.{stored_bytes}
use Rattle.command_hub.proofs.run.put_sessions.Given as goal

-- the sessions so far
abbrev pub invariant-loop-place : goal.invariant-loop-place
invariant-loop-place l = l.files ≡ numbered_puts l.prefix 1 (map stored_bytes (take l.place l.hub))
