use Rattle.std.proofs.Common.{◌≡◌, take}
use Rattle.command_host.specs.Hosting.{log_names, numbered_names}
use Rattle.command_host.proofs.hosting.log_places.Given as goal

-- the places so far
abbrev pub invariant-loop-place : goal.invariant-loop-place
invariant-loop-place l = log_names l.places ≡ numbered_names l.prefix 1 (take l.place l.ids)
