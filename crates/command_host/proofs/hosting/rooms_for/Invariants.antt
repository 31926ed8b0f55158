use Rattle.std.proofs.Common.{◌≡◌, ◌≤◌, ◌+◌, length}
use Rattle.id_claims.specs.Ids.{most_ids}
use Rattle.command_host.proofs.hosting.rooms_for.Given as goal

-- a room for each place so far
abbrev pub invariant-loop-place : goal.invariant-loop-place
invariant-loop-place l = (l.listed + length l.rooms ≡ l._place) × (l._place ≤ most_ids)
