use Rattle.std.proofs.Common.{◌≤◌, length, vec_capacity}
use Rattle.host_posts.proofs.SplitLaws.{SplitSoFar}
use Rattle.host_posts.proofs.splitting.split_passes.Given as goal

abbrev pub invariant-loop-place : goal.invariant-loop-place
invariant-loop-place g l = SplitSoFar l.place l.initial.leads l.leads l.seats.items × (length l.rooms ≤ vec_capacity l.seats)
