use Rattle.std.proofs.Common.{vec_len}
use Rattle.host_server.proofs.RowLaws.{MergedSoFar}
use Rattle.host_server.proofs.rooms.merge_seats.Given as goal

abbrev pub invariant-loop-pass : goal.invariant-loop-pass
invariant-loop-pass g l = MergedSoFar l.seats.items l.fn.seats.items l.initial.leads l.leads

abbrev pub decreases-loop-pass : goal.decreases-loop-pass
decreases-loop-pass g l = vec_len l.seats
