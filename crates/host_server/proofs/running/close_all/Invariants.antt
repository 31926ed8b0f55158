use Rattle.std.proofs.Common.{◌+◌, ◌≤◌, vec_len, vec_capacity}
use Rattle.host_server.proofs.ClosingLaws.{ClosedSoFar}
use Rattle.host_server.proofs.running.close_all.Given as goal

abbrev pub invariant-loop-room : goal.invariant-loop-room
invariant-loop-room l = ClosedSoFar l.rooms.items l.leads.items l.fn.leads.items l.sessions.items × (vec_len l.sessions + vec_len l.rooms ≤ vec_capacity l.sessions)

abbrev pub decreases-loop-room : goal.decreases-loop-room
decreases-loop-room l = vec_len l.rooms
