use Rattle.std.proofs.Common.{◌-◌, ◌^◌}
use Rattle.reflect_server.proofs.OpeningLaws.{HereSoFar}
use Rattle.reflect_server.proofs.opening.views_here.Given as goal

abbrev pub invariant-loop-next : goal.invariant-loop-next
invariant-loop-next l = HereSoFar l.session.plain.log l.above l.views.items

abbrev pub decreases-loop-next : goal.decreases-loop-next
decreases-loop-next l = 2 ^ 32 - l.above
