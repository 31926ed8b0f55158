use Rattle.std.proofs.Common.{rules}
use Rattle.std.specs.Arc.{arc_value}
use Rattle.replica.proofs.OwnWorlds.{first-of-session}
use Rattle.replica.proofs.session_world.SessionWorld.first.Goals as goal

pub invariant_of-result : goal.invariant_of-result
invariant_of-result c = first-of-session (arc_value c.args.program) c.args.id.0 c.in_ok-world.world (search rules) (search rules) c.broken-broken.ensures.sound
