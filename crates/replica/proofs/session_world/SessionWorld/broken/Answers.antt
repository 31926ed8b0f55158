use Rattle.std.proofs.Common.{subst}
use Rattle.std.specs.Arc.{arc_value}
use Rattle.replica.specs.SessionWorlds.{IsSoundSessionWorld}
use Rattle.replica.proofs.OwnWorlds.{sound-seen}
use Rattle.replica.proofs.session_world.SessionWorld.broken.Goals as goal

pub returns-clause-sound : goal.returns-clause-sound
returns-clause-sound c = subst IsSoundSessionWorld c.self.view_is (sound-seen (arc_value c.self.inside.program) c.self.inside.id.0 c.self.inside.world c.self.invariant c.broken.ensures.sound)
