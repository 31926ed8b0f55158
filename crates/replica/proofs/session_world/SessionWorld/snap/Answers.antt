use Rattle.std.proofs.Common.{Ok, subst}
use Rattle.std.specs.Arc.{arc_value}
use Rattle.world_plain.specs.World.{world_record}
use Rattle.replica.specs.SessionWorlds.{SessionWorldView, Snaps}
use Rattle.replica.proofs.OwnWorlds.{snaps-seen}
use Rattle.replica.proofs.session_world.SessionWorld.snap.Goals as goal

pub returns : goal.returns
returns c =
    subst (λ (w : SessionWorldView). Snaps (Ok c.in_ok-snapshot.field-0) w) c.self.view_is
    (snaps-seen (arc_value c.self.inside.program) c.self.inside.id.0 c.in_ok-snapshot.field-0 c.self.inside.world (world_record c.in_ok-plain.plain) c.self.invariant
    c.in_ok-plain.ensures.copy.0 c.in_ok-plain.ensures.copy.1 c.in_ok-plain.ensures.valid c.in_ok-snapshot.ensures.world c.in_ok-snapshot.ensures.spelled c.in_ok-snapshot.ensures.short)
