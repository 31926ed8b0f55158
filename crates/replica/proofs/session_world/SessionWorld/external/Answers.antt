use Rattle.std.proofs.Common.{subst, nat_le}
use Rattle.std.specs.Arc.{arc_value}
use Rattle.replica.specs.SessionWorlds.{SessionWorldView, GoesOn, own_worlds, session_view}
use Rattle.replica.proofs.OwnWorlds.{external-keeps, external-goes}
use Rattle.replica.proofs.session_world.SessionWorld.external.Goals as goal

pub invariant_of-self : goal.invariant_of-self
invariant_of-self c = external-keeps c.external.result (arc_value c.self.inside.program) c.self.inside.id.0 c.self.inside.world c.external.new.self c.args.entry.now c.external.ensures.moves c.self.invariant

pub returns : goal.returns
returns c =
    let entry = c.args.entry.now in
    subst (λ (w : SessionWorldView). GoesOn c.external.result w (session_view c.self.inside.id.0 c.external.new.self) (nat_le entry.time w.world.time) ((own_worlds w).external w.world entry) ((own_worlds w).external_out w.world entry w.out)) c.self.view_is
    (external-goes c.external.result c.self.inside.id.0 c.self.inside.world c.external.new.self entry c.external.ensures.moves)
