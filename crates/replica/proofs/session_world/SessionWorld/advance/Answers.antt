use Rattle.std.proofs.Common.{subst, nat_lt}
use Rattle.std.specs.Arc.{arc_value}
use Rattle.replica.specs.SessionWorlds.{SessionWorldView, GoesOn, own_worlds, session_view}
use Rattle.replica.proofs.OwnWorlds.{advance-keeps, advance-goes}
use Rattle.replica.proofs.session_world.SessionWorld.advance.Goals as goal

pub invariant_of-self : goal.invariant_of-self
invariant_of-self c = advance-keeps c.advance.result (arc_value c.self.inside.program) c.self.inside.id.0 c.self.inside.world c.advance.new.self c.args.time c.advance.ensures.moves c.self.invariant

pub returns : goal.returns
returns c =
    let t = c.args.time in
    subst (λ (w : SessionWorldView). GoesOn c.advance.result w (session_view c.self.inside.id.0 c.advance.new.self) (nat_lt t w.world.time) ((own_worlds w).advance w.world t) ((own_worlds w).advance_out w.world t w.out)) c.self.view_is
    (advance-goes c.advance.result c.self.inside.id.0 c.self.inside.world c.advance.new.self t c.advance.ensures.moves)
