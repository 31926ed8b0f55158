use Rattle.std.proofs.Common.{◌≡◌, false, rules, ◌∙◌, ap, arith, subst}
use Rattle.std.specs.Arc.{arc_value}
use Rattle.replica.specs.SessionWorlds.{SessionWorldView, IsSoundSessionWorld}
use Rattle.replica.proofs.OwnWorlds.{sound-seen, broken-time, own-timely}
use Rattle.replica.proofs.session_world.SessionWorld.time.Goals as goal

pub returns-then-broken-clause-time : goal.returns-then-broken-clause-time
returns-then-broken-clause-time c =
    broken-time (arc_value c.self.inside.program) c.self.inside.id.0 c.self.inside.world c.self.invariant (search rules) ∙ ap (λ (w : SessionWorldView). w.world.time) c.self.view_is

pub returns-clause-sound : goal.returns-clause-sound
returns-clause-sound c = subst IsSoundSessionWorld c.self.view_is (sound-seen (arc_value c.self.inside.program) c.self.inside.id.0 c.self.inside.world c.self.invariant c.broken.ensures.sound)

pub returns-clause-timely : goal.returns-clause-timely
returns-clause-timely c =
    let whole : c.self.inside.world.broken ≡ false = search rules in
    let below = own-timely c.self.inside.world c.broken.ensures.sound whole in
    omega (arith, below, c.time.ensures.time)
