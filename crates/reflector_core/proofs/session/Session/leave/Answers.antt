use Rattle.std.proofs.Common.{arith, ◌≡◌, true}
use Rattle.tea_base.specs.Readings.{is_here}
use Rattle.reflector_core.specs.Kept.{plain_session}
use Rattle.reflector_core.proofs.SessionLaws.{exit_may_follow, exit_is_sound}
use Rattle.reflector_core.proofs.session.Session.leave.Goals as goal

pub append-requires-clause-follows : goal.append-requires-clause-follows
append-requires-clause-follows g c =
    let stale = rw (← c.self.view_is) at c.is_stale.ensures in
    let here : is_here c.self.inside.log.entries c.args.view ≡ true = grind (arith, stale, c.if-is_stale.false) in
    rw (← c.self.view_is) (exit_may_follow (plain_session c.self.inside) c.args.now c.args.view c.self.invariant.sound c.ranges.view.fits here)

pub append-requires-clause-sound : goal.append-requires-clause-sound
append-requires-clause-sound g c =
    let stale = rw (← c.self.view_is) at c.is_stale.ensures in
    let here : is_here c.self.inside.log.entries c.args.view ≡ true = grind (arith, stale, c.if-is_stale.false) in
    rw (← c.self.view_is) (exit_is_sound (plain_session c.self.inside) c.args.now c.args.view c.self.invariant.sound c.ranges.view.fits here)
