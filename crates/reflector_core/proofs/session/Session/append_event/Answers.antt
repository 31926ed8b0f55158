use Rattle.reflector_core.specs.Kept.{plain_session}
use Rattle.reflector_core.proofs.SessionLaws.{event_may_follow, event_is_sound}
use Rattle.reflector_core.proofs.session.Session.append_event.Goals as goal

pub append-requires-clause-follows : goal.append-requires-clause-follows
append-requires-clause-follows g c =
    let asked = rw (← c.self.view_is) at c.requires in
    rw (← c.self.view_is)
    (event_may_follow (plain_session c.self.inside) c.args.now c.args.view c.args.number c.args.payload.now c.self.invariant.sound c.ranges.view.fits asked.here asked.next asked.short asked.fits asked.unfilled asked.before_end)

pub append-requires-clause-sound : goal.append-requires-clause-sound
append-requires-clause-sound g c =
    let asked = rw (← c.self.view_is) at c.requires in
    let may = event_may_follow (plain_session c.self.inside) c.args.now c.args.view c.args.number c.args.payload.now c.self.invariant.sound c.ranges.view.fits asked.here asked.next asked.short asked.fits asked.unfilled asked.before_end in
    rw (← c.self.view_is) (event_is_sound (plain_session c.self.inside) c.args.now c.args.view c.args.number c.args.payload.now c.self.invariant.sound may asked.before_end)
