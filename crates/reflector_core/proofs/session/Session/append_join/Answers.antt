use Rattle.reflector_core.specs.Kept.{plain_session}
use Rattle.reflector_core.proofs.SessionLaws.{join_may_follow, join_is_sound}
use Rattle.reflector_core.proofs.session.Session.append_join.Goals as goal

pub append-requires-clause-follows : goal.append-requires-clause-follows
append-requires-clause-follows g c =
    let asked = rw (← c.self.view_is) at c.requires in
    rw (← c.self.view_is) (join_may_follow (plain_session c.self.inside) c.args.now c.args.view c.self.invariant.sound c.ranges.view.fits asked.named asked.room asked.unfilled asked.before_end)

pub append-requires-clause-sound : goal.append-requires-clause-sound
append-requires-clause-sound g c =
    let asked = rw (← c.self.view_is) at c.requires in
    let may = join_may_follow (plain_session c.self.inside) c.args.now c.args.view c.self.invariant.sound c.ranges.view.fits asked.named asked.room asked.unfilled asked.before_end in
    rw (← c.self.view_is) (join_is_sound (plain_session c.self.inside) c.args.now c.args.view c.self.invariant.sound may asked.before_end)
