use Rattle.reflector_core.proofs.session.Session.is_here.Goals as goal

pub returns : goal.returns
returns c = rw (← c.self.view_is) (c.here.ensures c.self.inside.log.entries c.self.invariant.noted)
