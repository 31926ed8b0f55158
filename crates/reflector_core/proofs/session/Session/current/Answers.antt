use Rattle.reflector_core.proofs.session.Session.current.Goals as goal

pub returns : goal.returns
returns c = rw (← c.self.view_is) (c.current.ensures c.self.inside.log.entries c.self.invariant.noted)
