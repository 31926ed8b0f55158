use Rattle.reflector_core.proofs.session.Session.here_count.Goals as goal

pub returns : goal.returns
returns c = rw (← c.self.view_is) (c.here_count.ensures c.self.inside.log.entries c.self.invariant.noted)
