use Rattle.reflector_core.proofs.session.Session.seq_of.Goals as goal

pub returns : goal.returns
returns c = rw (← c.self.view_is) (c.seq_of.ensures c.self.inside.log.entries c.self.invariant.noted)
