use Rattle.reflector_core.proofs.session.Session.next_here.Goals as goal

pub returns-in-None : goal.returns-in-None
returns-in-None c = rw (← c.self.view_is) c.in-None.ensures

pub returns-in-Some : goal.returns-in-Some
returns-in-Some c = rw (c.current.ensures, ← c.self.view_is) c.in-Some.ensures
