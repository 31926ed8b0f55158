use Rattle.std.proofs.Common.{arith}
use Rattle.reflector_core.proofs.session.Session.last_number.Goals as goal

pub returns-clause-number : goal.returns-clause-number
returns-clause-number c = rw (← c.self.view_is) (c.last.ensures.number c.self.inside.log.entries c.self.invariant.noted)

pub returns-clause-bound : goal.returns-clause-bound
returns-clause-bound c = omega (arith, c.last.ensures.bound c.self.inside.log.entries c.self.invariant.noted, c.len-len.ensures.len, c.len-len.ensures.bound)
