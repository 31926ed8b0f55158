use Rattle.std.proofs.Common.{sym, subst}
use Rattle.reflector_core.specs.PlainSession.{IsSoundSession}
use Rattle.reflector_core.proofs.GoingBackLaws.{by_log}
use Rattle.reflector_core.proofs.session.Session.go_back.Goals as goal

pub forget_after-requires-clause-noted : goal.forget_after-requires-clause-noted
forget_after-requires-clause-noted c = c.self.invariant.noted

pub forget_after-requires-clause-within : goal.forget_after-requires-clause-within
forget_after-requires-clause-within c = rw (← c.self.view_is) at c.requires.within

pub invariant_of-self : goal.invariant_of-self
invariant_of-self c = record {
  sound = subst IsSoundSession (by_log _ _ c.args.mark.horizon c.self.inside.kept (sym c.forget_after.ensures.entries)) (rw (← c.self.view_is) at c.requires.sound);
  noted = c.forget_after.ensures.noted;
}

pub returns : goal.returns
returns c = rw (← c.self.view_is) (by_log _ _ c.args.mark.horizon c.self.inside.kept c.forget_after.ensures.entries)
