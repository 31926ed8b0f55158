use Rattle.std.proofs.Common.{◌+◌, refl, sym, ap, ◌∙◌, arith}
use Rattle.reflector_core.specs.declared.session.going_back.Mark.{Mark}
use Rattle.session_lock.proofs.KeepingLaws.{goes_lost, goes_now, goes_safe, goes_unsafe}
use Rattle.session_lock.proofs.held.KeptSession.place.Goals as goal

pub returns-then-self-clause-tried : goal.returns-then-self-clause-tried
returns-then-self-clause-tried g c = λ first opening history pending lost item asked. goes_lost g.K.Keeper.holds g.K.Keeper.writes g.K.Keeper.settled g.K.Keeper.shut g.K.Keeper.faults first opening history pending lost item c.args.self.now _ asked c.if-self.true refl

pub returns-then-not-is_settled-clause-tried : goal.returns-then-not-is_settled-clause-tried
returns-then-not-is_settled-clause-tried g c = λ first opening history pending lost item asked. goes_unsafe g.K.Keeper.holds g.K.Keeper.writes g.K.Keeper.settled g.K.Keeper.shut g.K.Keeper.faults first opening history pending lost item c.args.self.now _ asked c.if-self.false (sym c.is_settled.ensures.is ∙ c.if-not-is_settled.true) refl

pub returns-then-self-place-clause-tried : goal.returns-then-self-place-clause-tried
returns-then-self-place-clause-tried g c = λ first opening history pending lost item asked. goes_safe g.K.Keeper.holds g.K.Keeper.writes g.K.Keeper.settled g.K.Keeper.shut g.K.Keeper.faults first opening history pending lost item c.args.self.now _ asked c.if-self.false (c.is_settled.ensures.all c.if-not-is_settled.false) (c.is_settled.ensures.open c.if-not-is_settled.false)
    (ap (λ (m : Mark). record c.args.self.now { asked = c.args.self.now.asked + 1; safe = c.args.self.now.asked + 1; mark = m }) c.mark-self.ensures.mark)

pub returns-clause-tried : goal.returns-clause-tried
returns-clause-tried g c = λ first opening history pending lost item asked. goes_now g.K.Keeper.holds g.K.Keeper.writes g.K.Keeper.settled g.K.Keeper.shut g.K.Keeper.faults first opening history pending lost item c.args.self.now _ asked c.if-self.false (c.is_settled.ensures.all c.if-not-is_settled.false) (c.is_settled.ensures.open c.if-not-is_settled.false) (omega (arith, c.if-self-place.false))
    (ap (λ (m : Mark). record c.args.self.now { asked = c.args.self.now.asked + 1; safe = c.args.self.now.asked + 1; mark = m; done = c.args.self.now.done + 1 }) c.mark-self.ensures.mark)
