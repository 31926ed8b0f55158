use Rattle.std.proofs.Common.{◌+◌, refl, ap, arith}
use Rattle.reflector_core.specs.declared.session.going_back.Mark.{Mark}
use Rattle.session_lock.proofs.KeepingLaws.{ended_now, ended_safe, loses, was_lost}
use Rattle.session_lock.proofs.held.KeptSession.settle.Goals as goal

pub returns-then-self : goal.returns-then-self
returns-then-self g c = record {
  settled = λ first opening history pending lost keeps. was_lost g.K.Keeper.holds g.K.Keeper.writes g.K.Keeper.shut g.K.Keeper.faults first opening history pending lost c.args.self.now keeps c.if-self.true;
}

pub returns-then-place-self : goal.returns-then-place-self
returns-then-place-self g c = record {
  settled = λ first opening history pending lost keeps. ended_safe g.K.Keeper.holds g.K.Keeper.writes g.K.Keeper.shut g.K.Keeper.faults first opening history pending lost c.args.self.now keeps _ c.args.place c.if-self.false (omega (arith, c.if-self-place.false)) (omega (arith, c.if-place-self.true)) refl;
}

pub returns-in-Ok : goal.returns-in-Ok
returns-in-Ok g c = record {
  settled = λ first opening history pending lost keeps.
      ended_now g.K.Keeper.holds g.K.Keeper.writes g.K.Keeper.shut g.K.Keeper.faults first opening history pending lost c.args.self.now keeps _ c.args.place c.if-self.false (omega (arith, c.if-self-place.false))
      (ap (λ (m : Mark). record c.args.self.now { keeper = c.settle.new.self; safe = c.args.self.now.asked; mark = m; done = c.args.self.now.done + 1 }) c.mark-self.ensures.mark) c.mark-self.ensures.sound c.in-Ok.ensures.written c.in-Ok.ensures.all c.in-Ok.ensures.cause.kept c.in-Ok.ensures.cause.shuts;
}

pub returns-in-Err : goal.returns-in-Err
returns-in-Err g c = record {
  settled = λ first opening history pending lost keeps.
      loses g.K.Keeper.holds g.K.Keeper.writes g.K.Keeper.shut g.K.Keeper.faults first opening history pending lost c.args.self.now keeps _ c.settle.new.self (omega (arith, c.if-self-place.false, c.if-place-self.false, c.requires.counts.done, c.requires.counts.safe)) c.lose.ensures c.in-Err.ensures.held c.in-Err.ensures.cause.unkept c.in-Err.ensures.cause.shuts;
}

pub lose-requires : goal.lose-requires
lose-requires g c = record { within = c.requires.back.within; sound = c.requires.back.sound }
