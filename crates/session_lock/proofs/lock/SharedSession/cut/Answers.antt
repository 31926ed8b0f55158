use Rattle.std.proofs.Common.{◌+◌, ap, arith}
use Rattle.session_lock.specs.Numbers.{count_of}
use Rattle.session_lock.specs.Steps.{M}
use Rattle.session_lock.specs.Keeping.{KeepsHoped}
use Rattle.session_lock.specs.Trusts.{IsTrusted}
use Rattle.session_lock.proofs.StepLaws.{sees_unused}
use Rattle.session_lock.proofs.Shares.{splits}
use Rattle.session_lock.proofs.lock.SharedSession.cut.Goals as goal

pub load-requires : goal.load-requires
load-requires g c = (cc (c.requires.table, c.self.view_is), omega (arith, c.self.invariant.0), sees_unused (IsTrusted g.T.Trust.allows c.self.inside.table.shared.key.1 c.self.inside.table.shared.key.0) (KeepsHoped g.K.Keeper.holds g.K.Keeper.writes g.K.Keeper.shut g.K.Keeper.faults (g.K.Keeper.faults c.self.inside.table.shared.key.2.me.0.keeper)) _ c.args.seat.now.id c.args.seat.now.me)

pub split_seat-requires : goal.split_seat-requires
split_seat-requires g c =
    let same = ap (λ (m : M _). count_of m.0.spare) c.load.ensures.2.0 in (
      cc (c.load.ensures.0, c.requires.table, c.self.view_is),
      omega (arith, c.self.invariant.0),
      splits (g.J.Sharing.spare + 1) c.load.new.seat.me.0 (omega arith) (omega (arith, same, c.requires.enough, c.requires.asked)) (IsTrusted g.T.Trust.allows c.self.inside.table.shared.key.1 c.self.inside.table.shared.key.0) (KeepsHoped g.K.Keeper.holds g.K.Keeper.writes g.K.Keeper.shut g.K.Keeper.faults (g.K.Keeper.faults c.self.inside.table.shared.key.2.me.0.keeper)) c.load.new.seat.id,
    )
