use Rattle.std.proofs.Common.{sym, subst, arith}
use Rattle.id_claims.specs.Steps.{IsIdle}
use Rattle.id_claims.proofs.Taking.{takes_list}
use Rattle.id_claims.proofs.claims.Claims.take.Goals as goal

pub compare_exchange-requires : goal.compare_exchange-requires
compare_exchange-requires g c = (
  cc (c.loop.invariant.0, c.requires.table, c.self.view_is),
  omega (arith, c.self.invariant.0),
  takes_list c.self.inside.table.shared.key.value _ c.loop.seat.id c.loop.seat.me (subst IsIdle (sym c.loop.invariant.1) c.requires.idle),
)
