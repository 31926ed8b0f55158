use Rattle.std.proofs.Common.{arith}
use Rattle.id_claims.proofs.Taking.{gives_list}
use Rattle.id_claims.proofs.claims.Claims.give_back.Goals as goal

pub store-requires : goal.store-requires
store-requires c = (
  cc (c.requires.table, c.self.view_is),
  omega (arith, c.self.invariant.0),
  gives_list c.self.inside.table.shared.key.value _ c.args.seat.now.id c.args.seat.now.me c.self.invariant.1 c.requires.may,
)
