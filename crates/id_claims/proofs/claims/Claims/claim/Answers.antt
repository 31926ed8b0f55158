use Rattle.id_claims.proofs.Contracts.{claimed, idle_again, in_hand, may_give}
use Rattle.id_claims.proofs.claims.Claims.claim.Goals as goal

pub work-place-requires-clause-hand : goal.work-place-requires-clause-hand
work-place-requires-clause-hand g c = in_hand c.pass.inside.seat.me c.take.new.seat.me c.take.ensures.taken

pub give_back-requires-clause-may : goal.give_back-requires-clause-may
give_back-requires-clause-may g c = may_give c.pass.inside.seat.me c.take.new.seat.me c.work-place.new.seat.me c.args.id.now c.work-place.result c.take.ensures.taken c.work-place.ensures.worked

pub invariant_of-pass : goal.invariant_of-pass
invariant_of-pass g c =
    idle_again c.pass.inside.seat.me c.take.new.seat.me c.work-place.new.seat.me c.give_back.new.seat.me c.args.id.now c.work-place.result c.take.ensures.taken c.work-place.ensures.worked c.give_back.ensures.given c.pass.invariant

pub returns : goal.returns
returns g c =
    claimed c.pass.inside.seat.me c.take.new.seat.me c.work-place.new.seat.me c.give_back.new.seat.me c.args.id.now c.work-place.result c.take.ensures.taken c.work-place.ensures.worked c.give_back.ensures.given c.pass.inside.seat.table_id c.give_back.new.seat.table_id c.args.pass.now c.pass.view_is
    (cc (c.give_back.ensures.table, c.requires, c.pass.view_is))
