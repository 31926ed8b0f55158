use Rattle.std.proofs.Common.{arith}
use Rattle.reflector_core.proofs.GoingBackLaws.{stood_next}
use Rattle.reflector_core.proofs.session.going_back.stand_after.Goals as goal

pub returns : goal.returns
returns c =
    stood_next c.args.log.now.entries c.args.seq c.view_of-at.result c.args.view c.kind_of.result c.noted_kind-kind.result c.args.stand c.after_one.result c.len-len.ensures.legal (omega (arith, c.len-len.ensures.len, c.len-len.ensures.bound))
    c.requires.named c.requires.there c.requires.stood c.view_of-at.ensures c.kind_of.ensures c.noted_kind-kind.ensures c.after_one.ensures
