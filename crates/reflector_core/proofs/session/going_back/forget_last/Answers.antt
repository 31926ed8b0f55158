use Rattle.std.proofs.Common.{arith}
use Rattle.reflector_core.proofs.GoingBackLaws.{noted_less}
use Rattle.reflector_core.proofs.session.going_back.forget_last.Goals as goal

pub returns-clause-noted : goal.returns-clause-noted
returns-clause-noted c =
    noted_less c.args.log.now.entries c.pop-view.new.self.entries c.len-seq.result c.pop-view.result.0 c.pop-view.result.1 c.noted_kind.result c.stand_in-stand.result c.args.resend.now _ c.len-seq.ensures.legal (omega (arith, c.len-seq.ensures.len, c.len-seq.ensures.bound))
    c.pop-view.ensures.popped c.len-seq.ensures.len c.noted_kind.ensures c.stand_in-stand.ensures c.forget.ensures.noted c.requires.noted
