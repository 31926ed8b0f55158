use Rattle.host_server.proofs.Quiets.{none_closed}
use Rattle.host_server.proofs.hearing.hear_first.Goals as goal

pub returns-in-Err-clause-heard : goal.returns-in-Err-clause-heard
returns-in-Err-clause-heard g c =
    none_closed _ _ _ c.in-Err.ended c.close.ensures.heard c.close.ensures.sent c.close.ensures.counts c.in-Err.ensures
