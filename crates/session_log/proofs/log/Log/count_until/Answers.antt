use Rattle.tea_base.proofs.LogLaws.{TimesRise-legal}
use Rattle.session_log.proofs.TimeLaws.{heads_rise}
use Rattle.session_log.proofs.log.Log.count_until.Goals as goal

pub count_until-requires-clause-rising : goal.count_until-requires-clause-rising
count_until-requires-clause-rising c =
    let fields = c.self.inside in
    rw c.deref.ensures.value (heads_rise fields.payloads.bytes fields.heads.items 0 (TimesRise-legal _ c.self.invariant.kept.legal))
