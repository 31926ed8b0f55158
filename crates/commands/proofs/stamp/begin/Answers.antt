use Rattle.std.proofs.Common.{inr}
use Rattle.reflector_core.specs.PlainSession.{PlainSession}
use Rattle.reflector_core.specs.Stored.{session_of}
use Rattle.commands.specs.Verdict.{Coming, Only, stamp_verdict}
use Rattle.commands.proofs.OpeningLaws.{opened_by_file, opened_freely}
use Rattle.commands.proofs.stamp.begin.Goals as goal

pub returns-in-Some-clause-leads : goal.returns-in-Some-clause-leads
returns-in-Some-clause-leads c verdict comes =
    inr (opened_by_file c.args.from c.in-Some.from (λ source. Only (stamp_verdict (session_of source.stored) c.args.log c.args.requests)) verdict c.in-Some.is comes)

pub returns-in-None-clause-leads : goal.returns-in-None-clause-leads
returns-in-None-clause-leads c verdict comes =
    let next : PlainSession → Coming = λ opening. Only (stamp_verdict opening c.args.log c.args.requests) in
    opened_freely c.args.from c.new.result.plain next verdict c.in-None.is c.new.ensures (c.answer.ensures.leads verdict comes)
