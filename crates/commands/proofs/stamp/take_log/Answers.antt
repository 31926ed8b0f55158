use Rattle.reflector_core.specs.Stored.{session_of}
use Rattle.commands.specs.Verdict.{Only, stamp_verdict}
use Rattle.commands.specs.Work.{plain_source}
use Rattle.commands.proofs.LogLaws.{log_comes}
use Rattle.commands.proofs.stamp.take_log.Goals as goal

pub returns-in-Ok-clause-leads : goal.returns-in-Ok-clause-leads
returns-in-Ok-clause-leads c verdict comes =
    log_comes (λ source. Only (stamp_verdict (session_of source.stored) c.args.wait.log c.args.wait.requests)) c.args.bytes.now (plain_source c.in-Ok.source) verdict c.in-Ok.ensures.read
    (c.resume.ensures.leads verdict comes)
