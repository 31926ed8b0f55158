use Rattle.commands.specs.Verdict.{OfReflected}
use Rattle.commands.specs.Work.{plain_source}
use Rattle.commands.proofs.LogLaws.{log_comes}
use Rattle.commands.proofs.reflection.take_log.Goals as goal

pub returns-in-Ok-clause-leads : goal.returns-in-Ok-clause-leads
returns-in-Ok-clause-leads c verdict comes =
    log_comes (OfReflected c.args.wait.request c.args.wait.id.0) c.args.bytes.now (plain_source c.in-Ok.source) verdict c.in-Ok.ensures.read (c.reflect_log.ensures.leads verdict comes)
