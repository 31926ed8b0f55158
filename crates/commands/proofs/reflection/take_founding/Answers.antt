use Rattle.std.proofs.Common.{inr, Err, ap}
use Rattle.commands.specs.Keeping.{OfFoundingLog}
use Rattle.commands.specs.Work.{plain_keeping, plain_source}
use Rattle.commands.proofs.LogLaws.{log_comes}
use Rattle.commands.proofs.reflection.take_founding.Goals as goal

pub returns-in-Ok-clause-leads : goal.returns-in-Ok-clause-leads
returns-in-Ok-clause-leads c verdict comes =
    log_comes (OfFoundingLog (plain_keeping c.args.wait.keeping)) c.args.bytes.now (plain_source c.in-Ok.source) verdict c.in-Ok.ensures.read (inr (c.found_log.ensures.leads verdict comes))

pub returns-in-Err-BadLog-clause-leads : goal.returns-in-Err-BadLog-clause-leads
returns-in-Err-BadLog-clause-leads c verdict comes = inr (inr (c.in-Err-BadLog.ensures.bad (ap Err c.in-Err-BadLog.field-0-is), comes))
