use Rattle.std.proofs.Common.{Err, ap, inr}
use Rattle.commands.specs.Verdict.{Only, votes_verdict}
use Rattle.commands.specs.Work.{plain_source}
use Rattle.commands.proofs.LogLaws.{log_comes}
use Rattle.commands.proofs.votes.votes.Goals as goal

pub returns-in-Ok-clause-leads : goal.returns-in-Ok-clause-leads
returns-in-Ok-clause-leads c verdict comes =
    log_comes (λ source. Only (votes_verdict source.stored.log)) c.args.bytes.now (plain_source c.in-Ok.source) verdict c.in-Ok.ensures.read (c.count.ensures.leads verdict comes)

pub returns-in-Err-BadLog-clause-leads : goal.returns-in-Err-BadLog-clause-leads
returns-in-Err-BadLog-clause-leads c verdict comes = inr (inr (c.in-Err-BadLog.ensures.bad (ap Err c.in-Err-BadLog.field-0-is), comes))
