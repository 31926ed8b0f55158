use Rattle.std.proofs.Common.{subst, List, ℕ}
use Rattle.command_hub.specs.HubScript.{hub_script_of}
use Rattle.commands.specs.Verdict.{Free, OfHubScript, OfLog, Only, votes_verdict}
use Rattle.commands.proofs.work.Waiting.take.Goals as goal

pub returns-in-Votes-clause-leads : goal.returns-in-Votes-clause-leads
returns-in-Votes-clause-leads c verdict comes =
    rw c.in-Votes.is
    (subst (λ (bytes : List ℕ). Free (OfLog (λ source. Only (votes_verdict source.stored.log)) bytes) verdict) c.bytes-in-Votes-2.ensures (c.votes.ensures.leads verdict comes))

pub returns-in-Hub-clause-leads : goal.returns-in-Hub-clause-leads
returns-in-Hub-clause-leads c verdict comes =
    rw c.in-Hub.is
    (subst (λ (bytes : List ℕ). Free (OfHubScript c.in-Hub.logs (hub_script_of bytes)) verdict) c.bytes-in-Hub-2.ensures (c.hub.ensures.leads verdict comes))
