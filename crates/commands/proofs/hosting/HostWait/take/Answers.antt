use Rattle.std.proofs.Common.{subst, List, ℕ}
use Rattle.host_config.specs.Config.{config_of}
use Rattle.commands.specs.Verdict.{Free, OfConfig}
use Rattle.commands.proofs.hosting.HostWait.take.Goals as goal

pub returns-in-Config-clause-leads : goal.returns-in-Config-clause-leads
returns-in-Config-clause-leads c verdict comes =
    rw c.in-Config.is
    (subst (λ (bytes : List ℕ). Free (OfConfig c.in-Config.request (config_of bytes)) verdict) c.bytes-in-Config.ensures (c.take_config.ensures.leads verdict comes))
