use Rattle.growth_runs.proofs.Pulled.{pulled_batch}
use Rattle.growth_runs.proofs.session_run.pull_once.Goals as goal

pub returns : goal.returns
returns g = pulled_batch _ _ _ g.horizon.ensures.sound g.call.ensures.ok
