use Rattle.view_shell.proofs.OneRun.{one_run}
use Rattle.view_shell.proofs.laws.one_run.Goals as goal

pub returns : goal.returns
returns c = one_run
