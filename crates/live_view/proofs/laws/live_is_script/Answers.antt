use Rattle.live_view.proofs.Scripts.{live_is_script}
use Rattle.live_view.proofs.laws.live_is_script.Goals as goal

pub returns : goal.returns
returns c = live_is_script
