use Rattle.store_io.proofs.Tearing.{safe_is_left}
use Rattle.store_io.proofs.laws.a_kill_leaves_what_is_safe.Goals as goal

pub returns : goal.returns
returns c = safe_is_left
