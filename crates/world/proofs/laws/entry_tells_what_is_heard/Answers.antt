use Rattle.world.proofs.TurnLaws.{entry-tells}
use Rattle.world.proofs.laws.entry_tells_what_is_heard.Goals as goal

pub returns : goal.returns
returns c = λ program what view s. entry-tells program view s what
