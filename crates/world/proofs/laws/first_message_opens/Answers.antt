use Rattle.world.proofs.TurnLaws.{first-opens}
use Rattle.world.proofs.laws.first_message_opens.Goals as goal

pub returns : goal.returns
returns c = λ founding id. first-opens founding id
