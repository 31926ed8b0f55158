use Rattle.command_hub.proofs.Calls.{is_of_calls}
use Rattle.command_hub.proofs.laws.names_are_apart.Goals as goal

pub returns : goal.returns
returns c = is_of_calls c.sessions_are_apart.ensures
