use Rattle.command_stamp.proofs.EventLaws.{events_told}
use Rattle.commands.proofs.laws.logs_tell_their_events.Goals as goal

pub returns : goal.returns
returns c = events_told
