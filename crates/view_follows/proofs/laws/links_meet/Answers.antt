use Rattle.view_follows.proofs.Meeting.{links_meet}
use Rattle.view_follows.proofs.laws.links_meet.Goals as goal

pub returns : goal.returns
returns c = links_meet
