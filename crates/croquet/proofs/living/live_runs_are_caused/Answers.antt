use Rattle.commands.specs.Verdict.{Comes}
use Rattle.croquet.proofs.LiveCauses.{live_caused}
use Rattle.croquet.proofs.living.live_runs_are_caused.Goals as goal

pub returns : goal.returns
returns g c = λ command old new k k' result ran.
    live_caused c.live_ends_are_caused.ensures.ended c.live_ends_are_caused.ensures.refused c.live_ends_are_caused.ensures.failed c.live_ends_are_caused.ensures.peer c.live_ends_are_caused.ensures.answered c.live_ends_are_caused.ensures.replays _ _ _ _ _ (Comes command) old new k k' result ran
