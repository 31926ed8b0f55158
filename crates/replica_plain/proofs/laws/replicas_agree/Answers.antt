use Rattle.std.proofs.Common.{ap, sym, refl, ◌∙◌}
use Rattle.replica_plain.specs.Worlds.{replay_world}
use Rattle.replica_plain.proofs.FrameSteps.{tick_rests}
use Rattle.replica_plain.proofs.WorldSteps.{rest_is_replay}
use Rattle.replica_plain.proofs.laws.replicas_agree.Goals as goal

pub returns : goal.returns
returns g c = record {
  replays = λ m log r laws follows rests. rest_is_replay m laws log r.world follows.valid follows.follows rests;
  snapshots = λ m log r other laws follows others rests other_rests timed.
      ap m.snapshot (rest_is_replay m laws log r.world follows.valid follows.follows rests ∙ ap (λ t. replay_world m log t) timed ∙ sym (rest_is_replay m laws log other.world others.valid others.follows other_rests));
  rests = λ m r t laws. tick_rests m laws r t;
  honest = λ m log r bytes follows spelled. record { world = r.world; spelled = spelled; timed = refl; follows = follows.follows };
}
