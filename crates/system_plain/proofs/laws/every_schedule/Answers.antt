use Rattle.system_plain.proofs.Promises.{acknowledged_after, events_after, follows_after, honest_after, no_differs_after, no_surprise_after, replays_after, snapshots_after, sound_after}
use Rattle.system_plain.proofs.laws.every_schedule.Goals as goal

pub returns : goal.returns
returns g c = record {
  legal_log = λ m steps is. (sound_after m steps is).legal;
  replicas_follow = follows_after;
  replicas_replay = replays_after;
  equal_snapshots = snapshots_after;
  kept_is_honest = honest_after;
  events_once = events_after;
  acknowledged = acknowledged_after;
  no_surprise = no_surprise_after;
  no_differs = no_differs_after;
  sound = sound_after;
}
