-- Which snapshots a view offers.
use Rattle.std.specs.Prelude.{◌≡◌, ◌<◌, ℕ, List, [], ◌∷◌, Some}
use Rattle.tea_base.specs.declared.entry.Entry.{Entry}
use Rattle.tea_base.specs.Limits.{time_limit}
use Rattle.wire_frames.specs.Spelling.{client_spelling}
use Rattle.wire_frames.specs.declared.frame.ClientFrame.TheVariants as client
use Rattle.world_plain.specs.Messages.{PlainOutgoing}
use Rattle.world_plain.specs.World.{WorldRecord}
use Rattle.replica_plain.specs.Worlds.{Worlds}
use Rattle.replica_plain.specs.PlainReplica.{PlainReplica}
use Rattle.replica_plain.specs.Following.{FollowsLog}
use Rattle.run_steps.specs.Steps.{Step, Sends}

-- the snapshot, and the time, of a replica that follows the log; it is read again as that replica's world
pub record IsOfFollower (m : Worlds WorldRecord PlainOutgoing) (log : List Entry) (time : ℕ)
    (bytes : List ℕ) : Type 0 where
  pub replica : PlainReplica WorldRecord PlainOutgoing
  pub follows : FollowsLog m log replica
  pub timed : time ≡ m.time replica.world
  pub spelled : bytes ≡ m.snapshot replica.world
  pub again : m.unsnap bytes ≡ Some replica.world

-- each SNAP that was sent is one
abbrev pub OffersFollow : Worlds WorldRecord PlainOutgoing → List Entry → List Step → Type 0
OffersFollow m log [] = Unit {0}
OffersFollow m log (Sends sent ∷ rest) =
    ((time : ℕ) (bytes : List ℕ) → time < time_limit → sent ≡ client_spelling (client.Snap time bytes)
    → IsOfFollower m log time bytes) × OffersFollow m log rest
OffersFollow m log (step ∷ rest) = OffersFollow m log rest
