-- What is promised of a system after a schedule.
use Rattle.std.specs.Prelude.{◌≡◌, ◌≤◌, ℕ, true, List, Some, All}
use Rattle.model_solved.specs.Founding.{founding_of}
use Rattle.world_plain.specs.Messages.{PlainOutgoing}
use Rattle.world_plain.specs.World.{WorldRecord}
use Rattle.world.specs.Worlds.{replay}
use Rattle.tea_base.specs.Readings.{last_number}
use Rattle.replica_plain.specs.Worlds.{Worlds}
use Rattle.replica_plain.specs.Following.{FollowsLog}
use Rattle.replica.specs.RealWorlds.{is_at_rest}
use Rattle.snapshot_codec.specs.Spelling.{world_spelling}
use Rattle.system_plain.specs.System.{Client, view_client}
use Rattle.system_plain.specs.Steps.{SystemStep}
use Rattle.system_plain.specs.Schedule.{IsExpected, IsNotDiffers, faults_in, replies_in}
use Rattle.system_core.specs.Systems.{SystemView, system_worlds}

-- the client is the one of a view of the system
abbrev pub IsClient : SystemView → ℕ → Client WorldRecord PlainOutgoing → Type 0
IsClient s view client = view_client s.plain.clients view ≡ Some client

-- Every replica follows the log, and has seen the entries of its time. One that is at rest is the replay of the log to its time.
pub record ReplicasFollow (s : SystemView) : Type 0 where
  pub follow : (view : ℕ) (client : Client WorldRecord PlainOutgoing) → IsClient s view client
      → FollowsLog (system_worlds s) s.plain.session.log client.replica
  pub replay : (view : ℕ) (client : Client WorldRecord PlainOutgoing) → IsClient s view client
      → is_at_rest client.replica.world ≡ true
      → client.replica.world ≡ (replay (founding_of s.program) s.id s.plain.session.log client.replica.world.time).world

-- Two replicas of one time that are at rest have equal snapshot bytes.
abbrev pub EqualSnapshots : SystemView → Type 0
EqualSnapshots s =
    (view other : ℕ) (one two : Client WorldRecord PlainOutgoing) → IsClient s view one → IsClient s other two
    → is_at_rest one.replica.world ≡ true → is_at_rest two.replica.world ≡ true
    → one.replica.world.time ≡ two.replica.world.time
    → world_spelling one.replica.world ≡ world_spelling two.replica.world

-- The number that a replica counts as acknowledged is at most that of its view's last event in the log.
abbrev pub AreAcknowledged : SystemView → Type 0
AreAcknowledged s = (view : ℕ) (client : Client WorldRecord PlainOutgoing) → IsClient s view client
    → client.replica.acknowledged ≤ last_number s.plain.session.log view

-- No replica answered a frame that it received by Unasked, OutOfOrder, Back or BadBase, and no SEND was answered Differs.
pub record HaveNoSurprise (m : Worlds WorldRecord PlainOutgoing) (steps : List SystemStep) : Type 0 where
  pub faults : All IsExpected (faults_in m steps)
  pub replies : All IsNotDiffers (replies_in m steps)
