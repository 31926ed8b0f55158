-- What contracts see of the world that a replica has.
use Rattle.std.specs.Prelude.{◌≡◌, ◌≤◌, ℕ, Bool, true, false, List, [], length, Option, Some, None, Result, Ok, Err, ⊤}
use Rattle.tea_base.specs.Limits.{most_snapshot}
use Rattle.model_solved.specs.Founding.{CheckedView, checked_tree, founding_of, IsFounding}
use Rattle.world_plain.specs.Messages.{PlainOutgoing}
use Rattle.world_plain.specs.World.{WorldRecord, world_record}
use Rattle.world_plain.specs.declared.world.PlainWorld.{PlainWorld}
use Rattle.world.specs.declared.fault.WorldFault.{WorldFault}
use Rattle.world.specs.declared.fault.WorldFault.TheVariants as fault
use Rattle.world.specs.View.{WorldView}
use Rattle.world.specs.Worlds.{field_counts}
use Rattle.snapshot_codec.specs.Answer.{IsSnapshot}
use Rattle.replica_plain.specs.Worlds.{Worlds}
use Rattle.replica.specs.RealWorlds.{worlds}

-- a world of a program and a session, and what its models published and was not taken out
pub record SessionWorldView : Type 0 where
  pub program : CheckedView
  pub id : List ℕ
  pub world : WorldRecord
  pub out : List PlainOutgoing
  pub broken : Bool

-- the worlds of its program and its session
abbrev pub own_worlds : SessionWorldView → Worlds WorldRecord PlainOutgoing
own_worlds w = worlds (founding_of w.program) w.id

-- what a broken world holds is not known, so it counts as the first one
abbrev pub unless_broken : WorldRecord → Bool → WorldRecord → WorldRecord
unless_broken first true w = first
unless_broken first false w = w

abbrev pub session_view : List ℕ → WorldView → SessionWorldView
session_view id w =
    record {
      program = w.program;
      id = id;
      world = unless_broken (worlds (founding_of w.program) id).first w.broken w.scene.world;
      out = w.scene.published;
      broken = w.broken;
    }

-- what is so of the parts: one program, from which a session can be founded, and one session
pub record IsOfSession (program : CheckedView) (id : List ℕ) (w : WorldView) : Type 0 where
  pub same : program ≡ w.program
  pub founded : IsFounding (founding_of w.program)
  pub session : w.broken ≡ false → w.scene.world.id ≡ id

-- what is so of every one: a session can be founded from its program; its world is valid where it is not broken, and nothing is published
-- where it is
pub record IsSoundSessionWorld (w : SessionWorldView) : Type 0 where
  pub program : IsFounding (founding_of w.program)
  pub valid : w.broken ≡ false → (own_worlds w).valid w.world ≡ true
  pub quiet : w.broken ≡ true → w.out ≡ []

-- ---- calls

abbrev pub first_world : CheckedView → List ℕ → SessionWorldView
first_world program id =
    let m = worlds (founding_of program) id in
    record { program = program; id = id; world = m.first; out = m.first_out; broken = false }

-- memory was wanted while it went on
abbrev pub broken_world : SessionWorldView → SessionWorldView
broken_world w = record w { world = (own_worlds w).first; out = []; broken = true }

-- a world on which nothing was published yet
abbrev pub quiet_world : SessionWorldView → WorldRecord → SessionWorldView
quiet_world w world = record w { world = world; out = []; broken = false }

-- a call that moves a world on to another one, where it would go back or not
abbrev pub GoesOn : Result ⊤ WorldFault → SessionWorldView → SessionWorldView → Bool → WorldRecord → List PlainOutgoing
    → Type 0
GoesOn (Ok done) old new back world out =
    (old.broken ≡ false) × (back ≡ false) × (new ≡ record old { world = world; out = out })
GoesOn (Err fault.Broken) old new back world out = (old.broken ≡ true) × (new ≡ old)
GoesOn (Err (fault.Back time)) old new back world out = (old.broken ≡ false) × (back ≡ true) × (time ≡ old.world.time)
    × (new ≡ old)
GoesOn (Err fault.WantOfMemory) old new back world out =
    (old.broken ≡ false) × (back ≡ false) × (new ≡ broken_world old)

-- the world that bytes spell, if they spell one
abbrev pub IsFound : Option SessionWorldView → SessionWorldView → Option WorldRecord → Type 0
IsFound None w read = read ≡ None
IsFound (Some found) w read = (read ≡ Some found.world) × (found ≡ quiet_world w found.world)

-- a copy of a world that is not broken, as plain data
abbrev pub CopiesWorld : Result PlainWorld WorldFault → SessionWorldView → Type 0
CopiesWorld (Ok plain) w = (w.broken ≡ false) × (world_record plain ≡ w.world)
CopiesWorld (Err fault.Broken) w = w.broken ≡ true
CopiesWorld (Err (fault.Back time)) w = ⊥
CopiesWorld (Err fault.WantOfMemory) w = w.broken ≡ false

-- the snapshot of a world that is not broken, which is read as that world, and has no more bytes than a snapshot may have
abbrev pub Snaps : Result (List ℕ) WorldFault → SessionWorldView → Type 0
Snaps (Ok bytes) w =
    (w.broken ≡ false)
    × (bytes ≡ (own_worlds w).snapshot w.world)
    × IsSnapshot (field_counts (checked_tree w.program)) w.id bytes w.world
    × ((own_worlds w).unsnap bytes ≡ Some w.world)
    × (length bytes ≤ most_snapshot)
Snaps (Err fault.Broken) w = w.broken ≡ true
Snaps (Err (fault.Back time)) w = ⊥
Snaps (Err fault.WantOfMemory) w = w.broken ≡ false
