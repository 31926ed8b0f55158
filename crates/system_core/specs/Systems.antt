-- A system as contracts see it, and what a step makes of it.
use Rattle.std.specs.Prelude.{◌≡◌, ℕ, Bool, true, false, ⊤, List, Option, Some, None, Result, Ok, Err}
use Rattle.std.specs.Arc.{arc_value}
use Rattle.model_solved.specs.Founding.{CheckedView, founding_of}
use Rattle.world_plain.specs.Messages.{PlainOutgoing}
use Rattle.world_plain.specs.World.{WorldRecord}
use Rattle.replica_plain.specs.Worlds.{Worlds}
use Rattle.replica.specs.RealWorlds.{worlds}
use Rattle.replica.specs.View.{ReplicaView}
use Rattle.system_plain.specs.System.{Client, System, first_system, view_client}
use Rattle.system_plain.specs.Steps.{SystemStep, after_step}
use Rattle.system_plain.specs.Schedule.{IsTypedStep, SpellsWorld, run_schedule}
use Rattle.system_core.specs.declared.parts.Parts.{Parts}
use Rattle.system_core.specs.declared.step.StepFault.{StepFault}
use Rattle.system_core.specs.declared.step.StepFault.TheVariants.{Spoilt, WantOfMemory}
use Rattle.system_core.specs.Parts.{plain_system}

-- of which program and session it is; what it holds, which is not known of a spoilt one
pub record SystemView : Type 0 where
  pub program : CheckedView
  pub id : List ℕ
  pub plain : System WorldRecord PlainOutgoing
  pub spoilt : Bool

-- the worlds of its program and its session
abbrev pub system_worlds : SystemView → Worlds WorldRecord PlainOutgoing
system_worlds s = worlds (founding_of s.program) s.id

abbrev pub system_view : Parts → Bool → SystemView
system_view p spoilt = record { program = arc_value p.program; id = p.id.0; plain = plain_system p; spoilt = spoilt }

-- an empty session, without a view and without a connection
abbrev pub first_view : CheckedView → List ℕ → SystemView
first_view program id = record { program = program; id = id; plain = first_system; spoilt = false }

-- the system after these steps
abbrev pub after_steps : SystemView → List SystemStep → SystemView
after_steps s steps = record s { plain = run_schedule (system_worlds s) s.plain steps }

-- The step is taken as the table has it. A snapshot that it puts in flight spells the world that it was made of.
pub record IsStep (old new : SystemView) (step : SystemStep) : Type 0 where
  pub plain : new ≡ record old { plain = after_step (system_worlds old) old.plain step }
  pub typed : IsTypedStep step
  pub spelled : SpellsWorld (system_worlds old) old.plain step

-- want of memory spoils the system, and a spoilt one takes no step
abbrev pub Steps : Result ⊤ StepFault → SystemView → SystemView → SystemStep → Type 0
Steps (Ok done) old new step = (old.spoilt ≡ false) × IsStep old new step
Steps (Err Spoilt) old new step = (old.spoilt ≡ true) × (new ≡ old)
Steps (Err WantOfMemory) old new step = (old.spoilt ≡ false) × (new.spoilt ≡ true)

-- the replica of a view, if it has one; a spoilt system shows none
abbrev pub IsReplicaOf : Option ReplicaView → SystemView → ℕ → Type 0
IsReplicaOf None s view = s.spoilt ≡ false → view_client s.plain.clients view ≡ None
IsReplicaOf (Some r) s view =
    (client : Client WorldRecord PlainOutgoing)
    × (s.spoilt ≡ false)
    × (view_client s.plain.clients view ≡ Some client)
    × (r ≡ record { program = s.program; id = s.id; plain = client.replica })
