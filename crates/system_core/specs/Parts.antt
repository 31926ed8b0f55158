-- What is so of the parts of a system that is not spoilt, and what a step makes of them.
use Rattle.std.specs.Prelude.{◌≡◌, ◌≢◌, ℕ, false, List, [], ◌∷◌, ◌++◌, length, map, set, slice_get, Option, Some, None, Result, Err, ⊤}
use Rattle.std.specs.Arc.{arc_value}
use Rattle.std.specs.List.{AllByRecursion}
use Rattle.model_solved.specs.Founding.{CheckedView, founding_of, IsFounding}
use Rattle.world_plain.specs.Messages.{PlainOutgoing}
use Rattle.world_plain.specs.World.{WorldRecord}
use Rattle.replica_plain.specs.Worlds.{Worlds}
use Rattle.replica_plain.specs.Calls.{join_frame, joining}
use Rattle.replica_plain.specs.declared.fault.ReplicaFault.{ReplicaFault}
use Rattle.replica_plain.specs.declared.fault.ReplicaFault.TheVariants.{WantOfMemory}
use Rattle.replica_plain.specs.declared.how.How.{How}
use Rattle.replica.specs.RealWorlds.{worlds}
use Rattle.replica.specs.View.{with_plain}
use Rattle.system_plain.specs.System.{Client, System, close, connecting}
use Rattle.system_plain.specs.Steps.{SystemStep, after_step}
use Rattle.system_plain.specs.Schedule.{IsTypedStep, SpellsWorld}
use Rattle.system_core.specs.declared.member.Member.{Member}
use Rattle.system_core.specs.declared.parts.Parts.{Parts}

-- ---- members

abbrev pub plain_client : Member → Client WorldRecord PlainOutgoing
plain_client m = record { replica = m.replica.plain; newest = m.newest }

abbrev pub member_view : Member → ℕ
member_view m = m.view

-- no view is this one
abbrev pub IsNoneOf : ℕ → List ℕ → Type 0
IsNoneOf view [] = Unit {0}
IsNoneOf view (other ∷ rest) = (other ≢ view) × IsNoneOf view rest

-- no two views are the same
abbrev pub AreApart : List ℕ → Type 0
AreApart [] = Unit {0}
AreApart (view ∷ rest) = IsNoneOf view rest × AreApart rest

-- the place of the member of a view, if it has one
abbrev pub IsMemberPlace : Option ℕ → List Member → ℕ → Type 0
IsMemberPlace None members view = IsNoneOf view (map member_view members)
IsMemberPlace (Some place) members view = (m : Member) × (slice_get members place ≡ Some m) × (m.view ≡ view)

-- its replica is of this program and session and of its view, and is not broken
pub record IsMember (classes : CheckedView) (id : List ℕ) (m : Member) : Type 0 where
  pub program : m.replica.program ≡ classes
  pub session : m.replica.id ≡ id
  pub viewed : m.view ≡ m.replica.plain.view
  pub whole : m.replica.plain.broken ≡ false

-- ---- the whole

abbrev pub part_worlds : Parts → Worlds WorldRecord PlainOutgoing
part_worlds p = worlds (founding_of (arc_value p.program)) p.id.0

abbrev pub plain_system : Parts → System WorldRecord PlainOutgoing
plain_system p = record {
  session = p.session.plain;
  clients = map plain_client p.members.items;
  connections = p.connections.items;
}

pub record IsSound (p : Parts) : Type 0 where
  pub founded : IsFounding (founding_of (arc_value p.program))
  pub members : AllByRecursion (IsMember (arc_value p.program) p.id.0) p.members.items
  pub apart : AreApart (map member_view p.members.items)

-- the step is taken
pub record Takes (old new : Parts) (step : SystemStep) : Type 0 where
  pub typed : IsTypedStep step
  pub spelled : SpellsWorld (part_worlds old) (plain_system old) step
  pub program : new.program ≡ old.program
  pub session : new.id ≡ old.id
  pub sound : IsSound new
  pub system : plain_system new ≡ after_step (part_worlds old) (plain_system old) step

-- the member of a place joins by a new connection, with the next number, and the one that it had is closed
pub record Connects (old new : Parts) (place : ℕ) (how : How) : Type 0 where
  pub member : Member
  pub placed : slice_get old.members.items place ≡ Some member
  pub program : new.program ≡ old.program
  pub session : new.id ≡ old.id
  pub stands : new.session.plain ≡ old.session.plain
  pub members : new.members.items
      ≡ set old.members.items place (record {
        view = member.view;
        replica = with_plain member.replica (joining member.replica.plain how);
        newest = length old.connections.items;
      })
  pub connections : new.connections.items ≡ close old.connections.items member.newest
      ++ connecting member.replica.plain.view (join_frame (part_worlds old) member.replica.plain how) ∷ []

-- a member stands at the place
abbrev pub HasMember : Parts → ℕ → Type 0
HasMember p place = (m : Member) × (slice_get p.members.items place ≡ Some m) × IsMember (arc_value p.program) p.id.0 m

-- memory was not wanted
abbrev pub IsNoWant : Result ⊤ ReplicaFault → Type 0
IsNoWant (Err WantOfMemory) = ⊥
IsNoWant other = Unit {0}
