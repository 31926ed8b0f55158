-- What a drill has come to.
use Rattle.std.specs.Prelude.{◌≡◌, ◌⊎◌, ◌≤◌, ◌<◌, ℕ, ◌+◌, List, [], ◌∷◌, ◌++◌, All, length}
use Rattle.tea_base.specs.declared.entry.Entry.{Entry}
use Rattle.std.specs.List.{AllByRecursion}
use Rattle.byte_fields.specs.Fields.{text_field}
use Rattle.sha2.specs.Sha256.{sha256}
use Rattle.tea_base.specs.Limits.{end_of_time}
use Rattle.model_solved.specs.Founding.{Founding}
use Rattle.reflector_core.specs.PlainSession.{PlainSession}
use Rattle.reflector_core.specs.Play.{first_session}
use Rattle.session_lock.specs.History.{IsSoundThrough, play}
use Rattle.session_lock.specs.declared.knowledge.Item.{Item}
use Rattle.connection.specs.Exchanges.{exchanges_in}
use Rattle.replica.specs.View.{ReplicaView}
use Rattle.world.specs.Worlds.{replay}
use Rattle.drill.specs.declared.size.Size.{Size}
use Rattle.drill.specs.declared.report.DrillReport.{DrillReport}
use Rattle.drill.specs.Asking.{IsAskedInDrill}
use Rattle.drill.specs.Doing.{HasBase, loss_interval}
use Rattle.drill.specs.Drilled.{Drilled, IsOfDrill}
use Rattle.drill.specs.Ending.{HasReplay, root_total}
use Rattle.drill.specs.Program.{IsDrillProgram, drill_name, drill_text}
use Rattle.drill.specs.ViewCalls.{AreCallsOf}

-- the id of the session
abbrev pub drill_id : List ℕ
drill_id = sha256 (text_field drill_name ++ drill_text)

-- the replicas are those of this view and the next ones, in order, and each has the replay
abbrev pub AreReplays : PlainSession → Founding → List ℕ → ℕ → List ReplicaView → Type 0
AreReplays s founding id view [] = Unit {0}
AreReplays s founding id view (r ∷ replicas) =
    (r.plain.view ≡ view) × HasReplay s founding id r × AreReplays s founding id (view + 1) replicas

-- each was made from a base at the last event at which it was lost
abbrev pub AreBased : PlainSession → ℕ → ℕ → List ReplicaView → Type 0
AreBased s number view [] = Unit {0}
AreBased s number view (r ∷ replicas) = HasBase s view number r.plain.base × AreBased s number (view + 1) replicas

-- The session is what one history leaves, and was sound at each place of it. Nobody called but the views of the drill, each for itself. The calls
-- of each view follow one another as its worker makes them, by the replies that are due at their places.
pub record PlaysDrill (gives : ℕ → Type 0) (size : Size) (s : PlainSession) : Type 0 where
  pub history : List Item
  pub play : s ≡ play history
  pub sound : IsSoundThrough first_session history
  pub asked : AllByRecursion (IsAskedInDrill gives size.views) history
  pub calls : (view : ℕ) → IsOfDrill size.views view
      → AreCallsOf view size.events (exchanges_in first_session history view)

-- each entry is of a view of the drill, and the horizon is at most the length of the log beyond 0 or a value of the clock
pub record HasDrillEntries (gives : ℕ → Type 0) (views : ℕ) (s : PlainSession) : Type 0 where
  pub named : All (λ (entry : Entry). IsOfDrill views entry.view) s.log
  pub given : ℕ
  pub is_given : (given ≡ 0) ⊎ gives given
  pub bounded : s.horizon ≤ given + length s.log

pub record HasDrilled (gives : ℕ → Type 0) (size : Size) (report : DrillReport) : Type 0 where
  pub founding : Founding
  pub is_program : IsDrillProgram founding
  pub session : PlaysDrill gives size report.session.plain
  pub drilled : Drilled size.seed size.views size.events report.session.plain.log report.session.plain.horizon
  pub replicas : AreReplays report.session.plain founding drill_id 1 report.replicas
  pub number : length report.replicas ≡ size.views
  pub total : report.total ≡ root_total
      (replay founding drill_id report.session.plain.log report.session.plain.horizon).world
  pub agree : report.agree ≡ size.views
  pub based : loss_interval ≤ size.events → report.session.plain.horizon < end_of_time
      → AreBased report.session.plain size.events 1 report.replicas
