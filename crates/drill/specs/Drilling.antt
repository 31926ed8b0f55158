-- What stands between the steps of a drill.
use Rattle.std.specs.Prelude.{IfOk, Result, Vec, ◌≡◌, ℕ, zero, suc, ◌+◌, ◌-◌, true, List, [], ◌∷◌, map}
use Rattle.std.specs.List.{All, AllByRecursion}
use Rattle.std.specs.Arc.{arc_value}
use Rattle.model_solved.specs.Founding.{founding_of}
use Rattle.session_lock.specs.History.{Saw, calls_of}
use Rattle.session_lock.specs.Passes.{PassState, SharedState, first_pass, numbers_held}
use Rattle.reflector_core.specs.PlainSession.{PlainSession}
use Rattle.reflector_core.specs.Play.{first_session}
use Rattle.replica.specs.View.{ReplicaView}
use Rattle.drill.specs.declared.size.Size.{Size}
use Rattle.drill.specs.declared.trust.TrustReplay.{TrustReplay}
use Rattle.drill.specs.declared.worker.Worker.{Worker}
use Rattle.drill.specs.declared.finished.Finished.{Finished}
use Rattle.drill.specs.declared.drilling.DrillSession.{DrillSession}
use Rattle.drill.specs.declared.drilling.Rested.{Rested}
use Rattle.drill.specs.Drill.{drill_id}
use Rattle.drill.specs.Ending.{HasReplay, IsCountedBy, IsOfView}
use Rattle.drill.specs.Program.{IsDrillProgram}
use Rattle.drill.specs.Turns.{HasEnded, MayCatchUp}

-- The session trusts the replay of the one program of drills, under the one id.
pub record IsDrillSession (prepared : DrillSession) : Type 0 where
  pub tree : IsDrillProgram (founding_of (arc_value prepared.program))
  pub trusts : arc_value prepared.shared.trust.program ≡ arc_value prepared.program
  pub same_id : prepared.shared.id ≡ prepared.id
  pub spelled : prepared.id.0 ≡ drill_id

-- so many numbers, from the first one on
abbrev pub numbers_from : ℕ → ℕ → List ℕ
numbers_from first zero = []
numbers_from first (suc count) = first ∷ numbers_from (first + 1) count

abbrev pub views_of_workers : List Worker → List ℕ
views_of_workers workers = map (λ w. w.view) workers

abbrev pub views_of : List Finished → List ℕ
views_of ended = map (λ one. one.worker.view) ended

-- these workers have ended, in order
pub record HaveEnded (gives : ℕ → Type 0) (size : Size) (shared : SharedState TrustReplay) (workers : List Worker)
    (ended : List Finished) : Type 0 where
  pub each : All (HasEnded gives size shared) ended
  pub views : views_of ended ≡ views_of_workers workers

-- what a worker answers, and what all of them do: without memory nothing is told
pub record WorkerAnswers (gives : ℕ → Type 0) (size : Size) (shared : SharedState TrustReplay) (w : Worker) {E : Type 0}
    (answer : Result Finished E) : Type 0 where
  pub told : IfOk answer (λ one. HasEnded gives size shared one × (one.worker.view ≡ w.view))

pub record AllAnswer (gives : ℕ → Type 0) (size : Size) (shared : SharedState TrustReplay) (workers : List Worker)
    {Z E : Type 0} (answer : Result (Vec Finished Z) E) : Type 0 where
  pub told : IfOk answer (λ ended. HaveEnded gives size shared workers ended.items)

-- the pass that is kept, once so many passes of one caller were split off it
abbrev pub keeper_after : SharedState TrustReplay → ℕ → PassState
keeper_after shared made = record (first_pass shared.session first_session) {
  spare = record {
    first = made + 1;
    count = 4294967295 - made;
  } ∷ [];
}

-- a pass of the session that calls by its view's number
pub record HasPass (shared : SharedState TrustReplay) (one : Finished) : Type 0 where
  pub same : one.worker.pass.session ≡ shared.session
  pub callers : one.worker.pass.callers ≡ one.worker.view ∷ []
  pub numbers : numbers_held one.worker.pass ≡ 1

-- Caller 0 has made no call. The other callers are the views of those that have ended, and their calls are those that each has made.
pub record GathersWorkers (shared : SharedState TrustReplay) (ended : List Finished) (pass : PassState) : Type 0 where
  pub same : pass.session ≡ shared.session
  pub opening : pass.opening ≡ first_session
  pub callers : pass.callers ≡ 0 ∷ views_of ended
  pub idle : calls_of (0 ∷ []) pass.seen ≡ []
  pub saw : AllByRecursion (λ one. Saw (one.worker.view ∷ []) one.worker.pass.seen pass.seen) ended

abbrev pub rested_of : Finished → Rested
rested_of one = record { replica = one.worker.replica; is_synced = one.is_synced }

-- it can come to the end of the closed log
pub record MayRest (s : PlainSession) (rested : Rested) : Type 0 where
  pub catches : MayCatchUp s rested.replica rested.is_synced
  pub counted : IsCountedBy s rested.replica

-- it has come to the end of the closed log
pub record ComesToEnd (s : PlainSession) (old : Rested) (new : ReplicaView) : Type 0 where
  pub kept : IsOfView old.replica new
  pub replays : HasReplay s (founding_of old.replica.program) old.replica.id new
  pub base : old.is_synced ≡ true → new.plain.base ≡ old.replica.plain.base
