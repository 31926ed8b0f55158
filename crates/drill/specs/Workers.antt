-- A worker of the drill, and what a call of its pass comes to.
use Rattle.std.specs.Prelude.{◌≡◌, ◌+◌, ◌*◌, ◌-◌, ℕ, List, [], ◌∷◌, ◌++◌}
use Rattle.std.specs.List.{AllByRecursion}
use Rattle.std.specs.Arc.{arc_value}
use Rattle.model_solved.specs.Founding.{founding_of, IsFounding}
use Rattle.reflector_core.specs.PlainSession.{PlainSession, IsSoundSession}
use Rattle.reflector_core.specs.Answer.{answer}
use Rattle.reflector_core.specs.Growth.{GrowsTo}
use Rattle.reflector_core.specs.Play.{first_session}
use Rattle.reflector_core.specs.declared.request.Request.{Request}
use Rattle.reflector_core.specs.declared.request.Reply.{Reply}
use Rattle.session_lock.specs.declared.knowledge.Item.{Item}
use Rattle.session_lock.specs.declared.knowledge.Item.TheVariants.{Did}
use Rattle.session_lock.specs.History.{IsSoundThrough, play}
use Rattle.session_lock.specs.Passes.{PassState, SharedState, numbers_held, own_calls}
use Rattle.session_lock.specs.Trusts.{IsTrusted}
use Rattle.connection.specs.Exchanges.{Answered, exchanges_in}
use Rattle.drill.specs.declared.trust.TrustReplay.{TrustReplay}
use Rattle.drill.specs.declared.size.Size.{Size}
use Rattle.drill.specs.declared.worker.Worker.{Worker}
use Rattle.drill.specs.Asking.{IsAskedInDrill, IsDrillHistory, entries_used_by}
use Rattle.drill.specs.Doing.{KeepsFrom}
use Rattle.drill.specs.Drilled.{IsOfDrill, entries_by, sources_per_seed}
use Rattle.drill.specs.Trust.{AllowsReplay}

-- what the drill's session keeps is the snapshot of a replay
abbrev pub IsTrustedReplay : SharedState TrustReplay → PlainSession → Type 0
IsTrustedReplay shared s = IsTrusted (λ trust id log horizon time bytes.
    AllowsReplay (founding_of (arc_value trust.program)) id.0 log horizon time bytes) shared.trust shared.id s

-- Its pass is one of the drill's session, and calls by the view's number, as the view may. Its replica is the view's.
pub record IsWorker (gives : ℕ → Type 0) (size : Size) (shared : SharedState TrustReplay) (w : Worker) : Type 0 where
  pub session : w.pass.session ≡ shared.session
  pub opening : w.pass.opening ≡ first_session
  pub callers : w.pass.callers ≡ w.view ∷ []
  pub numbers : numbers_held w.pass ≡ 1
  pub named : IsOfDrill size.views w.view
  pub asked : AllByRecursion (IsAskedInDrill gives size.views) (own_calls w.pass)
  pub sound : IsSoundThrough first_session w.pass.seen
  pub trusted : IsTrustedReplay shared (play w.pass.seen)
  pub program : w.replica.program ≡ arc_value shared.trust.program
  pub id : w.replica.id ≡ shared.id.0
  pub view : w.replica.plain.view ≡ w.view
  pub tree : IsFounding (founding_of (arc_value shared.trust.program))

-- From one history to a longer one the session has grown, and what it keeps has not grown older. If the longer one is of the drill, so is
-- the other, and the view has done nothing between.
pub record HistoryGoesOn (gives : ℕ → Type 0) (views view : ℕ) (before now : List Item) : Type 0 where
  pub grows : GrowsTo (play before) (play now)
  pub kept : (time : ℕ) → KeepsFrom time (play before).kept → KeepsFrom time (play now).kept
  pub first : IsDrillHistory gives views now → IsDrillHistory gives views before
  pub apart : IsDrillHistory gives views now → entries_by view (play now).log ≡ entries_by view (play before).log

-- The view's worker has asked this, and was replied this: the session had gone on to a history, and answered.
pub record HasAsked (gives : ℕ → Type 0) (views : ℕ) (shared : SharedState TrustReplay) (view : ℕ)
    (before after : PassState) (request : Request) (reply : Reply) : Type 0 where
  pub history : List Item
  pub on : HistoryGoesOn gives views view before.seen history
  pub sound : IsSoundSession (play history)
  pub trusted : IsTrustedReplay shared (play history)
  pub seen : after.seen ≡ history ++ Did view request ∷ []
  pub session : play after.seen ≡ (answer (play history) request).session
  pub replies : reply ≡ (answer (play history) request).reply
  pub own : own_calls after ≡ own_calls before ++ Did view request ∷ []
  pub exchanged : exchanges_in first_session after.seen view ≡ exchanges_in first_session before.seen view
      ++ Answered request reply ∷ []
  pub first : IsDrillHistory gives views after.seen → IsDrillHistory gives views history

-- The view's worker has called, and put nothing into the log.
pub record HasPassed (gives : ℕ → Type 0) (views view : ℕ) (before after : PassState) : Type 0 where
  pub on : HistoryGoesOn gives views view before.seen after.seen
  pub asked : entries_used_by (own_calls after) ≡ entries_used_by (own_calls before)

-- nothing but its pass has changed
abbrev pub ChangesPass : Worker → Worker → Type 0
ChangesPass before after = after ≡ record before { pass = after.pass }

-- nothing but its pass and its replica
abbrev pub KeepsSource : Worker → Worker → Type 0
KeepsSource before after = after ≡ record before { pass = after.pass; replica = after.replica }

-- It has done nothing yet: its pass has made no call, its replica has published nothing, and its source is where the view's starts.
pub record IsFirst (gives : ℕ → Type 0) (size : Size) (shared : SharedState TrustReplay) (w : Worker) : Type 0 where
  pub worker : IsWorker gives size shared w
  pub calls : own_calls w.pass ≡ []
  pub outbox : w.replica.plain.outbox ≡ []
  pub acknowledged : w.replica.plain.acknowledged ≡ 0
  pub source : w.source ≡ size.seed * sources_per_seed + w.view - 1
