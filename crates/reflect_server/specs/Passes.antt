-- Passes that have made no call, and what becomes of them.
use Rattle.std.specs.Prelude.{◌≡◌, ℕ, ◌+◌, ◌≤◌, true, false, List, [], ◌∷◌, ◌++◌}
use Rattle.std.specs.List.{AllByRecursion}
use Rattle.atomic_table.specs.Seated.{TableId}
use Rattle.tea_base.specs.declared.entry.SessionId.{SessionId}
use Rattle.run_steps.specs.Outside.{LinksTell}
use Rattle.reflector_core.specs.PlainSession.{PlainSession}
use Rattle.session_lock.specs.declared.knowledge.Item.{Item}
use Rattle.session_lock.specs.History.{has, calls_of, Saw}
use Rattle.session_lock.specs.Numbers.{times}
use Rattle.session_lock.specs.Passes.{PassState, caller, numbers_held}
use Rattle.reflect_server.specs.Connections.{ServedConnection, HasTalk, callers_of}

-- of the pass's callers only these have made calls
abbrev pub HasCalledAs : List ℕ → PassState → Type 0
HasCalledAs callers pass = (n : ℕ) → has n pass.callers ≡ true → has n callers ≡ false
    → calls_of (n ∷ []) pass.seen ≡ []

-- A pass of a shared session that has made no call. It has one caller, and no other number. It has seen at least this.
pub record HasNotCalled (table : TableId) (began : PlainSession) (seen : List Item) (pass : PassState) : Type 0 where
  pub session : pass.session ≡ table
  pub opening : pass.opening ≡ began
  pub one : pass.callers ≡ caller pass ∷ []
  pub calls : calls_of (caller pass ∷ []) pass.seen ≡ []
  pub numbers : numbers_held pass ≡ 1
  pub rest : List Item
  pub begins : seen ++ rest ≡ pass.seen

-- the same of a pass that was split off this one
abbrev pub IsFresh : PassState → PassState → Type 0
IsFresh lead pass = HasNotCalled lead.session lead.opening lead.seen pass

-- A pass that was only added to since: its own caller has made no more calls, and none of its other callers has made one.
pub record Keeps (before pass : PassState) : Type 0 where
  pub session : pass.session ≡ before.session
  pub opening : pass.opening ≡ before.opening
  pub callers : (n : ℕ) → times n (caller before ∷ []) ≤ times n pass.callers
  pub calls : HasCalledAs (caller before ∷ []) pass
  pub saw : Saw (caller before ∷ []) before.seen pass.seen

-- A pass that so many fresh passes were merged into, among them those that the connections were served by. These had made no call in what it
-- had seen before. None of its other callers has made a call since.
pub record Gathers (gives : ℕ → Type 0) (id : SessionId) {L : Type 0} (links : LinksTell L) (before : PassState)
    (count : ℕ) (connections : List (ServedConnection L)) (pass : PassState) : Type 0 where
  pub session : pass.session ≡ before.session
  pub opening : pass.opening ≡ before.opening
  pub numbers : numbers_held pass ≡ numbers_held before + count
  pub callers : (n : ℕ) → times n (caller before ∷ callers_of connections) ≤ times n pass.callers
  pub calls : HasCalledAs (caller before ∷ callers_of connections) pass
  pub saw : Saw (caller before ∷ []) before.seen pass.seen
  pub new : (n : ℕ) → has n (callers_of connections) ≡ true → calls_of (n ∷ []) before.seen ≡ []
  pub talks : AllByRecursion (HasTalk gives id before.opening links pass.seen) connections
