-- What posts that reflect a session answer, and what they have done to their net by then.
use Rattle.std.specs.Prelude.{◌≡◌, ℕ, List, [], ◌∷◌, All, length, Result, Ok, Err}
use Rattle.std.specs.List.{AllByRecursion}
use Rattle.tea_base.specs.declared.entry.SessionId.{SessionId}
use Rattle.tea_io.specs.Told.{with_more}
use Rattle.tea_io.specs.declared.net.NetCall.{NetCall}
use Rattle.run_steps.specs.Outside.{LinksTell, NetTells}
use Rattle.reflector_core.specs.PlainSession.{PlainSession}
use Rattle.session_lock.specs.declared.knowledge.Item.{Item}
use Rattle.reflect_server.specs.Connections.{ServedConnection, IsHistoryOf, AreServed, AreToldWithin, callers_of}
use Rattle.reflect_server.specs.Keeping.{KeeperTells, HasOnlyOpened, HasNotOpened, HasOpenedAtMost, no_keeper}
use Rattle.reflect_server.specs.Reflects.{EndUnkeptIf, Plays}
use Rattle.reflect_server.specs.Views.{StaysByMiss}
use Rattle.reflect_server.specs.declared.reflection.KeptFault.{KeptFault}
use Rattle.reflect_server.specs.declared.reflection.KeptFault.TheVariants as kept_fault
use Rattle.reflect_server.specs.declared.reflection.ServeFault.{ServeFault}
use Rattle.reflect_server.specs.declared.reflection.ServeFault.TheVariants.{ListenFault, WantOfMemory}
use Rattle.host_server.specs.Links.{IsRouted, in_session}
use Rattle.host_server.specs.Rows.{AtEach}
use Rattle.host_posts.specs.Hosts.{HasSharesSince, IsUnshared, WantsOn}
use Rattle.host_posts.specs.Posts.{IsPost, PostHistory, hosted_in}
use Rattle.host_posts.specs.Shares.{IsShareOf, SharesTell}
use Rattle.reflect_posts.specs.declared.service.ReflectedOn.{ReflectedOn}

-- A session that has been reflected to these connections: it is the play of one history, from the opening session on, in which each has its talk, and
-- nobody else has called after the opening Leaves. What each was sent is served by its log. The keeper holds the play of the history.
pub record IsReflected (gives : ℕ → Type 0) (id : SessionId) (opening : PlainSession) (kept : KeeperTells) {L : Type 0}
    (links : LinksTell L) (connections : List (ServedConnection L)) (session : PlainSession) : Type 0 where
  pub history : List Item
  pub opener : ℕ
  pub talks : IsHistoryOf gives id opening links connections opener history
  pub plays : Plays opening history session
  pub served : AreServed session.log connections
  pub ticks : AreToldWithin session.horizon connections
  pub stays : StaysByMiss opening opener (callers_of connections) history session.log
  pub keeps : kept.keeps history
  pub unkept : EndUnkeptIf kept.failed connections

-- What was reflected, after these calls of the net: so many posts have each served the links of a share of it, and all shares are back. Each link has
-- one end, and was given back. It was served by the session, or gave no frame. The session has the links of all posts that it has served, those of one
-- after those of the other.
pub record HasReflectedOn (gives : ℕ → Type 0) (may : Type 0) (id : SessionId) (opening : PlainSession) (kept : KeeperTells)
    {N S L : Type 0} (tells : NetTells N L) (parts : SharesTell N S L) (links : LinksTell L) (calls : List NetCall) (count : ℕ)
    (before now : N) (reflected : ReflectedOn) : Type 0 where
  pub posts : List (PostHistory L)
  pub number : length posts ≡ count
  pub shares : All (IsShareOf tells parts.share links before) posts
  pub shared : parts.shared now ≡ parts.shared before
  pub net : HasSharesSince tells links before now posts
  pub asked : tells.asked now ≡ with_more (tells.asked before) calls
  pub outcomes : AtEach (IsPost may) posts reflected.posts
  pub routed : AllByRecursion (λ one. IsRouted gives (id ∷ []) links one.session one.connection) (hosted_in posts)
  pub session : IsReflected gives id opening kept links (in_session 0 (hosted_in posts)) reflected.session.plain

-- the net did not listen, or gave too few shares, which are back; the session was opened and no more
pub record HasNotShared (gives : ℕ → Type 0) (opening : PlainSession) (kept : KeeperTells) {N S L : Type 0}
    (tells : NetTells N L) (parts : SharesTell N S L) (links : LinksTell L) (calls : List NetCall) (before now : N) : Type 0 where
  pub net : IsUnshared tells parts links calls before now
  pub opened : HasOnlyOpened gives opening kept

-- no memory was found before a link was accepted; the session was opened at most
pub record HasWantedOn (gives : ℕ → Type 0) (opening : PlainSession) (kept : KeeperTells) {N S L : Type 0}
    (tells : NetTells N L) (parts : SharesTell N S L) (links : LinksTell L) (calls : List NetCall) (before now : N) : Type 0 where
  pub net : WantsOn tells parts links calls before now
  pub opened : HasOpenedAtMost gives opening kept

-- what comes of a session that has a keeper
abbrev pub ReflectsOn : (ℕ → Type 0) → Type 0 → SessionId → PlainSession → KeeperTells → {N S L : Type 0} → NetTells N L
    → SharesTell N S L → LinksTell L → List NetCall → ℕ → N → N → Result ReflectedOn KeptFault → Type 0
ReflectsOn gives may id opening kept tells parts links calls count before now (Ok reflected) =
    HasReflectedOn gives may id opening kept tells parts links calls count before now reflected
ReflectsOn gives may id opening kept tells parts links calls count before now (Err kept_fault.ListenFault) =
    HasNotShared gives opening kept tells parts links calls before now
ReflectsOn gives may id opening kept tells parts links calls count before now (Err kept_fault.WantOfMemory) =
    HasWantedOn gives opening kept tells parts links calls before now
ReflectsOn gives may id opening kept tells parts links calls count before now (Err kept_fault.Unkept) =
    (now ≡ before) × HasNotOpened gives opening kept

-- what comes of one that has none
abbrev pub ReflectsUnkeptOn : (ℕ → Type 0) → Type 0 → SessionId → PlainSession → {N S L : Type 0} → NetTells N L
    → SharesTell N S L → LinksTell L → List NetCall → ℕ → N → N → Result ReflectedOn ServeFault → Type 0
ReflectsUnkeptOn gives may id opening tells parts links calls count before now (Ok reflected) =
    HasReflectedOn gives may id opening no_keeper tells parts links calls count before now reflected
ReflectsUnkeptOn gives may id opening tells parts links calls count before now (Err ListenFault) =
    HasNotShared gives opening no_keeper tells parts links calls before now
ReflectsUnkeptOn gives may id opening tells parts links calls count before now (Err WantOfMemory) =
    HasWantedOn gives opening no_keeper tells parts links calls before now

-- the answer of one without a keeper as that of one with a keeper
abbrev pub with_kept_fault : Result ReflectedOn ServeFault → Result ReflectedOn KeptFault
with_kept_fault (Ok reflected) = Ok reflected
with_kept_fault (Err ListenFault) = Err kept_fault.ListenFault
with_kept_fault (Err WantOfMemory) = Err kept_fault.WantOfMemory
