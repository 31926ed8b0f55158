-- The passes of posts, and how a link is served by a new caller of one.
use Rattle.std.specs.Prelude.{◌≡◌, ℕ, ◌+◌, ◌*◌, ◌≤◌, Bool, true, false, List, [], ◌∷◌, ◌++◌, All, Option}
use Rattle.atomic_table.specs.Seated.{TableId}
use Rattle.tea_base.specs.declared.entry.SessionId.{SessionId}
use Rattle.tea_io.specs.declared.link.Heard.{Heard}
use Rattle.run_steps.specs.Outside.{LinksTell}
use Rattle.reflector_core.specs.PlainSession.{PlainSession}
use Rattle.session_lock.specs.declared.knowledge.Item.{Item}
use Rattle.session_lock.specs.History.{calls_of}
use Rattle.session_lock.specs.Numbers.{count_of}
use Rattle.session_lock.specs.Passes.{PassState, caller, numbers_held}
use Rattle.connection.specs.Talk.{LinkAccount}
use Rattle.connection.specs.declared.ending.Ended.{Ended}
use Rattle.reflect_server.specs.Connections.{ServedConnection}
use Rattle.host_server.specs.Claiming.{Adds, HasGivenClaims, IsFreshClaim, OfId}
use Rattle.host_server.specs.Links.{HasMade, IsMetOnDemand, IsRouted, is_at}
use Rattle.host_server.specs.Peeking.{TalksAgain}
use Rattle.host_server.specs.Rounds.{HasServedBy, hosted_by}
use Rattle.host_server.specs.Rows.{AtAll, AtEach, HasGiven, HasSplit, TakesIn}
use Rattle.host_server.specs.declared.rooms.Room.{Room}
use Rattle.host_server.specs.declared.rooms.Row.{Row}
use Rattle.host_server.specs.declared.serving.RoomedLink.{RoomedLink}
use Rattle.host_posts.specs.Posts.{most_links, post_numbers}

-- A pass of a shared session for a post. Its own caller has made no call, and it has a spare number for each link that the post may serve. It has seen
-- at least this.
pub record IsForPost (table : TableId) (began : PlainSession) (seen : List Item) (pass : PassState) : Type 0 where
  pub session : pass.session ≡ table
  pub opening : pass.opening ≡ began
  pub one : pass.callers ≡ caller pass ∷ []
  pub calls : calls_of (caller pass ∷ []) pass.seen ≡ []
  pub spare : count_of pass.spare ≡ most_links
  pub rest : List Item
  pub begins : seen ++ rest ≡ pass.seen

-- the same of a pass that was split off this one
abbrev pub IsPostPass : PassState → PassState → Type 0
IsPostPass lead pass = IsForPost lead.session lead.opening lead.seen pass

-- it was split off just now
pub record HasSplitPost (before now pass : PassState) : Type 0 where
  pub kept : now ≡ record before { spare = now.spare }
  pub is_post : IsPostPass before pass
  pub numbers : numbers_held now + post_numbers ≡ numbers_held before
  pub spare : count_of now.spare + post_numbers ≡ count_of before.spare

-- a row for a post
pub record IsPostRow {K : Type 0} (lead row : Row K) : Type 0 where
  pub seats : AtEach IsPostPass lead.seats.items row.seats.items
  pub claim : IsFreshClaim lead.claim row.claim

-- so many rows for posts were split off this one
pub record HasGivenPosts {K : Type 0} (count : ℕ) (before now : Row K) : Type 0 where
  pub seats : AtEach (HasGiven (count * post_numbers)) before.seats.items now.seats.items
  pub claim : HasGivenClaims count before.claim now.claim

-- at most one spare number was used
abbrev pub UsesOneAtMost : PassState → PassState → Type 0
UsesOneAtMost before now = count_of before.spare ≤ count_of now.spare + 1

-- each pass has a spare number for each link that the post may still serve after so many
abbrev pub HaveSpare : ℕ → List PassState → Type 0
HaveSpare turns passes = All (λ pass. most_links ≤ count_of pass.spare + turns) passes

-- ---- one link

-- A link was served after its first frame was taken, as if that frame were still to come, by a new caller: its pass was split off this one, and
-- merged back into it.
pub record ServesBy (gives : ℕ → Type 0) (id : SessionId) (before after : PassState) (heard : Option (List Heard)) (first : List ℕ)
    (old new : LinkAccount) (how : Ended) : Type 0 where
  pub left : PassState
  pub fresh : PassState
  pub pass : PassState
  pub split : HasSplit before left fresh
  pub kept : pass ≡ record fresh { seen = pass.seen }
  pub talk : TalksAgain gives id pass heard first old new how
  pub takes : TakesIn left pass after

-- a new caller of the pass has served the connection
pub record ServesOne (gives : ℕ → Type 0) (id : SessionId) {L : Type 0} (links : LinksTell L) (before after : PassState)
    (one : ServedConnection L) : Type 0 where
  pub left : PassState
  pub fresh : PassState
  pub pass : PassState
  pub split : HasSplit before left fresh
  pub served : HasServedBy gives id links fresh pass one
  pub takes : TakesIn left pass after

-- one has if the pass is of the connection's session, and else it has not changed
abbrev pub MayServe : (ℕ → Type 0) → SessionId → {L : Type 0} → LinksTell L → Bool → ServedConnection L → PassState → PassState → Type 0
MayServe gives id links true one before after = ServesOne gives id links before after one
MayServe gives id links false one before after = after ≡ before

-- how a link is served by the row of a post, where these are the ids in the end
pub record ServesPost (gives : ℕ → Type 0) (ids : List SessionId) (on_demand : Bool) {L K : Type 0}
    (links : LinksTell L) (rooms : List (Room K)) (link : L) (before after : Row K) (served : RoomedLink L) : Type 0 where
  pub connection : ServedConnection L
  pub accepted : connection.accepted ≡ link
  pub returned : connection.returned ≡ served.link
  pub ended : connection.ended ≡ served.ended
  pub routed : IsRouted gives ids links served.session connection
  pub met : IsMetOnDemand on_demand ids links connection
  pub made : Adds (λ id. HasMade ids links id (hosted_by served connection)) before.claim.made after.claim.made
  pub seats :
      AtAll
      (λ place room pass now. OfId ids place
      (λ id. MayServe gives id links (is_at place served.session) connection pass now))
      rooms before.seats.items after.seats.items
