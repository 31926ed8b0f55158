-- Links that a post serves one after the other, and posts beside each other.
use Rattle.std.specs.Prelude.{◌≡◌, ℕ, ◌*◌, ◌≤◌, Bool, All, Any, List, length}
use Rattle.std.specs.List.{AllByRecursion}
use Rattle.atomic_table.specs.Seated.{TableId}
use Rattle.tea_base.specs.declared.entry.SessionId.{SessionId}
use Rattle.run_steps.specs.Outside.{LinksTell, NetTells, TakesBack}
use Rattle.tea_io.specs.Nets.{plus, sum_of}
use Rattle.net_shares.specs.Shares.{with_all}
use Rattle.reflect_server.specs.Passes.{Gathers, Keeps}
use Rattle.reflect_server.specs.Reflects.{ReturnsLinks}
use Rattle.host_server.specs.Claiming.{Adds, GathersClaims, InTheEnd, OfId}
use Rattle.host_server.specs.Links.{HasMade, HostedLink, IsMetOnDemand, IsRouted, connections_of, ends_of, in_session}
use Rattle.host_server.specs.Rounds.{end_in}
use Rattle.host_server.specs.Rows.{AtAll, AtEach, IsOf}
use Rattle.host_server.specs.declared.rooms.Room.{Room}
use Rattle.host_server.specs.declared.rooms.Row.{Row}
use Rattle.host_server.specs.declared.serving.RoomedLink.{RoomedLink}
use Rattle.host_posts.specs.Counts.{no_ends, with_end, with_ends}
use Rattle.host_posts.specs.Passes.{HaveSpare, IsPostRow, ServesPost}
use Rattle.host_posts.specs.Posts.{EndsBy, IsPost, PostHistory, hosted_in, most_links, post_numbers}
use Rattle.host_posts.specs.Shares.{HasShares, IsShareOf, IsUnused}
use Rattle.host_posts.specs.declared.post.Post.{Post}
use Rattle.host_posts.specs.declared.posting.PostEnd.{PostEnd}
use Rattle.host_posts.specs.declared.running.PostRound.{PostRound}

-- one link was served, and given back to the post's share
pub record ServesNext (gives : ℕ → Type 0) (ids : List SessionId) (on_demand : Bool) {S L K : Type 0}
    (tells : NetTells S L) (links : LinksTell L) (rooms : List (Room K)) (link : L) (before now : Post S K) : Type 0 where
  pub one : RoomedLink L
  pub served : ServesPost gives ids on_demand links rooms link before.row now.row one
  pub back : TakesBack tells links one.link before.share now.share
  pub counts : now.counts ≡ with_end before.counts (end_in one)

-- What comes of so many links that a post has served, one after the other, where these are the ids in the end. The passes that each session has served
-- them by are in the post's pass of this session.
pub record PostGoes (gives : ℕ → Type 0) (ids : List SessionId) (on_demand : Bool) {S L K : Type 0}
    (tells : NetTells S L) (links : LinksTell L) (rooms : List (Room K)) (count : ℕ) (before now : Post S K) : Type 0 where
  pub hosted : List (HostedLink L)
  pub number : length hosted ≡ count
  pub share : ReturnsLinks tells links before.share now.share (connections_of hosted)
  pub passes :
      AtAll
      (λ place room start now. OfId ids place
      (λ id. Gathers gives id links start 0 (in_session place hosted) now))
      rooms before.row.seats.items now.row.seats.items
  pub counts : now.counts ≡ with_ends before.counts (ends_of hosted)
  pub routed : AllByRecursion (λ one. IsRouted gives ids links one.session one.connection) hosted
  pub met : AllByRecursion (λ one. IsMetOnDemand on_demand ids links one.connection) hosted
  pub made : Adds (λ id. Any (HasMade ids links id) hosted) before.row.claim.made now.row.claim.made

-- what comes of a post in the end: it has served so many links, and why it has ended
pub record PostRuns (gives : ℕ → Type 0) (may : Type 0) (ids : List SessionId) (on_demand : Bool) {S L K : Type 0}
    (tells : NetTells S L) (links : LinksTell L) (rooms : List (Room K)) (before now : Post S K) (end : PostEnd) : Type 0 where
  pub count : ℕ
  pub few : count ≤ most_links
  pub goes : PostGoes gives ids on_demand tells links rooms count before now
  pub ended : EndsBy may count (tells.faults before.share) (tells.faults now.share) end

-- a post that has done nothing, with a share of this net and a row that was split off this one
pub record IsNewPost {N S L K : Type 0} (tells : NetTells N L) (shares : NetTells S L) (net : N) (lead : Row K) (post : Post S K) : Type 0 where
  pub share : IsUnused tells shares net post.share
  pub ends : post.counts ≡ no_ends
  pub row : IsPostRow lead post.row

-- a post that may run: its passes are those of these rooms, and each has a spare number for each link that the post may serve
pub record IsReady {S K : Type 0} (rooms : List (Room K)) (table : TableId) (post : Post S K) : Type 0 where
  pub seats : AtEach IsOf rooms post.row.seats.items
  pub claim : post.row.claim.claims ≡ table
  pub spare : HaveSpare 0 post.row.seats.items
  pub kept : All (λ pass. Keeps pass pass) post.row.seats.items

-- it has run to its end, whichever are the ids in the end
pub record RunsPost (gives : ℕ → Type 0) (may : Type 0) (listed : List SessionId) (on_demand : Bool) {S L K : Type 0}
    (tells : NetTells S L) (links : LinksTell L) (rooms : List (Room K)) (before now : Post S K) (end : PostEnd) : Type 0 where
  pub seats : AtEach IsOf rooms now.row.seats.items
  pub claim : GathersClaims on_demand 0 before.row.claim now.row.claim
  pub lent : tells.lent now.share ≡ tells.lent before.share
  pub runs : InTheEnd on_demand listed now.row.claim.seen
      (λ ids. PostRuns gives may ids on_demand tells links rooms before now end)

-- so has a post of this net and this lead row, which had done nothing
pub record HasEnded (gives : ℕ → Type 0) (may : Type 0) (listed : List SessionId) (on_demand : Bool) {N S L K : Type 0}
    (tells : NetTells N L) (shares : NetTells S L) (links : LinksTell L) (rooms : List (Room K)) (net : N) (lead : Row K)
    (post : Post S K) (end : PostEnd) : Type 0 where
  pub start : Post S K
  pub new : IsNewPost tells shares net lead start
  pub ran : RunsPost gives may listed on_demand shares links rooms start post end

-- a share came back to the net
pub record TakesShare {N S L : Type 0} (tells : NetTells N L) (shares : NetTells S L) (share : S) (before now : N) : Type 0 where
  pub coming : tells.coming now ≡ tells.coming before
  pub asked : tells.asked now ≡ tells.asked before
  pub over : tells.over now ≡ with_all (tells.over before) (shares.over share)
  pub lent : tells.lent now ≡ tells.lent before
  pub counts : tells.link_counts now ≡ plus (tells.link_counts before) (shares.link_counts share)
  pub faults : tells.faults now ≡ sum_of (tells.faults before) (shares.faults share)

-- What comes of so many posts beside each other, where these are the ids in the end. The passes that each session has served links by are in its lead
-- pass.
pub record PostsGo (gives : ℕ → Type 0) (may : Type 0) (ids : List SessionId) (on_demand : Bool) {N S L K : Type 0}
    (tells : NetTells N L) (shares : NetTells S L) (links : LinksTell L) (rooms : List (Room K)) (count : ℕ)
    (before now : PostRound N K) : Type 0 where
  pub posts : List (PostHistory L)
  pub number : length posts ≡ count
  pub own : All (IsShareOf tells shares links before.net) posts
  pub net : HasShares tells links before.net now.net posts
  pub passes :
      AtAll
      (λ place room lead now. OfId ids place
      (λ id. Gathers gives id links lead (count * post_numbers) (in_session place (hosted_in posts)) now))
      rooms before.lead.seats.items now.lead.seats.items
  pub outcomes : AtEach (IsPost may) posts now.outcomes.items
  pub routed : AllByRecursion (λ one. IsRouted gives ids links one.session one.connection) (hosted_in posts)
  pub met : AllByRecursion (λ one. IsMetOnDemand on_demand ids links one.connection) (hosted_in posts)
  pub made : Adds (λ id. Any (HasMade ids links id) (hosted_in posts)) before.lead.claim.made now.lead.claim.made
