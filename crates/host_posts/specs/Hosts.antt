-- What a host of posts answers, and what it has done to its net by then.
use Rattle.std.specs.Prelude.{◌≡◌, ◌⊎◌, ℕ, ◌*◌, ◌≤◌, Bool, List, [], All, length, replicate, vec_len, vec_capacity, Result, Ok, Err}
use Rattle.std.specs.List.{AllByRecursion}
use Rattle.tea_base.specs.declared.entry.SessionId.{SessionId}
use Rattle.tea_io.specs.Told.{Rose, with_more}
use Rattle.tea_io.specs.declared.net.NetCall.{NetCall}
use Rattle.run_steps.specs.Outside.{LinksTell, NetTells}
use Rattle.reflect_server.specs.declared.reflection.ServeFault.{ServeFault}
use Rattle.reflect_server.specs.declared.reflection.ServeFault.TheVariants.{ListenFault, WantOfMemory}
use Rattle.host_server.specs.Claiming.{IsBegunClaim}
use Rattle.host_server.specs.Hosts.{AreAlone, AreMade}
use Rattle.host_server.specs.Links.{IsMetOnDemand, IsRouted}
use Rattle.host_server.specs.Prepares.{IsBegun}
use Rattle.host_server.specs.Rows.{AtEach, rooms_for}
use Rattle.host_posts.specs.Passes.{IsPostRow}
use Rattle.host_posts.specs.Posts.{IsPost, PostHistory, hosted_in, post_numbers}
use Rattle.host_posts.specs.Shares.{HasShares, IsShareOf, SharesTell}
use Rattle.host_posts.specs.declared.hosting.Prepared.{Prepared}
use Rattle.host_posts.specs.declared.posting.HostedOn.{HostedOn}

-- the net may have counted more faults, and what else it tells has not changed, but for its calls
pub record HasGivenNone {N L : Type 0} (tells : NetTells N L) (before now : N) : Type 0 where
  pub coming : tells.coming now ≡ tells.coming before
  pub over : tells.over now ≡ tells.over before
  pub lent : tells.lent now ≡ tells.lent before
  pub counts : tells.link_counts now ≡ tells.link_counts before
  pub faults : tells.faults before ≤ tells.faults now

-- what shares brought back to it, which had given no link before
pub record HasSharesSince {N L : Type 0} (tells : NetTells N L) (links : LinksTell L) (before now : N) (posts : List (PostHistory L)) : Type 0 where
  pub since : N
  pub none : HasGivenNone tells before since
  pub back : HasShares tells links since now posts

-- What was hosted, after these calls of the net: so many posts have each served the links of a share of it, and all shares are back. Each link has one
-- end, and was given back. It was served by the session of its first frame. Each session is as if it were alone, by the links of all posts, those of one
-- after those of the other.
pub record IsHostedOn (gives : ℕ → Type 0) (may : Type 0) (listed : List SessionId) (on_demand : Bool) {N S L : Type 0}
    (tells : NetTells N L) (parts : SharesTell N S L) (links : LinksTell L) (calls : List NetCall) (count : ℕ) (before now : N)
    (result : HostedOn) : Type 0 where
  pub posts : List (PostHistory L)
  pub number : length posts ≡ count
  pub shares : All (IsShareOf tells parts.share links before) posts
  pub shared : parts.shared now ≡ parts.shared before
  pub net : HasSharesSince tells links before now posts
  pub asked : tells.asked now ≡ with_more (tells.asked before) calls
  pub outcomes : AtEach (IsPost may) posts result.posts
  pub ids : AreMade listed on_demand links (hosted_in posts) result.ids
  pub routed : AllByRecursion (λ one. IsRouted gives result.ids links one.session one.connection) (hosted_in posts)
  pub met : AllByRecursion (λ one. IsMetOnDemand on_demand result.ids links one.connection) (hosted_in posts)
  pub sessions : AreAlone gives result.ids links (hosted_in posts) result.sessions

-- a post that has served no link, and whose share has not failed
abbrev pub idle_post : {L : Type 0} → PostHistory L
idle_post = record { hosted = []; faults = 0 }

-- so many shares came back to it, none of which has given a link
pub record HasIdleBack {N L : Type 0} (tells : NetTells N L) (links : LinksTell L) (before now : N) : Type 0 where
  pub shares : ℕ
  pub net : HasSharesSince tells links before now (replicate shares idle_post)

-- the net did not listen, or did not give as many shares as there were to be; those that it gave are back
pub record IsUnshared {N S L : Type 0} (tells : NetTells N L) (parts : SharesTell N S L) (links : LinksTell L) (calls : List NetCall) (before now : N) : Type 0 where
  pub shared : parts.shared now ≡ parts.shared before
  pub idle : HasIdleBack tells links before now
  pub asked : tells.asked now ≡ with_more (tells.asked before) calls
  pub faults : Rose (tells.faults before) (tells.faults now)

-- no memory was found before a link was accepted; the net was asked nothing, or these calls, and all shares are back
pub record WantsOn {N S L : Type 0} (tells : NetTells N L) (parts : SharesTell N S L) (links : LinksTell L) (calls : List NetCall) (before now : N) : Type 0 where
  pub shared : parts.shared now ≡ parts.shared before
  pub idle : HasIdleBack tells links before now
  pub asked : (tells.asked now ≡ tells.asked before) ⊎ (tells.asked now ≡ with_more (tells.asked before) calls)

abbrev pub HostsOn : (ℕ → Type 0) → Type 0 → List SessionId → Bool → {N S L : Type 0} → NetTells N L → SharesTell N S L
    → LinksTell L → List NetCall → ℕ → N → N → Result HostedOn ServeFault → Type 0
HostsOn gives may listed on_demand tells parts links calls count before now (Ok hosted) =
    IsHostedOn gives may listed on_demand tells parts links calls count before now hosted
HostsOn gives may listed on_demand tells parts links calls count before now (Err ListenFault) =
    IsUnshared tells parts links calls before now
HostsOn gives may listed on_demand tells parts links calls count before now (Err WantOfMemory) =
    WantsOn tells parts links calls before now

-- ---- what is made before

-- rooms, the lead row, and a row for each post
pub record IsPrepared {S : Type 0} (listed : List SessionId) (on_demand : Bool) (count : ℕ) (prepared : Prepared S) : Type 0 where
  pub rooms : length prepared.rooms.items ≡ rooms_for on_demand listed
  pub leads : AtEach (IsBegun (count * post_numbers)) prepared.rooms.items prepared.lead.seats.items
  pub listed_are : prepared.claims.listed ≡ listed
  pub claim : IsBegunClaim count prepared.claims prepared.lead.claim
  pub rows : All (IsPostRow prepared.lead) prepared.rows.items
  pub number : vec_len prepared.rows ≡ count
  pub none_posted : prepared.posts.items ≡ []
  pub room_for_posts : count ≤ vec_capacity prepared.posts
  pub none_ended : prepared.ended.items ≡ []
  pub room_for_ended : count ≤ vec_capacity prepared.ended
  pub none_told : prepared.outcomes.items ≡ []
  pub room_for_outcomes : count ≤ vec_capacity prepared.outcomes
  pub none_closed : prepared.sessions.items ≡ []
  pub room_for_sessions : length prepared.rooms.items ≤ vec_capacity prepared.sessions
