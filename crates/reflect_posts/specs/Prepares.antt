-- What is made before a net is asked, and what comes of it until the session is closed.
use Rattle.std.specs.Prelude.{◌≡◌, ℕ, ◌*◌, ◌≤◌, Bool, List, [], ◌∷◌, All, vec_len, vec_capacity}
use Rattle.tea_base.specs.declared.entry.SessionId.{SessionId}
use Rattle.run_steps.specs.Outside.{LinksTell, NetTells}
use Rattle.session_lock.specs.Passes.{PassState, SharedState, caller, numbers_held}
use Rattle.session_lock.specs.Rules.{all_numbers}
use Rattle.id_claims.specs.Passes.{ClaimsState}
use Rattle.id_claims.specs.Passes as claims
use Rattle.reflect_server.specs.Opening.{HasOpened}
use Rattle.host_server.specs.Claiming.{GathersClaims, InTheEnd, IsBegunClaim, IsFreshClaim}
use Rattle.host_server.specs.Rows.{AtEach, HasGiven}
use Rattle.host_server.specs.declared.rooms.Room.{Room}
use Rattle.host_server.specs.declared.rooms.Row.{Row}
use Rattle.host_posts.specs.Posts.{post_numbers}
use Rattle.host_posts.specs.Rounds.{PostsGo}
use Rattle.host_posts.specs.declared.running.PostRound.{PostRound}
use Rattle.reflect_posts.specs.declared.preparing.Stock.{Stock}

-- a row that has no pass yet, and room for one
pub record IsBareRow {K : Type 0} (lead : claims.PassState) (row : Row K) : Type 0 where
  pub none : row.seats.items ≡ []
  pub room : 1 ≤ vec_capacity row.seats
  pub claim : IsFreshClaim lead row.claim

-- what posts will have: a row for each, and room for what comes
pub record IsStocked {S K : Type 0} (count : ℕ) (whole : ClaimsState) (stock : Stock S K) : Type 0 where
  pub no_lead : stock.lead.seats.items ≡ []
  pub room_for_lead : 1 ≤ vec_capacity stock.lead.seats
  pub claim : IsBegunClaim count whole stock.lead.claim
  pub rows : All (IsBareRow stock.lead.claim) stock.rows.items
  pub number : vec_len stock.rows ≡ count
  pub none_posted : stock.posts.items ≡ []
  pub room_for_posts : count ≤ vec_capacity stock.posts
  pub none_ended : stock.ended.items ≡ []
  pub room_for_ended : count ≤ vec_capacity stock.ended
  pub none_told : stock.outcomes.items ≡ []
  pub room_for_outcomes : count ≤ vec_capacity stock.outcomes

-- the lead pass holds all numbers of the session, and has opened it
pub record IsOpened {T : Type 0} (gives : ℕ → Type 0) (shared : SharedState T) (lead : PassState) : Type 0 where
  pub session : lead.session ≡ shared.session
  pub opened : HasOpened gives lead.opening lead
  pub numbers : numbers_held lead ≡ all_numbers

-- it has one caller, its own
abbrev pub IsAlone : PassState → Type 0
IsAlone pass = pass.callers ≡ caller pass ∷ []

-- What posts have done, whose passes were split off this one: a post for each share was run to its end, and all that they have was put together.
pub record HasServed (gives : ℕ → Type 0) (may : Type 0) (listed : List SessionId) (on_demand : Bool) {N S L K : Type 0} (tells : NetTells N L)
    (shares : NetTells S L) (links : LinksTell L) (rooms : List (Room K)) (whole : ClaimsState) (count : ℕ) (lead : PassState)
    (net : N) (now : PostRound N K) : Type 0 where
  pub start : PostRound N K
  pub same_net : start.net ≡ net
  pub given : AtEach (HasGiven (count * post_numbers)) (lead ∷ []) start.lead.seats.items
  pub begun : IsBegunClaim count whole start.lead.claim
  pub claim : GathersClaims on_demand count start.lead.claim now.lead.claim
  pub go : InTheEnd on_demand listed now.lead.claim.seen
      (λ ids. PostsGo gives may ids on_demand tells shares links rooms count start now)
