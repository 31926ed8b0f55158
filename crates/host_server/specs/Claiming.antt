-- Ids that are claimed by the first frames of links, while others claim too.
use Rattle.std.specs.Prelude.{◌≡◌, ℕ, ◌+◌, ◌≤◌, Bool, true, false, List, [], ◌++◌, All, length, position, slice_get, Some, None}
use Rattle.id_claims.specs.Ids.{Begins, is_id, most_ids}
use Rattle.id_claims.specs.Passes.{ClaimsState, PassState}
use Rattle.id_claims.specs.Rules.{all_parts}
use Rattle.tea_base.specs.declared.entry.SessionId.{SessionId}
use Rattle.host_server.specs.Routing.{IsJoinOf, goes_to}

-- These may be the ids in the end, by those that a pass has seen. They are those that were listed where none is made on demand.
pub record MayBeAll (on_demand : Bool) (listed seen ids : List SessionId) : Type 0 where
  pub begins : Begins listed ids
  pub grows : Begins seen ids
  pub few : length ids ≤ most_ids
  pub still : on_demand ≡ false → ids ≡ listed

-- it is so, whichever of these are the ids in the end
abbrev pub InTheEnd : Bool → List SessionId → List SessionId → (List SessionId → Type 0) → Type 0
InTheEnd on_demand listed seen holds = (ids : List SessionId) → MayBeAll on_demand listed seen ids → holds ids

-- it is so of the id at this place, if there is one
abbrev pub OfId : List SessionId → ℕ → (SessionId → Type 0) → Type 0
OfId ids place holds = (id : SessionId) → slice_get ids place ≡ Some id → holds id

-- The session at this place, which has this id, is the one that the first frame goes to. Where sessions are made on demand, no id that the frame
-- names is missing but where there are as many as there may be.
pub record IsTarget (on_demand : Bool) (ids : List SessionId) (first : List ℕ) (place : ℕ) (id : SessionId) : Type 0 where
  pub goes : goes_to ids first ≡ place
  pub has : slice_get ids place ≡ Some id
  pub met :
      on_demand ≡ true → (named : SessionId) → IsJoinOf first named → position (is_id named) ids ≡ None
      → length ids ≡ most_ids

-- ids came behind these, each of which is so
pub record Adds (holds : SessionId → Type 0) (before after : List SessionId) : Type 0 where
  pub more : List SessionId
  pub are : before ++ more ≡ after
  pub each : All holds more

-- the pass has claimed an id that the first frame names, or none; and none where none is made on demand
pub record ClaimsFor (on_demand : Bool) (first : List ℕ) (before after : PassState) : Type 0 where
  pub claims : after.claims ≡ before.claims
  pub parts : after.parts ≡ before.parts
  pub made : Adds (IsJoinOf first) before.made after.made
  pub none : on_demand ≡ false → after.made ≡ before.made
  pub grows : Begins before.seen after.seen

-- a pass that has claimed nothing, with one part, of the claims of this one
pub record IsFreshClaim (lead fresh : PassState) : Type 0 where
  pub claims : fresh.claims ≡ lead.claims
  pub parts : fresh.parts ≡ 1
  pub made : fresh.made ≡ []

-- so many parts were split off
pub record HasGivenClaims (count : ℕ) (before now : PassState) : Type 0 where
  pub kept : now ≡ record before { parts = now.parts }
  pub parts : now.parts + count ≡ before.parts

-- passes with so many parts were merged into this one, none of which has claimed anything
pub record HasKeptClaims (count : ℕ) (before now : PassState) : Type 0 where
  pub claims : now.claims ≡ before.claims
  pub parts : now.parts ≡ before.parts + count
  pub made : now.made ≡ before.made

-- passes with so many parts were merged into this one, none of which has claimed anything where none is made on demand
pub record GathersClaims (on_demand : Bool) (count : ℕ) (before now : PassState) : Type 0 where
  pub claims : now.claims ≡ before.claims
  pub parts : now.parts ≡ before.parts + count
  pub none : on_demand ≡ false → now.made ≡ before.made

-- the first pass of claims, but for the parts that were split off
pub record IsBegunClaim (count : ℕ) (whole : ClaimsState) (lead : PassState) : Type 0 where
  pub claims : lead.claims ≡ whole.claims
  pub parts : lead.parts + count ≡ all_parts
  pub made : lead.made ≡ []
