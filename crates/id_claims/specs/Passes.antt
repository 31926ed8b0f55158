-- What contracts see of claims and of a pass, and how each call leaves a pass.
use Rattle.std.specs.Prelude.{◌≡◌, ◌⊎◌, ℕ, ◌+◌, ◌≤◌, List, [], ◌∷◌, ◌++◌, length, All, Contains, Option}
use Rattle.atomic_table.specs.Seated.{TableId}
use Rattle.tea_base.specs.declared.entry.SessionId.{SessionId}
use Rattle.id_claims.specs.declared.knowledge.Knowledge.{Knowledge}
use Rattle.id_claims.specs.Ids.{AreNew, Begins, HasPlace, most_ids}
use Rattle.id_claims.specs.Rules.{all_parts}

-- what no other claims have, and the ids that they began with
pub record ClaimsState : Type 0 where
  pub claims : TableId
  pub listed : List SessionId

abbrev pub claims_state : TableId → List SessionId → ClaimsState
claims_state claims listed = record { claims = claims; listed = listed }

-- Of which claims it is a pass, how many parts of all parts it has, the ids that its own calls have put into the list, and the list as it has seen it.
pub record PassState : Type 0 where
  pub claims : TableId
  pub parts : ℕ
  pub made : List SessionId
  pub seen : List SessionId

-- what a contract sees of a seat with this knowledge
abbrev pub pass_state : TableId → Knowledge → PassState
pass_state claims v = record { claims = claims; parts = v.parts; made = v.made; seen = v.seen }

-- the first pass has all parts, and has seen the ids that the claims begin with
abbrev pub first_pass : ClaimsState → PassState
first_pass claims = record { claims = claims.claims; parts = all_parts; made = []; seen = claims.listed }

-- The pass after a claim. It has seen a list that begins with all that it had seen, and in which the id has its place. If the claim put an id
-- into the list, it is this one.
pub record Claimed (before after : PassState) (id : SessionId) (place : Option ℕ) : Type 0 where
  pub same : after ≡ record before { made = after.made; seen = after.seen }
  pub grows : Begins before.seen after.seen
  pub has : HasPlace after.seen id place
  pub made : (after.made ≡ before.made) ⊎ (after.made ≡ before.made ++ id ∷ [])

-- The pass after another was merged into it. It has the parts of both, and has seen a list that begins with all that either had seen.
pub record Merged (before other after : PassState) : Type 0 where
  pub same :
      after
      ≡ record before {
        parts = before.parts + other.parts;
        made = before.made ++ other.made;
        seen = after.seen;
      }
  pub grows : Begins before.seen after.seen
  pub grows_other : Begins other.seen after.seen

-- The list in the end, closed by the pass of all parts, which has seen it. Each id behind those that the claims began with is new, and was put there by a call of a pass
-- that was merged into this one.
pub record Closes (listed : List SessionId) (pass : PassState) (ids : List SessionId) : Type 0 where
  pub later : List SessionId
  pub grows : listed ++ later ≡ ids
  pub seen : pass.seen ≡ ids
  pub new : AreNew listed later
  pub asked : All (Contains pass.made) later
  pub few : length ids ≤ most_ids
