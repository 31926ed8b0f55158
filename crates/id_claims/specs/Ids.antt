-- A list of sessions' ids that only grows, by ids that it did not have.
use Rattle.std.specs.Prelude.{◌≡◌, ◌⊎◌, ℕ, ◌≤◌, Bool, bytes_eq, List, [], ◌∷◌, ◌++◌, length, position, Option, None}
use Rattle.tea_base.specs.declared.entry.SessionId.{SessionId}

-- the most ids that the list may have
abbrev pub most_ids : ℕ
most_ids = 256

abbrev pub is_id : SessionId → SessionId → Bool
is_id id other = bytes_eq other.0 id.0

-- the place where the id stands first, if it is among these
abbrev pub place_of : List SessionId → SessionId → Option ℕ
place_of ids id = position (is_id id) ids

-- the list begins with these
abbrev pub Begins : List SessionId → List SessionId → Type 0
Begins first ids = (rest : List SessionId) × (first ++ rest ≡ ids)

-- each later id is new: it is neither among the first ones nor among the later ones before it
abbrev pub AreNew : List SessionId → List SessionId → Type 0
AreNew first [] = Unit {0}
AreNew first (id ∷ later) = (place_of first id ≡ None) × AreNew (first ++ id ∷ []) later

-- the list is the same, or has this one more, which is new
abbrev pub TakesNew : List SessionId → SessionId → List SessionId → Type 0
TakesNew before id after = (after ≡ before) ⊎ ((after ≡ before ++ id ∷ []) × (place_of before id ≡ None))

-- The id has the place where it stands first. It has none only where the list is full of others.
pub record HasPlace (ids : List SessionId) (id : SessionId) (place : Option ℕ) : Type 0 where
  pub found : place ≡ place_of ids id
  pub full : place ≡ None → length ids ≡ most_ids
  pub few : length ids ≤ most_ids
