-- Sessions with their lead passes, and rows of passes with one for each session.
use Rattle.std.specs.Prelude.{◌≡◌, ℕ, ◌+◌, ◌≤◌, ◌<◌, Bool, true, false, List, [], ◌∷◌, length, slice_get, Some}
use Rattle.tea_base.specs.declared.entry.SessionId.{SessionId}
use Rattle.id_claims.specs.Ids.{most_ids}
use Rattle.session_lock.specs.History.{calls_of}
use Rattle.session_lock.specs.Numbers.{count_of}
use Rattle.session_lock.specs.Passes.{PassState, Merged, caller, numbers_held}
use Rattle.session_lock.specs.Rules.{all_numbers}
use Rattle.reflect_server.specs.Passes.{IsFresh, Keeps}
use Rattle.host_server.specs.Claiming.{HasGivenClaims, IsFreshClaim}
use Rattle.host_server.specs.declared.rooms.Room.{Room}
use Rattle.host_server.specs.declared.rooms.Row.{Row}

-- two lists are as long as each other, and it is so at each place of them
pub record AtEach {A B : Type 0} (holds : A → B → Type 0) (xs : List A) (ys : List B) : Type 0 where
  pub as_long : length xs ≡ length ys
  pub each : (place : ℕ) (x : A) (y : B) → slice_get xs place ≡ Some x → slice_get ys place ≡ Some y → holds x y

-- the same of three lists, by the place too
pub record AtAll {A B C : Type 0} (holds : ℕ → A → B → C → Type 0) (xs : List A) (ys : List B)
    (zs : List C) : Type 0 where
  pub as_long : length xs ≡ length ys
  pub as_many : length xs ≡ length zs
  pub each : (place : ℕ) (x : A) (y : B) (z : C) → slice_get xs place ≡ Some x → slice_get ys place ≡ Some y
      → slice_get zs place ≡ Some z → holds place x y z

-- a host has at most so many sessions
abbrev pub most_sessions : ℕ
most_sessions = most_ids

-- how many rooms there are: one for each id that is listed, or as many as there may be sessions where these are made on demand
abbrev pub rooms_for : Bool → List SessionId → ℕ
rooms_for true listed = most_sessions
rooms_for false listed = length listed

-- there are so many rooms for these ids, which are not none and not too many
pub record AreRoomsFor {K : Type 0} (on_demand : Bool) (listed : List SessionId) (rooms : List (Room K)) : Type 0 where
  pub count : length rooms ≡ rooms_for on_demand listed
  pub some : 0 < length listed
  pub few : length listed ≤ most_sessions

-- the pass is of the room's session
abbrev pub IsOf : {K : Type 0} → Room K → PassState → Type 0
IsOf room pass = pass.session ≡ room.shared.session

-- the pass is of the session of the room at this place
abbrev pub IsOfPlace : {K : Type 0} → List (Room K) → ℕ → PassState → Type 0
IsOfPlace rooms place pass = (room : Room _) → slice_get rooms place ≡ Some room → IsOf room pass

-- and has made no call
abbrev pub IsIdle : {K : Type 0} → Room K → PassState → Type 0
IsIdle room pass = IsOf room pass × (calls_of (caller pass ∷ []) pass.seen ≡ [])

-- and it holds all numbers
abbrev pub IsWhole : {K : Type 0} → Room K → PassState → Type 0
IsWhole room pass = IsOf room pass × (numbers_held pass ≡ all_numbers)

-- a fresh pass was split off this one, and has one of its numbers
pub record HasSplit (before now fresh : PassState) : Type 0 where
  pub kept : now ≡ record before { spare = now.spare }
  pub is_fresh : IsFresh before fresh
  pub numbers : numbers_held now + 1 ≡ numbers_held before
  pub spare : count_of now.spare + 1 ≡ count_of before.spare

-- so many were
pub record HasGiven (count : ℕ) (before now : PassState) : Type 0 where
  pub kept : now ≡ record before { spare = now.spare }
  pub numbers : numbers_held now + count ≡ numbers_held before
  pub spare : count_of now.spare + count ≡ count_of before.spare

-- a pass was merged into this one
pub record TakesIn (before other now : PassState) : Type 0 where
  pub merged : Merged before other now
  pub numbers : numbers_held now ≡ numbers_held before + numbers_held other

-- so many passes were merged into this one, none of which had made a call
pub record HasKept (count : ℕ) (before now : PassState) : Type 0 where
  pub keeps : Keeps before now
  pub numbers : numbers_held now ≡ numbers_held before + count

-- a row that was split off this one, and has done nothing
pub record IsFreshRow {K : Type 0} (lead row : Row K) : Type 0 where
  pub seats : AtEach IsFresh lead.seats.items row.seats.items
  pub claim : IsFreshClaim lead.claim row.claim

-- so many rows were split off this one
pub record HasGivenRow {K : Type 0} (count : ℕ) (before now : Row K) : Type 0 where
  pub seats : AtEach (HasGiven count) before.seats.items now.seats.items
  pub claim : HasGivenClaims count before.claim now.claim

-- the pass only added to itself
abbrev pub KeepsItself : PassState → PassState → Type 0
KeepsItself lead same = Keeps lead lead
