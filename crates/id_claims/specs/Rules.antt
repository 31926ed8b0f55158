-- The rule of the claims: what holds of their word, their slot and all passes between any two steps.
use Rattle.std.specs.Prelude.{◌≡◌, ◌⊎◌, ℕ, ◌<◌, ◌≤◌, Bool, true, false, List, [], ◌∷◌, ◌++◌, All, Contains, sum_by}
use mathlib.Core.Option.{some}
use lib.ListN.{get_elem?}
use Rattle.atomic_table.specs.Table.{State}
use Rattle.tea_base.specs.declared.entry.SessionId.{SessionId}
use Rattle.id_claims.specs.declared.knowledge.Knowledge.{Knowledge}
use Rattle.id_claims.specs.Ids.{AreNew, Begins}

-- how many parts there are, which passes share
abbrev pub all_parts : ℕ
all_parts = 4294967296

abbrev pub parts : Knowledge → ℕ
parts v = v.parts

abbrev pub one_if : Bool → ℕ
one_if true = 1
one_if false = 0

abbrev pub is_holding : Knowledge → ℕ
is_holding v = one_if v.holding

-- P holds of each view
abbrev pub Every : (Knowledge → Type 0) → List Knowledge → Type 0
Every P views = (i : ℕ) (v : Knowledge) → get_elem? views i ≡ some v → P v

-- P holds of some view
abbrev pub SomeView : (Knowledge → Type 0) → List Knowledge → Type 0
SomeView P views = (i : ℕ) × (v : Knowledge) × (get_elem? views i ≡ some v) × P v

-- it has put this id into the list
abbrev pub HasMade : SessionId → Knowledge → Type 0
HasMade id v = Contains v.made id

-- what a view has seen begins the list
abbrev pub HasSeen : List SessionId → Knowledge → Type 0
HasSeen ids v = Begins v.seen ids × Begins v.also ids

-- it has a part, and has seen the whole list
abbrev pub KnowsAll : List SessionId → Knowledge → Type 0
KnowsAll ids v = (0 < v.parts) × ((v.seen ≡ ids) ⊎ (v.also ≡ ids))

-- who has the list in hand has a part, and has seen it as it was taken
abbrev pub HoldsList : List SessionId → Knowledge → Type 0
HoldsList ids v = v.holding ≡ true → (0 < v.parts) × (v.seen ≡ ids)

-- a view with no part is that of a pass which was merged
abbrev pub SpentMadeNone : Knowledge → Type 0
SpentMadeNone v = v.parts ≡ 0 → v.made ≡ []

-- What holds of the list, of the table and of all views.
pub record IsInOrder (listed ids : List SessionId) (s : State (List SessionId) Knowledge) : Type 0 where
  -- the ids behind those that the claims began with are new, and each was put there by a pass
  pub later : List SessionId
  pub grows : listed ++ later ≡ ids
  pub new : AreNew listed later
  pub asked : All (λ id. SomeView (HasMade id) s.views) later
  -- the word is 1 where a view has the list in hand, and else 0
  pub word : s.words ≡ sum_by is_holding s.views ∷ []
  pub one : sum_by is_holding s.views ≤ 1
  pub hand : Every (HoldsList ids) s.views
  -- where none has, it lies in the slot
  pub home : sum_by is_holding s.views ≡ 0 → s.homes ≡ some ids ∷ []
  pub seen : Every (HasSeen ids) s.views
  pub told : SomeView (KnowsAll ids) s.views
  pub whole : sum_by parts s.views ≡ all_parts
  pub spent : Every SpentMadeNone s.views

-- there is one list that holds of the table
abbrev pub Keeps : List SessionId → State (List SessionId) Knowledge → Type 0
Keeps listed s = (ids : List SessionId) × IsInOrder listed ids s

-- what the first pass knows
abbrev pub first_knowledge : List SessionId → Knowledge
first_knowledge listed = record { parts = all_parts; made = []; seen = listed; also = []; holding = false }
