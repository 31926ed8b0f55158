-- What each step on the claims' table tells the pass that makes it.
use Rattle.std.specs.Prelude.{◌≡◌, ◌≢◌, ℕ, ◌+◌, ◌-◌, ◌<◌, true, false, List, [], ◌∷◌, ◌++◌, drop, length, Option}
use Rattle.atomic_table.specs.Table.{Me, Step}
use Rattle.tea_base.specs.declared.entry.SessionId.{SessionId}
use Rattle.id_claims.specs.declared.knowledge.Knowledge.{Knowledge}
use Rattle.id_claims.specs.Ids.{Begins, HasPlace, TakesNew}

-- a pass's view, and the list where the pass has it in hand
abbrev pub M : Type 0
M = Me (List SessionId) Knowledge

-- it has a part, and nothing in hand
pub record IsIdle (m : M) : Type 0 where
  pub empty : m.1 ≡ []
  pub free : m.0.holding ≡ false
  pub settled : m.0.also ≡ []
  pub part : 0 < m.0.parts

-- it has the list in hand, with all that it had seen
abbrev pub with_list : Knowledge → List SessionId → Knowledge
with_list v ids = record v { seen = ids; holding = true }

pub record HasTaken (m m' : M) : Type 0 where
  pub ids : List SessionId
  pub grows : Begins m.0.seen ids
  pub is : m' ≡ (with_list m.0 ids, (0, ids) ∷ [])

-- take: the list was taken, or nothing changed
abbrev pub Takes : Step (List SessionId) → M → ℕ → M → Type 0
Takes st m found m' = (found ≡ 0 → HasTaken m m') × (found ≢ 0 → m' ≡ m)

-- it has given the list back; what is behind all that it had seen is its own
abbrev pub with_rest : Knowledge → List SessionId → Knowledge
with_rest v ids = record v { seen = ids; made = v.made ++ drop (length v.seen) ids; holding = false }

-- give back: the list in hand is back in the slot
abbrev pub GivesBack : Step (List SessionId) → M → ℕ → M → Type 0
GivesBack st m found m' = (ids : List SessionId) → m.1 ≡ (0, ids) ∷ [] → m' ≡ (with_rest m.0 ids, [])

-- look: it has seen the whole list, which begins with all that it, and a pass merged into it, had seen
pub record HasLooked (m m' : M) : Type 0 where
  pub ids : List SessionId
  pub grows : Begins m.0.seen ids
  pub grows_other : Begins m.0.also ids
  pub is : m' ≡ (record m.0 { seen = ids; also = [] }, m.1)

abbrev pub Looks : Step (List SessionId) → M → ℕ → M → Type 0
Looks st m found m' = HasLooked m m'

-- one part is cut off, for a pass that has put no id into the list
abbrev pub cut_left : Knowledge → Knowledge
cut_left v = record v { parts = v.parts - 1 }

abbrev pub cut_right : Knowledge → Knowledge
cut_right v = record { parts = 1; made = []; seen = v.seen; also = []; holding = false }

-- two are put together, and one of them is gone
abbrev pub joined : Knowledge → Knowledge → Knowledge
joined v w = record v { parts = v.parts + w.parts; made = v.made ++ w.made; also = w.seen }

abbrev pub gone : Knowledge
gone = record { parts = 0; made = []; seen = []; also = []; holding = false }

-- an id was claimed in the list in hand
pub record HasWorked (m : M) (id : SessionId) (place : Option ℕ) (m' : M) : Type 0 where
  pub before : List SessionId
  pub after : List SessionId
  pub had : m.1 ≡ (0, before) ∷ []
  pub has : m' ≡ (m.0, (0, after) ∷ [])
  pub takes : TakesNew before id after
  pub place_is : HasPlace after id place

-- the list in hand is as it was taken, or has one new id more
pub record MayGiveBack (m : M) : Type 0 where
  pub holding : m.0.holding ≡ true
  pub ids : List SessionId
  pub id : SessionId
  pub hand : m.1 ≡ (0, ids) ∷ []
  pub takes : TakesNew m.0.seen id ids
