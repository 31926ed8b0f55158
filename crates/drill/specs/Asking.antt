-- What the callers of a drill ask. The worker of a view calls by the view's own number.
use Rattle.std.specs.Prelude.{◌≡◌, ◌≤◌, ℕ, ◌+◌, ◌*◌, List, [], ◌∷◌, length}
use Rattle.std.specs.List.{AllByRecursion}
use Rattle.reflector_core.specs.SessionState.{entries_used}
use Rattle.reflector_core.specs.declared.request.Request.{Request}
use Rattle.reflector_core.specs.declared.request.Request.TheVariants.{Join, Send, Tick, Leave, Offer, Pull}
use Rattle.session_lock.specs.declared.knowledge.Item.{Item}
use Rattle.session_lock.specs.declared.knowledge.Item.TheVariants.{Did, Void, Unkept}

-- how many bytes a payload of the drill has at most
abbrev pub most_short : ℕ
most_short = 64

-- the requests of a view, at times that the clock may give
abbrev pub IsAskedBy : (ℕ → Type 0) → ℕ → Request → Type 0
IsAskedBy gives view (Join own now want) = (own ≡ view) × gives now
IsAskedBy gives view (Send own joined number payload now) = (own ≡ view) × gives now × (length payload ≤ most_short)
IsAskedBy gives view (Tick now) = gives now
IsAskedBy gives view (Leave own joined now) = (own ≡ view) × gives now
IsAskedBy gives view (Offer own joined time bytes) = own ≡ view
IsAskedBy gives view (Pull after limit) = Unit {0}

-- each caller is one of the views, and asks for itself
abbrev pub IsAskedInDrill : (ℕ → Type 0) → ℕ → Item → Type 0
IsAskedInDrill gives views (Did caller request) = (1 ≤ caller) × (caller ≤ views) × IsAskedBy gives caller request
IsAskedInDrill gives views (Void caller) = (1 ≤ caller) × (caller ≤ views)
IsAskedInDrill gives views (Unkept caller) = (1 ≤ caller) × (caller ≤ views)

-- how many entries the items put into a log at most
abbrev pub entries_used_by : List Item → ℕ
entries_used_by [] = 0
entries_used_by (Did caller request ∷ rest) = entries_used request + entries_used_by rest
entries_used_by (Void caller ∷ rest) = entries_used_by rest
entries_used_by (Unkept caller ∷ rest) = entries_used_by rest

-- a view asks for its first Join, for up to three entries behind each event, and for its Exit
abbrev pub most_asked : ℕ → ℕ
most_asked events = 2 + 3 * events

-- eight views of 10,000 events
abbrev pub most_asked_by_all : ℕ
most_asked_by_all = 240016

-- a history in which nobody asks but the views of a drill
pub record IsDrillHistory (gives : ℕ → Type 0) (views : ℕ) (history : List Item) : Type 0 where
  pub asked : AllByRecursion (IsAskedInDrill gives views) history
  pub few : entries_used_by history ≤ most_asked_by_all
