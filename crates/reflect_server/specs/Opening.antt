-- How a reflector opens a session that goes on: each view that is here in it is made to leave.
use Rattle.std.specs.Prelude.{◌≡◌, ℕ, ◌+◌, ◌-◌, ◌<◌, ◌^◌, min, true, List, [], ◌∷◌, ◌++◌, map, Some, None}
use Rattle.std.specs.List.{AllByRecursion}
use Rattle.tea_base.specs.declared.entry.Entry.{Entry}
use Rattle.tea_base.specs.Readings.{current, is_here}
use Rattle.reflector_core.specs.PlainSession.{PlainSession}
use Rattle.reflector_core.specs.Stored.{IsNextHere}
use Rattle.reflector_core.specs.declared.request.Request.TheVariants.{Leave}
use Rattle.session_lock.specs.declared.knowledge.Item.{Item}
use Rattle.session_lock.specs.declared.knowledge.Item.TheVariants.{Did, Void, Unkept}
use Rattle.session_lock.specs.History.{calls_of, has}
use Rattle.session_lock.specs.Passes.{PassState, caller, own_calls}

-- the times that a clock may give after this one: its value more, and at most the last of 64 bits
abbrev pub gives_later : (ℕ → Type 0) → ℕ → ℕ → Type 0
gives_later gives since time = (value : ℕ) × gives value × (time ≡ min (value + since) (2 ^ 64 - 1))

-- all views above this that are here, in rising order, each with the seq of its Join
abbrev pub AreHereAbove : List Entry → ℕ → List (ℕ × ℕ) → Type 0
AreHereAbove log above [] = IsNextHere log above None
AreHereAbove log above (one ∷ rest) = IsNextHere log above (Some one) × AreHereAbove log one.0 rest

-- all views that are here: none has the number 0
abbrev pub AreHere : List Entry → List (ℕ × ℕ) → Type 0
AreHere log views = AreHereAbove log 0 views

-- each view's number is above this one and above those before it
abbrev pub RiseAbove : ℕ → List (ℕ × ℕ) → Type 0
RiseAbove above [] = Unit {0}
RiseAbove above (one ∷ rest) = (above < one.0) × RiseAbove one.0 rest

-- just the views that are here, each once, in rising order, and each with the seq of its Join
pub record AreJustThoseHere (log : List Entry) (views : List (ℕ × ℕ)) : Type 0 where
  pub rise : RiseAbove 0 views
  pub each : AllByRecursion (λ one. (is_here log one.0 ≡ true) × (one.1 ≡ current log one.0)) views
  pub all : (view : ℕ) → is_here log view ≡ true → has view (map (λ one. one.0) views) ≡ true

-- the opener's Leave of the view by its Join, at a time that the clock may give; or its Void, where the Leave found no memory
abbrev pub IsLeaveOf : (ℕ → Type 0) → ℕ → ℕ × ℕ → Item → Type 0
IsLeaveOf gives opener one (Did who (Leave view joined now)) = (who ≡ opener) × (view ≡ one.0) × (joined ≡ one.1)
    × gives now
IsLeaveOf gives opener one (Void who) = who ≡ opener
IsLeaveOf gives opener one item = ⊥

-- one for each, in the same order
abbrev pub AreLeavesOf : (ℕ → Type 0) → ℕ → List (ℕ × ℕ) → List Item → Type 0
AreLeavesOf gives opener [] [] = Unit {0}
AreLeavesOf gives opener (one ∷ rest) (item ∷ items) =
    IsLeaveOf gives opener one item × AreLeavesOf gives opener rest items
AreLeavesOf gives opener views items = ⊥

-- The history begins with the opening Leaves: one item of the opener for each view that was here, in rising order. After
-- them the opener has made no call.
pub record BeginsWithLeaves (gives : ℕ → Type 0) (opening : PlainSession) (opener : ℕ)
    (history : List Item) : Type 0 where
  pub views : List (ℕ × ℕ)
  pub here : AreHere opening.log views
  pub leaves : List Item
  pub made : AreLeavesOf gives opener views leaves
  pub rest : List Item
  pub first : leaves ++ rest ≡ history
  pub others : calls_of (opener ∷ []) rest ≡ []

-- a pass has made the Leave of a view
abbrev pub HasMadeLeave : (ℕ → Type 0) → ℕ × ℕ → PassState → PassState → Type 0
HasMadeLeave gives one before after =
    (item : Item) × IsLeaveOf gives (caller before) one item × (own_calls after ≡ own_calls before ++ item ∷ [])

-- and those of all views, in order
abbrev pub HasMadeLeaves : (ℕ → Type 0) → List (ℕ × ℕ) → PassState → PassState → Type 0
HasMadeLeaves gives views before after =
    (items : List Item) × AreLeavesOf gives (caller before) views items × (own_calls after ≡ own_calls before ++ items)

-- a pass of this session has one caller, whose calls are the opening Leaves
pub record HasOpened (gives : ℕ → Type 0) (opening : PlainSession) (pass : PassState) : Type 0 where
  pub one : pass.callers ≡ caller pass ∷ []
  pub views : List (ℕ × ℕ)
  pub here : AreHere opening.log views
  pub made : AreLeavesOf gives (caller pass) views (own_calls pass)

-- the pass's own caller has made a Leave that was not kept
abbrev pub HasMadeUnkept : PassState → PassState → Type 0
HasMadeUnkept before after = own_calls after ≡ own_calls before ++ Unkept (caller before) ∷ []

-- The items are the Leaves of some of the views, in order, and that of the next one, which was not kept.
pub record StopsAtLeave (gives : ℕ → Type 0) (opener : ℕ) (views : List (ℕ × ℕ)) (items : List Item) : Type 0 where
  pub made : List (ℕ × ℕ)
  pub next : ℕ × ℕ
  pub left : List (ℕ × ℕ)
  pub views_are : views ≡ made ++ next ∷ left
  pub leaves : List Item
  pub each : AreLeavesOf gives opener made leaves
  pub items_are : items ≡ leaves ++ Unkept opener ∷ []

-- a pass has made these
abbrev pub HasStopped : (ℕ → Type 0) → List (ℕ × ℕ) → PassState → PassState → Type 0
HasStopped gives views before after =
    (items : List Item) × StopsAtLeave gives (caller before) views items × (own_calls after ≡ own_calls before ++ items)
