-- The rule of the lock: what holds of its three words, its slot and all passes between any two steps.
use Rattle.std.specs.Prelude.{◌≡◌, ◌⊎◌, ℕ, ◌+◌, ◌<◌, ◌≤◌, ◌^◌, Bool, true, false, eqb, leb, List, [], ◌∷◌, ◌++◌, length, if◌then◌else◌, Option, Some, None}
use mathlib.Core.Option.{some, none}
use lib.ListN.{get_elem?}
use Rattle.atomic_table.specs.Table.{State}
use Rattle.reflector_core.specs.PlainSession.{PlainSession}
use Rattle.session_lock.specs.declared.knowledge.Item.{Item}
use Rattle.session_lock.specs.declared.knowledge.Range.{Range}
use Rattle.session_lock.specs.declared.knowledge.Hope.{Hope}
use Rattle.session_lock.specs.declared.knowledge.Part.{Part}
use Rattle.session_lock.specs.declared.knowledge.Knowledge.{Knowledge}
use Rattle.session_lock.specs.declared.held.KeptSession.{KeptSession}
use Rattle.session_lock.specs.History.{play_from, calls_of, Begins, GoesWell, Saw, IsSoundThrough}
use Rattle.session_lock.specs.Numbers.{times, in_ranges, count_of, one_between}

-- how many numbers there are
abbrev pub all_numbers : ℕ
all_numbers = 4294967296

-- f of each view, added up
abbrev pub views_total : (Knowledge → ℕ) → List Knowledge → ℕ
views_total f [] = 0
views_total f (v ∷ vs) = f v + views_total f vs

-- 1 where this is the ticket, and else 0
abbrev pub is_ticket : ℕ → Option ℕ → ℕ
is_ticket t None = 0
is_ticket t (Some k) = if eqb t k then 1 else 0

abbrev pub has_ticket : ℕ → Knowledge → ℕ
has_ticket t v = is_ticket t v.ticket

abbrev pub one_if : Bool → ℕ
one_if true = 1
one_if false = 0

abbrev pub is_holding : Knowledge → ℕ
is_holding v = one_if v.holding

-- how often the number is that of one of the view's callers
abbrev pub calls_as : ℕ → Knowledge → ℕ
calls_as n v = times n v.callers

-- how often the view holds the number, as one of its callers' or as a spare one
abbrev pub holds_number : ℕ → Knowledge → ℕ
holds_number n v = times n v.callers + in_ranges n v.spare

-- the view holds no number twice, and none from 2^32 on
abbrev pub HoldsOnce : Knowledge → Type 0
HoldsOnce v = (n : ℕ) → holds_number n v ≤ one_between 0 all_numbers n

-- how many numbers the view holds
abbrev pub number_count : Knowledge → ℕ
number_count v = length v.callers + count_of v.spare

-- P holds of each view
abbrev pub Every : (Knowledge → Type 0) → List Knowledge → Type 0
Every P views = (i : ℕ) (v : Knowledge) → get_elem? views i ≡ some v → P v

-- who holds the session has the ticket that is served, and has a caller; it knows the whole history, what is pending behind it, and whether
-- something was lost
pub record HoldsNow (serving : ℕ) (history pending : List Item) (lost : Bool) (v : Knowledge) : Type 0 where
  pub ticket : v.ticket ≡ Some serving
  pub caller : 0 < length v.callers
  pub seen : v.seen ≡ history
  pub pending_is : v.pending ≡ pending
  pub lost_is : v.lost ≡ lost

abbrev pub HoldsInTurn : ℕ → List Item → List Item → Bool → Knowledge → Type 0
HoldsInTurn serving history pending lost v = v.holding ≡ true → HoldsNow serving history pending lost v

-- a view with no caller holds no number and no ticket, does not hold the session, and waits for nothing
abbrev pub SpentHoldsNothing : Knowledge → Type 0
SpentHoldsNothing v = v.callers ≡ [] → (v.spare ≡ []) × (v.ticket ≡ None) × (v.holding ≡ false) × (v.hopes ≡ None)

-- 1 where a call waits to come into the history
abbrev pub one_if_some : Option Hope → ℕ
one_if_some None = 0
one_if_some (Some hope) = 1

abbrev pub is_hoping : Knowledge → ℕ
is_hoping v = one_if_some v.hopes

-- what a call waits for comes, unless something was lost
abbrev pub MayHope : List Item → List Item → Bool → Option Hope → Type 0
MayHope history pending lost None = Unit {0}
MayHope history pending lost (Some hope) = (lost ≡ true) ⊎ Begins (hope.history ++ hope.item ∷ []) (history ++ pending)

-- what was known before a merge begins the history too, and its callers are among the view's
abbrev pub PartFits : List Item → Knowledge → Part → Type 0
PartFits history v p =
    Saw p.callers p.seen history × (length p.seen ≤ length v.seen)
    × ((n : ℕ) → times n v.callers ≡ 0 → times n p.callers ≡ 0)

abbrev pub PartsFit : List Item → Knowledge → Type 0
PartsFit history v = PartFits history v v.kept × PartFits history v v.other

-- a view that has a caller knows the session that the lock began with
abbrev pub KnowsOpening : PlainSession → Knowledge → Type 0
KnowsOpening opening v = 0 < length v.callers → v.opening ≡ opening

-- some view that has a caller has seen the whole history
abbrev pub IsSeenWhole : List Item → List Knowledge → Type 0
IsSeenWhole history views = (i : ℕ) × (v : Knowledge) × (get_elem? views i ≡ some v) × (v.seen ≡ history)
    × (0 < length v.callers)

-- the session lies in the slot, and was asked the history and what is pending; its keeper has kept pace
pub record IsHome {K : Type 0} (Keeps : PlainSession → List Item → List Item → Bool → KeptSession K → Type 0)
    (opening : PlainSession) (history pending : List Item) (lost : Bool)
    (homes : List (mathlib.Core.Option.Option (KeptSession K))) : Type 0 where
  pub there : KeptSession K
  pub at : homes ≡ some there ∷ []
  pub keeps : Keeps opening history pending lost there

-- What holds of a history and of what is pending behind it, of the table, of the trust and of the keeper. A view with no caller is that of a
-- pass which was merged.
pub record IsInOrder {K : Type 0} (Trusted : PlainSession → Type 0)
    (Keeps : PlainSession → List Item → List Item → Bool → KeptSession K
    → Type 0) (history pending : List Item) (lost : Bool) (s : State (KeptSession K) Knowledge) : Type 0 where
  -- the session that the lock began with, which each view knows
  pub opening : PlainSession
  pub opened : Every (KnowsOpening opening) s.views
  -- the first word is the number of tickets drawn, the second the ticket that is served, the third the length of the history
  pub next : ℕ
  pub serving : ℕ
  pub words : s.words ≡ next ∷ serving ∷ length history ∷ []
  pub room : next < 2 ^ 64
  pub order : serving ≤ next
  -- each item has taken a turn
  pub count : length history + length pending ≤ serving + views_total is_holding s.views
  -- each ticket from the one that is served on is out with one view, and no other ticket is
  pub tickets : (t : ℕ) → views_total (has_ticket t) s.views ≡ one_between serving next t
  -- each number is held once
  pub numbers : (n : ℕ) → views_total (holds_number n) s.views ≡ one_between 0 all_numbers n
  pub whole : views_total number_count s.views ≡ all_numbers
  -- each view has seen a beginning of the history, after which its callers made no call
  pub seen : Every (λ v. Saw v.callers v.seen history) s.views
  pub parts : Every (PartsFit history) s.views
  pub told : IsSeenWhole history s.views
  -- only callers made calls
  pub called : (n : ℕ) → views_total (calls_as n) s.views ≡ 0 → calls_of (n ∷ []) history ≡ []
  pub turn : Every (HoldsInTurn serving history pending lost) s.views
  pub spent : Every SpentHoldsNothing s.views
  -- whose call waits will see it come; and somebody waits for each item that is pending
  pub hopes : Every (λ v. MayHope history pending lost v.hopes) s.views
  pub waits : length pending ≤ views_total is_hoping s.views
  pub trusted : Trusted (play_from opening history)
  -- the session is sound from the opening on, and goes on so
  pub sound : IsSoundThrough opening history
  pub well : GoesWell Trusted (play_from opening history) pending
  -- where no view holds it, the session lies in the slot
  pub home : views_total is_holding s.views ≡ 0 → IsHome Keeps opening history pending lost s.homes
  -- where a view holds it, the slot is empty
  pub away : views_total is_holding s.views ≡ 1 → s.homes ≡ none ∷ []

-- the play of the history is trusted, and was sound at each place of it
abbrev pub PlaysWell : (PlainSession → Type 0) → PlainSession → List Item → Type 0
PlaysWell Trusted opening history = Trusted (play_from opening history) × IsSoundThrough opening history

-- there is one history that holds of the table, with what is pending behind it
abbrev pub Locks : {K : Type 0} → (PlainSession → Type 0)
    → (PlainSession → List Item → List Item → Bool → KeptSession K → Type 0) → State (KeptSession K) Knowledge → Type 0
Locks Trusted Keeps s = (history : List Item) × (pending : List Item) × (lost : Bool)
    × IsInOrder Trusted Keeps history pending lost s

abbrev pub merge_part : List ℕ → List Item → Part
merge_part callers seen = record { callers = callers; seen = seen }

abbrev pub no_part : Part
no_part = merge_part [] []

-- what a pass knows that rests
abbrev pub knows : PlainSession → List ℕ → List Range → List Item → Knowledge
knows opening callers spare seen = record {
  opening = opening;
  callers = callers;
  spare = spare;
  seen = seen;
  ticket = None;
  holding = false;
  pending = [];
  lost = false;
  hopes = None;
  kept = no_part;
  other = no_part;
}

-- the first pass is caller 0, and holds all other numbers as spare ones
abbrev pub first_knowledge : PlainSession → Knowledge
first_knowledge opening = knows opening (0 ∷ []) (record { first = 1; count = 4294967295 } ∷ []) []

-- the longer of two histories; of two as long as each other, the second
abbrev pub longer : List Item → List Item → List Item
longer xs ys = if leb (length xs) (length ys) then ys else xs
