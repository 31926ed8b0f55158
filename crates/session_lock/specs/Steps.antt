-- What each step on the lock's table tells the pass that makes it.
use Rattle.std.specs.Prelude.{◌≡◌, ◌≢◌, ◌⊎◌, ℕ, ◌+◌, ◌<◌, ◌≤◌, Bool, true, false, List, [], ◌∷◌, ◌++◌, drop, length, Option, Some, None, ◌-◌, ◌^◌, Result, IfOk, MatchResult}
use Rattle.atomic_table.specs.Table.{Me, Step}
use Rattle.reflector_core.specs.PlainSession.{PlainSession, IsSoundSession}
use Rattle.reflector_core.specs.Play.{first_session}
use Rattle.reflector_core.specs.Answer.{answer, with_reply, MayWantMemory}
use Rattle.reflector_core.specs.Keeping.{HasCause, MayChange}
use Rattle.reflector_core.specs.declared.keeper.CallFault.{CallFault}
use Rattle.reflector_core.specs.declared.keeper.CallFault.TheVariants as fault
use Rattle.reflector_core.specs.declared.request.Request.{Request}
use Rattle.reflector_core.specs.declared.request.Reply.{Reply}
use Rattle.session_lock.specs.declared.knowledge.Item.{Item}
use Rattle.session_lock.specs.declared.knowledge.Item.TheVariants.{Did, Void, Unkept}
use Rattle.session_lock.specs.declared.knowledge.Hope.{Hope}
use Rattle.session_lock.specs.declared.knowledge.Knowledge.{Knowledge}
use Rattle.session_lock.specs.declared.held.KeptSession.{KeptSession}
use Rattle.session_lock.specs.declared.held.Waiting.{Waiting}
use Rattle.session_lock.specs.History.{play_from, reply_from, calls_of, item_of, GoesWell, GoesWellWith, Saw, IsSoundThrough}
use Rattle.session_lock.specs.Keeping.{HasTried, HasSettled, SomeShut}
use Rattle.session_lock.specs.Numbers.{in_ranges, take_numbers, drop_numbers, first_of_ranges}
use Rattle.session_lock.specs.Rules.{HoldsOnce, MayHope, PlaysWell, knows, merge_part, no_part, longer}

-- a pass's view, and the session with its keeper where the pass has them in hand
abbrev pub M : Type 0 → Type 0
M K = Me (KeptSession K) Knowledge

abbrev pub with_ticket : Knowledge → ℕ → Knowledge
with_ticket v t = record v { ticket = Some t }

abbrev pub with_turn : Knowledge → List Item → List Item → Bool → Knowledge
with_turn v history pending lost = record v { seen = history; holding = true; pending = pending; lost = lost }

-- its own item has come into the history; where some were pending, it was the first of them
abbrev pub with_seen_item : Knowledge → Item → Knowledge
with_seen_item v item = record v { seen = v.seen ++ item ∷ []; pending = drop 1 v.pending; hopes = None }

-- the turn is over
abbrev pub with_rest : Knowledge → Knowledge
with_rest v = record v { ticket = None; holding = false; pending = []; lost = false }

-- the turn is over, and its own item is pending behind all others
abbrev pub with_hope : Knowledge → Item → Knowledge
with_hope v item = record (with_rest v) { hopes = Some (record { history = v.seen ++ v.pending; item = item }) }

-- what was pending is gone
abbrev pub with_loss : Knowledge → Knowledge
with_loss v = record v { pending = []; lost = true }

-- draw: the ticket was drawn, or nothing changed
abbrev pub Draws : {K : Type 0} → Step (KeptSession K) → M K → ℕ → M K → Type 0
Draws st m found m' = (found ≡ st.first → m' ≡ (with_ticket m.0 found, m.1)) × (found ≢ st.first → m' ≡ m)

-- the pass has this ticket and nothing in hand
abbrev pub Waits : {K : Type 0} → M K → ℕ → Type 0
Waits m ticket = (m.1 ≡ []) × (m.0.ticket ≡ Some ticket) × (m.0.holding ≡ false) × (0 < length m.0.callers)

-- It is the pass's turn: the whole history was seen, and the session taken with its keeper, which were asked what is pending too. The play is
-- trusted and sound all the way. If a call of the pass waits, what it waits for has come or comes, unless something was lost.
pub record HasTurn {K : Type 0} (Trusted : PlainSession → Type 0)
    (Keeps : PlainSession → List Item → List Item → Bool → KeptSession K
    → Type 0) (m : M K) (ticket : ℕ) (m' : M K) : Type 0 where
  pub history : List Item
  pub pending : List Item
  pub lost : Bool
  pub taken : KeptSession K
  pub count : length history + length pending ≤ ticket
  pub saw : Saw m.0.callers m.0.seen history
  pub is : m' ≡ (with_turn m.0 history pending lost, (0, taken) ∷ [])
  pub keeps : Keeps m.0.opening history pending lost taken
  pub trusted : Trusted (play_from m.0.opening history)
  pub sound : IsSoundThrough m.0.opening history
  pub well : GoesWell Trusted (play_from m.0.opening history) pending
  pub hopes : MayHope history pending lost m.0.hopes

-- look: it is the pass's turn, or nothing changed
abbrev pub Looks : {K : Type 0} → (PlainSession → Type 0)
    → (PlainSession → List Item → List Item → Bool → KeptSession K → Type 0) → Step (KeptSession K) → M K → ℕ → M K
    → Type 0
Looks Trusted Keeps st m found m' =
    (m.0.ticket ≡ Some found → HasTurn Trusted Keeps m found m') × (m.0.ticket ≢ Some found → m' ≡ m)

-- the session in hand was asked, and is sound; its keeper kept pace
pub record Works {K : Type 0} (Keeps : PlainSession → List Item → List Item → Bool → KeptSession K → Type 0)
    (shut : K → Type 0) (m : M K) (request : Request) (result : Result Reply CallFault) (place : Option ℕ)
    (m' : M K) : Type 0 where
  pub before : KeptSession K
  pub after : KeptSession K
  pub had : m.1 ≡ (0, before) ∷ []
  pub has : m' ≡ (m.0, (0, after) ∷ [])
  pub answers : MatchResult result (λ reply. with_reply after.session reply ≡ answer before.session request) (λ _.
      after.session ≡ before.session)
  pub sound : IsSoundSession after.session
  pub cause : HasCause (answer before.session request).reply (shut after.keeper) result
  pub tried : (opening : PlainSession) (history pending : List Item) (lost : Bool) (caller : ℕ)
      → Keeps opening history pending lost before
      → HasTried Keeps opening history pending lost (item_of caller request result) place after

-- the session in hand was settled for a call that waits behind so many items
pub record GoesOnSo {K : Type 0} (Keeps : PlainSession → List Item → List Item → Bool → KeptSession K → Type 0)
    (m : M K) (place : ℕ) (how : Waiting) (m' : M K) : Type 0 where
  pub before : KeptSession K
  pub after : KeptSession K
  pub had : m.1 ≡ (0, before) ∷ []
  pub has : m' ≡ (m.0, (0, after) ∷ [])
  pub settled : (opening : PlainSession) (history pending : List Item) (lost : Bool)
      → Keeps opening history pending lost before → HasSettled Keeps opening history pending lost place how before after

-- an item may come next: it is the first of those that are pending; or none is, and the session goes well with it
abbrev pub IsNext : (PlainSession → Type 0) → Knowledge → Item → Type 0
IsNext Trusted v x =
    ((rest : List Item) × (v.pending ≡ x ∷ rest))
    ⊎ ((v.pending ≡ []) × GoesWellWith Trusted (play_from v.opening v.seen) x)

-- it may come into the history: the pass has its turn, and it is the next
pub record MayCommit (Trusted : PlainSession → Type 0) (v : Knowledge) (item : ℕ → Item) : Type 0 where
  pub caller : ℕ
  pub others : List ℕ
  pub mine : v.callers ≡ caller ∷ others
  pub holding : v.holding ≡ true
  pub kept : v.kept ≡ no_part
  pub other : v.other ≡ no_part
  pub turn : ℕ
  pub ticket : v.ticket ≡ Some turn
  pub count : length v.seen + length v.pending ≤ turn
  pub next : IsNext Trusted v (item caller)

-- it may come, and the turn may end: the session in hand was asked all that was seen, this item, and what is pending then
pub record MayEnd {K : Type 0} (Trusted : PlainSession → Type 0)
    (Keeps : PlainSession → List Item → List Item → Bool → KeptSession K → Type 0) (m : M K) (item : ℕ
    → Item) : Type 0 where
  pub commit : MayCommit Trusted m.0 item
  pub kept : KeptSession K
  pub hand : m.1 ≡ (0, kept) ∷ []
  pub keeps : Keeps m.0.opening (m.0.seen ++ item commit.caller ∷ []) (drop 1 m.0.pending) m.0.lost kept

-- the session in hand may be given back: it was asked all that was seen and is pending
pub record MayRelease {K : Type 0} (Keeps : PlainSession → List Item → List Item → Bool → KeptSession K → Type 0)
    (m : M K) : Type 0 where
  pub kept : KeptSession K
  pub hand : m.1 ≡ (0, kept) ∷ []
  pub holding : m.0.holding ≡ true
  pub keeps : Keeps m.0.opening m.0.seen m.0.pending m.0.lost kept

-- it may be given back with one item more that is pending: nothing was lost, and the pass waits for nothing else
pub record MayPutOff {K : Type 0} (Trusted : PlainSession → Type 0)
    (Keeps : PlainSession → List Item → List Item → Bool → KeptSession K → Type 0) (m : M K) (item : ℕ
    → Item) : Type 0 where
  pub kept : KeptSession K
  pub hand : m.1 ≡ (0, kept) ∷ []
  pub caller : ℕ
  pub others : List ℕ
  pub mine : m.0.callers ≡ caller ∷ others
  pub holding : m.0.holding ≡ true
  pub hopes : m.0.hopes ≡ None
  pub whole : m.0.lost ≡ false
  pub turn : ℕ
  pub ticket : m.0.ticket ≡ Some turn
  pub count : length m.0.seen + length m.0.pending ≤ turn
  pub keeps : Keeps m.0.opening m.0.seen (m.0.pending ++ item caller ∷ []) false kept
  pub well : GoesWellWith Trusted (play_from m.0.opening (m.0.seen ++ m.0.pending)) (item caller)

-- commit: the item stands behind all that was seen; the play of this is trusted, and was sound all the way
abbrev pub HasCommitted : {K : Type 0} → (PlainSession → Type 0) → (ℕ → Item) → M K → M K → Type 0
HasCommitted Trusted item m m' =
    (caller : ℕ) × (others : List ℕ) × (m.0.callers ≡ caller ∷ others) × (m' ≡ (with_seen_item m.0 (item caller), m.1))
    × PlaysWell Trusted m.0.opening m'.0.seen

abbrev pub Commits : {K : Type 0} → (PlainSession → Type 0) → (ℕ → Item) → Step (KeptSession K) → M K → ℕ → M K → Type 0
Commits Trusted item st m found m' = HasCommitted Trusted item m m'

-- release: the session is given back, and the turn is over
abbrev pub Releases : {K : Type 0} → Step (KeptSession K) → M K → ℕ → M K → Type 0
Releases st m found m' = m' ≡ (with_rest m.0, [])

-- both: the item has come, and the turn is over
abbrev pub HasEnded : {K : Type 0} → (PlainSession → Type 0) → (ℕ → Item) → M K → M K → Type 0
HasEnded Trusted item m m' =
    (caller : ℕ) × (others : List ℕ) × (m.0.callers ≡ caller ∷ others)
    × (m' ≡ (with_rest (with_seen_item m.0 (item caller)), []))
    × PlaysWell Trusted m.0.opening m'.0.seen

-- put off: the session is given back with one item more that is pending, which the pass waits for
abbrev pub HasPutOff : {K : Type 0} → (ℕ → Item) → M K → M K → Type 0
HasPutOff item m m' = (caller : ℕ) × (others : List ℕ) × (m.0.callers ≡ caller ∷ others)
    × (m' ≡ (with_hope m.0 (item caller), []))

abbrev pub PutsOff : {K : Type 0} → (ℕ → Item) → Step (KeptSession K) → M K → ℕ → M K → Type 0
PutsOff item st m found m' = HasPutOff item m m'

-- lose: what was pending is gone
abbrev pub Loses : {K : Type 0} → Step (KeptSession K) → M K → ℕ → M K → Type 0
Loses st m found m' = m' ≡ (with_loss m.0, m.1)

-- the whole history was seen, which is so long, and whose play is trusted and was sound all the way
abbrev pub HasCounted : {K : Type 0} → (PlainSession → Type 0) → M K → ℕ → M K → Type 0
HasCounted Trusted m found m' =
    (history : List Item) × (length history ≡ found) × Saw m.0.callers m.0.seen history
    × (m' ≡ (record m.0 { seen = history }, m.1)) × PlaysWell Trusted m.0.opening history

-- count: the whole history was seen, and its length found
abbrev pub CountsHistory : {K : Type 0} → (PlainSession → Type 0) → Step (KeptSession K) → M K → ℕ → M K → Type 0
CountsHistory Trusted st m found m' = HasCounted Trusted m found m'

-- unused: no item has a spare number, and no number is held twice
abbrev pub Unused : {K : Type 0} → Step (KeptSession K) → M K → ℕ → M K → Type 0
Unused st m found m' =
    (m' ≡ m) × ((n : ℕ) → 0 < in_ranges n m.0.spare → calls_of (n ∷ []) m.0.seen ≡ []) × HoldsOnce m.0

-- split: the first of the n numbers that are taken becomes the new caller's
abbrev pub split_right : ℕ → Knowledge → Knowledge
split_right n v = let taken =
    take_numbers n v.spare in knows v.opening (first_of_ranges taken ∷ []) (drop_numbers 1 taken) v.seen

abbrev pub split_left : ℕ → Knowledge → Knowledge
split_left n v = record v { spare = drop_numbers n v.spare }

-- join: both views in one, and what is left of the other
abbrev pub join_left : Knowledge → Knowledge → Knowledge
join_left v w = record v {
  callers = v.callers ++ w.callers;
  spare = v.spare ++ w.spare;
  seen = longer v.seen w.seen;
  kept = merge_part v.callers v.seen;
  other = merge_part w.callers w.seen;
}

abbrev pub join_right : Knowledge
join_right = knows first_session [] [] []

-- settle: what was known before the merge begins what is known now, and its callers made no call since; and no number
-- is held twice
abbrev pub Settles : {K : Type 0} → Step (KeptSession K) → M K → ℕ → M K → Type 0
Settles st m found m' =
    (m' ≡ (record m.0 { kept = no_part; other = no_part }, m.1))
    × Saw m.0.kept.callers m.0.kept.seen m.0.seen × Saw m.0.other.callers m.0.other.seen m.0.seen
    × HoldsOnce m.0

-- the pass rests: it has a caller and no ticket, holds nothing, waits for nothing, and is in no merge
pub record IsIdle {K : Type 0} (m : M K) : Type 0 where
  pub empty : m.1 ≡ []
  pub ticket : m.0.ticket ≡ None
  pub holding : m.0.holding ≡ false
  pub pending : m.0.pending ≡ []
  pub lost : m.0.lost ≡ false
  pub hopes : m.0.hopes ≡ None
  pub kept : m.0.kept ≡ no_part
  pub other : m.0.other ≡ no_part
  pub first : ℕ
  pub others : List ℕ
  pub callers : m.0.callers ≡ first ∷ others

-- all that was seen begins a history to which the call was added, and the reply is the one due there
abbrev pub AnswersRequest : {K : Type 0} → (PlainSession → Type 0) → Knowledge → M K → Request → Reply → Type 0
AnswersRequest Trusted v m request reply =
    (history : List Item) × (caller : ℕ) × (others : List ℕ) × (v.callers ≡ caller ∷ others)
    × Saw v.callers v.seen history
    × (m ≡ (knows v.opening v.callers v.spare (history ++ Did caller request ∷ []), []))
    × (reply ≡ reply_from v.opening history request)
    × Trusted (play_from v.opening history)

-- the same of a call that has no answer, of whose reply this is so
abbrev pub Misses : {K : Type 0} → (ℕ → Item) → (Reply → Type 0) → Knowledge → M K → Request → Type 0
Misses item due v m request =
    (history : List Item) × (caller : ℕ) × (others : List ℕ) × (v.callers ≡ caller ∷ others)
    × Saw v.callers v.seen history
    × (m ≡ (knows v.opening v.callers v.spare (history ++ item caller ∷ []), []))
    × due (reply_from v.opening history request)

-- the call found no memory, and the reply may want some; or the keeper is shut, and the reply may change the session
abbrev pub Fails : {K : Type 0} → Type 0 → Knowledge → M K → Request → CallFault → Type 0
Fails shut v m request fault.WantOfMemory = Misses (λ caller. Void caller) MayWantMemory v m request
Fails shut v m request fault.Unkept = Misses (λ caller. Unkept caller) (λ reply. MayChange reply × shut) v m request

-- the call was made: it has its reply or none, as is due at its place of the history
abbrev pub HasMade : {K : Type 0} → (PlainSession → Type 0) → Type 0 → Knowledge → Request → Result Reply CallFault
    → M K → Type 0
HasMade Trusted shut v request result m =
    MatchResult result (λ reply. AnswersRequest Trusted v m request reply) (λ why. Fails shut v m request why)

-- ---- a call that takes more than one turn

-- the same pass without what it waits for
abbrev pub rested : Knowledge → Knowledge
rested v = record v { hopes = None }

-- The pass waits for its call, which was asked behind so many items. The reply, or that there is none, is the one due there.
pub record IsWaiting {K : Type 0} (shut : K → Type 0) (m : M K) (request : Request) (result : Result Reply CallFault)
    (place : ℕ) : Type 0 where
  pub idle : IsIdle {K = K} (rested m.0, m.1)
  pub history : List Item
  pub hope : m.0.hopes ≡ Some (record { history = history; item = item_of idle.first request result })
  pub behind : length history ≡ place
  pub answers : IfOk result (λ reply. reply ≡ reply_from m.0.opening history request)
  pub cause : HasCause (reply_from m.0.opening history request) (SomeShut shut) result

-- the pass has no turn, and is in no merge
pub record Rests {K : Type 0} (m : M K) : Type 0 where
  pub empty : m.1 ≡ []
  pub ticket : m.0.ticket ≡ None
  pub holding : m.0.holding ≡ false
  pub pending : m.0.pending ≡ []
  pub lost : m.0.lost ≡ false
  pub kept : m.0.kept ≡ no_part
  pub other : m.0.other ≡ no_part
  pub first : ℕ
  pub others : List ℕ
  pub callers : m.0.callers ≡ first ∷ others

-- The pass has its turn, which it has taken since it knew this. It has the session in hand, which was asked all that it has seen and what is
-- pending. What it waits for comes, unless something was lost.
pub record InTurn {K : Type 0} (Told : PlainSession → Type 0)
    (Keeps : PlainSession → List Item → List Item → Bool → KeptSession K
    → Type 0) (v : Knowledge) (m : M K) : Type 0 where
  pub caller : ℕ
  pub others : List ℕ
  pub mine : v.callers ≡ caller ∷ others
  pub no_kept : v.kept ≡ no_part
  pub no_other : v.other ≡ no_part
  pub ticket : ℕ
  pub small : ticket < 2 ^ 64 - 1
  pub history : List Item
  pub pending : List Item
  pub lost : Bool
  pub kept : KeptSession K
  pub is : m ≡ (
    record v { ticket = Some ticket; holding = true; seen = history; pending = pending; lost = lost },
    (0, kept) ∷ [],
  )
  pub count : length history + length pending ≤ ticket
  pub saw : Saw v.callers v.seen history
  pub keeps : Keeps v.opening history pending lost kept
  pub told : Told (play_from v.opening history)
  pub through : IsSoundThrough v.opening (history ++ pending)
  pub hopes : MayHope history pending lost v.hopes

-- it waits for an item behind so many
abbrev pub HopesAt : Knowledge → ℕ → Type 0
HopesAt v place = (history : List Item) × (item : Item) × (v.hopes ≡ Some (record { history = history; item = item }))
    × (length history ≡ place)

-- in its turn what it waits for is the next, and is safe
pub record IsNextInTurn {K : Type 0} (Told : PlainSession → Type 0)
    (Keeps : PlainSession → List Item → List Item → Bool → KeptSession K
    → Type 0) (v : Knowledge) (m : M K) : Type 0 where
  pub hope : Hope
  pub hopes_is : v.hopes ≡ Some hope
  pub rest : List Item
  pub turn : InTurn Told (λ opening history pending lost kept.
      Keeps opening (history ++ hope.item ∷ []) rest lost kept) v m
  pub next : turn.pending ≡ hope.item ∷ rest
  pub comes : hope.history ≡ turn.history

-- in its turn it was lost
pub record IsLostInTurn {K : Type 0} (Told : PlainSession → Type 0)
    (Keeps : PlainSession → List Item → List Item → Bool → KeptSession K
    → Type 0) (v : Knowledge) (m : M K) : Type 0 where
  pub turn : InTurn Told (λ opening history pending lost kept. Keeps opening history [] true kept) v m
