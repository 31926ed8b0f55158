-- Histories: what callers did to a session, in one order.
use Rattle.std.specs.Prelude.{◌≡◌, ℕ, Bool, true, false, ◌||◌, eqb, List, [], ◌∷◌, ◌++◌, if◌then◌else◌, Result, Ok, Err}
use Rattle.reflector_core.specs.PlainSession.{PlainSession, IsSoundSession}
use Rattle.reflector_core.specs.Answer.{answer}
use Rattle.reflector_core.specs.Play.{first_session}
use Rattle.reflector_core.specs.declared.keeper.CallFault.{CallFault}
use Rattle.reflector_core.specs.declared.keeper.CallFault.TheVariants as fault
use Rattle.reflector_core.specs.declared.request.Request.{Request}
use Rattle.reflector_core.specs.declared.request.Reply.{Reply}
use Rattle.session_lock.specs.declared.knowledge.Item.{Item}
use Rattle.session_lock.specs.declared.knowledge.Item.TheVariants.{Did, Void, Unkept}

abbrev pub caller_of : Item → ℕ
caller_of (Did caller request) = caller
caller_of (Void caller) = caller
caller_of (Unkept caller) = caller

-- the session after one item
abbrev pub after_item : PlainSession → Item → PlainSession
after_item session (Did caller request) = (answer session request).session
after_item session (Void caller) = session
after_item session (Unkept caller) = session

abbrev pub play_from : PlainSession → List Item → PlainSession
play_from session [] = session
play_from session (x ∷ xs) = play_from (after_item session x) xs

-- the session after all items, from the first session on
abbrev pub play : List Item → PlainSession
play history = play_from first_session history

-- the first items are a beginning of the others
abbrev pub Begins : List Item → List Item → Type 0
Begins xs ys = (rest : List Item) × (xs ++ rest ≡ ys)

-- the item that a call adds
abbrev pub item_of : ℕ → Request → Result Reply CallFault → Item
item_of caller request (Ok reply) = Did caller request
item_of caller request (Err fault.WantOfMemory) = Void caller
item_of caller request (Err fault.Unkept) = Unkept caller

-- the requests of the history, in order
abbrev pub history_requests : List Item → List Request
history_requests [] = []
history_requests (Did caller request ∷ xs) = request ∷ history_requests xs
history_requests (Void caller ∷ xs) = history_requests xs
history_requests (Unkept caller ∷ xs) = history_requests xs

-- the session is sound, and so it is after each of the items
abbrev pub IsSoundThrough : PlainSession → List Item → Type 0
IsSoundThrough session [] = IsSoundSession session
IsSoundThrough session (x ∷ xs) = IsSoundSession session × IsSoundThrough (after_item session x) xs

-- the session is sound and this is so of it, and so it is after each of the items
abbrev pub GoesWell : (PlainSession → Type 0) → PlainSession → List Item → Type 0
GoesWell P session [] = IsSoundSession session × P session
GoesWell P session (x ∷ xs) = (IsSoundSession session × P session) × GoesWell P (after_item session x) xs

-- after one item more the session is sound, and this is so of it if it was
abbrev pub GoesWellWith : (PlainSession → Type 0) → PlainSession → Item → Type 0
GoesWellWith P session x = IsSoundSession (after_item session x)
    × (IsSoundSession session → P session → P (after_item session x))

abbrev pub is_unkept : Item → Bool
is_unkept (Did caller request) = false
is_unkept (Void caller) = false
is_unkept (Unkept caller) = true

-- some call was Unkept
abbrev pub has_unkept : List Item → Bool
has_unkept [] = false
has_unkept (x ∷ xs) = is_unkept x || has_unkept xs

-- no item changes the session
abbrev pub Stays : PlainSession → List Item → Type 0
Stays session [] = Unit {0}
Stays session (x ∷ xs) = (after_item session x ≡ session) × Stays session xs

-- after a call that was Unkept nothing changes
abbrev pub StopsAtUnkept : PlainSession → List Item → Type 0
StopsAtUnkept session [] = Unit {0}
StopsAtUnkept session (Did caller request ∷ xs) = StopsAtUnkept (answer session request).session xs
StopsAtUnkept session (Void caller ∷ xs) = StopsAtUnkept session xs
StopsAtUnkept session (Unkept caller ∷ xs) = Stays session xs

-- what is answered to the request after the history, from a session on
abbrev pub reply_from : PlainSession → List Item → Request → Reply
reply_from session history request = (answer (play_from session history) request).reply

-- and from the first session on
abbrev pub reply_after : List Item → Request → Reply
reply_after history request = (answer (play history) request).reply

abbrev pub has : ℕ → List ℕ → Bool
has n [] = false
has n (m ∷ ms) = eqb n m || has n ms

-- the items of these callers, in order
abbrev pub calls_of : List ℕ → List Item → List Item
calls_of callers [] = []
calls_of callers (x ∷ xs) = if has (caller_of x) callers then x ∷ calls_of callers xs else calls_of callers xs

-- the calls of each of these callers by itself are the same in both histories, in their order
abbrev pub SameCallsOfEach : List ℕ → List Item → List Item → Type 0
SameCallsOfEach callers seen history =
    (n : ℕ) → has n callers ≡ true → calls_of (n ∷ []) history ≡ calls_of (n ∷ []) seen

-- the history begins with what was seen, and then has no item of these callers
abbrev pub Saw : List ℕ → List Item → List Item → Type 0
Saw callers seen history = (rest : List Item) × (seen ++ rest ≡ history) × (calls_of callers rest ≡ [])
