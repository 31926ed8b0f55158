-- What one caller asked in a history, and what it was answered. Items of other callers are played, and skipped.
use Rattle.std.specs.Prelude.{ℕ, eqb, List, [], ◌∷◌, ◌++◌, if◌then◌else◌}
use Rattle.reflector_core.specs.PlainSession.{PlainSession}
use Rattle.reflector_core.specs.Answer.{answer}
use Rattle.reflector_core.specs.declared.keeper.CallFault.{CallFault}
use Rattle.reflector_core.specs.declared.keeper.CallFault.TheVariants as fault
use Rattle.reflector_core.specs.declared.request.Request.{Request}
use Rattle.reflector_core.specs.declared.request.Request.TheVariants.{Join, Send, Tick, Leave, Offer, Pull}
use Rattle.reflector_core.specs.declared.request.Reply.{Reply}
use Rattle.session_lock.specs.declared.knowledge.Item.{Item}
use Rattle.session_lock.specs.declared.knowledge.Item.TheVariants.{Did, Void, Unkept}
use Rattle.session_lock.specs.History.{after_item}

-- a request and its reply, or why a call has none
pub data Exchange : Type 0 where
  Answered : Request → Reply → Exchange
  Unanswered : CallFault → Exchange

-- the exchange that an item is, if the caller made it
abbrev pub exchange_in : PlainSession → ℕ → Item → List Exchange
exchange_in s caller (Did who request) = if eqb who caller then Answered request (answer s request).reply ∷ [] else []
exchange_in s caller (Void who) = if eqb who caller then Unanswered fault.WantOfMemory ∷ [] else []
exchange_in s caller (Unkept who) = if eqb who caller then Unanswered fault.Unkept ∷ [] else []

abbrev pub exchanges_from : PlainSession → ℕ → List Item → List Exchange
exchanges_from s caller [] = []
exchanges_from s caller (item ∷ items) = exchange_in s caller item ++ exchanges_from (after_item s item) caller items

-- those of the caller in the history behind an opening, each with the reply at its place
abbrev pub exchanges_in : PlainSession → List Item → ℕ → List Exchange
exchanges_in opening history caller = exchanges_from opening caller history

-- the time that a request carries is one that the clock may give
abbrev pub IsAskedInTime : (ℕ → Type 0) → Exchange → Type 0
IsAskedInTime gives (Answered (Join view now want) given) = gives now
IsAskedInTime gives (Answered (Send view joined number payload now) given) = gives now
IsAskedInTime gives (Answered (Tick now) given) = gives now
IsAskedInTime gives (Answered (Leave view joined now) given) = gives now
IsAskedInTime gives (Answered (Offer view joined time bytes) given) = Unit {0}
IsAskedInTime gives (Answered (Pull after limit) given) = Unit {0}
IsAskedInTime gives (Unanswered why) = Unit {0}

-- a call is Unkept only where this is so
abbrev pub IsUnkeptBy : Type 0 → Exchange → Type 0
IsUnkeptBy shut (Answered request given) = Unit {0}
IsUnkeptBy shut (Unanswered fault.WantOfMemory) = Unit {0}
IsUnkeptBy shut (Unanswered fault.Unkept) = shut

-- a call carries a time that the clock may give, and is Unkept only where a keeper is shut
abbrev pub IsMadeSo : (ℕ → Type 0) → Type 0 → Exchange → Type 0
IsMadeSo gives shut exchange = IsAskedInTime gives exchange × IsUnkeptBy shut exchange
