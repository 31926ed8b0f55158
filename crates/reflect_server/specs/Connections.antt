-- Connections that were served, and their talks in one history.
use Rattle.std.specs.Prelude.{◌≡◌, ℕ, ◌≤◌, List, ◌∷◌, map}
use Rattle.std.specs.List.{AllByRecursion}
use Rattle.tea_base.specs.declared.entry.Entry.{Entry}
use Rattle.tea_base.specs.declared.entry.SessionId.{SessionId}
use Rattle.tea_io.specs.Told.{with_more}
use Rattle.tea_io.specs.Links.{no_counts}
use Rattle.tea_io.specs.declared.link.Heard.{Heard}
use Rattle.run_steps.specs.Outside.{LinksTell}
use Rattle.reflector_core.specs.PlainSession.{PlainSession}
use Rattle.session_lock.specs.declared.knowledge.Item.{Item}
use Rattle.session_lock.specs.History.{calls_of}
use Rattle.session_lock.specs.Numbers.{times}
use Rattle.connection.specs.declared.ending.Ended.{Ended}
use Rattle.connection.specs.Causes.{EndsExactly, IsCauseCounted}
use Rattle.connection.specs.Exchanges.{exchanges_in}
use Rattle.connection.specs.Talk.{Talk, LinkAccount}
use Rattle.connection.specs.TalkServed.{IsTalkServed, IsToldWithin}
use Rattle.reflect_server.specs.Opening.{BeginsWithLeaves}

-- a connection: its link as it was accepted and as it was given back, its caller, what it was heard to say and was sent, and how it ended
pub record ServedConnection (L : Type 0) : Type 0 where
  pub accepted : L
  pub returned : L
  pub caller : ℕ
  pub heard : List Heard
  pub sent : List (List ℕ)
  pub ended : Ended

abbrev pub account_in : {L : Type 0} → LinksTell L → L → LinkAccount
account_in links link = record { heard = links.heard link; sent = links.sent link; counts = links.counts link }

abbrev pub accepted_links : {L : Type 0} → List (ServedConnection L) → List L
accepted_links connections = map (λ one. one.accepted) connections

abbrev pub returned_links : {L : Type 0} → List (ServedConnection L) → List L
returned_links connections = map (λ one. one.returned) connections

abbrev pub callers_of : {L : Type 0} → List (ServedConnection L) → List ℕ
callers_of connections = map (λ one. one.caller) connections

abbrev pub ends_of : {L : Type 0} → List (ServedConnection L) → List Ended
ends_of connections = map (λ one. one.ended) connections

-- The connection has its talk in the history, and its link tells just that it was heard and sent in it. It ended by what its caller was
-- answered, or by what its link has counted.
pub record HasTalk (gives : ℕ → Type 0) (id : SessionId) (opening : PlainSession) {L : Type 0} (links : LinksTell L)
    (history : List Item) (one : ServedConnection L) : Type 0 where
  pub talk : Talk gives id opening history one.caller one.heard one.sent one.ended
  pub heard : links.heard one.returned ≡ with_more (links.heard one.accepted) one.heard
  pub sent : links.sent one.returned ≡ with_more (links.sent one.accepted) one.sent
  pub exactly : EndsExactly one.ended (exchanges_in opening history one.caller)
  pub new : links.counts one.accepted ≡ no_counts
  pub cause : IsCauseCounted no_counts (links.counts one.returned) one.ended

-- no number stands twice in the list
abbrev pub HaveOwnNumbers : List ℕ → Type 0
HaveOwnNumbers numbers = (n : ℕ) → times n numbers ≤ 1

-- The history begins with the opening Leaves of one caller. After them each connection has its talk in it, with a caller of
-- its own, and nobody else called.
pub record IsHistoryOf (gives : ℕ → Type 0) (id : SessionId) (opening : PlainSession) {L : Type 0} (links : LinksTell L)
    (connections : List (ServedConnection L)) (opener : ℕ) (history : List Item) : Type 0 where
  pub leaves : BeginsWithLeaves gives opening opener history
  pub talks : AllByRecursion (HasTalk gives id opening links history) connections
  pub apart : HaveOwnNumbers (opener ∷ callers_of connections)
  pub whole : calls_of (opener ∷ callers_of connections) history ≡ history

-- what each was sent is what the log serves it
abbrev pub AreServed : {L : Type 0} → List Entry → List (ServedConnection L) → Type 0
AreServed log connections = AllByRecursion (λ one. IsTalkServed log one.heard one.sent) connections

-- each TICK that one was sent is at most this time
abbrev pub AreToldWithin : {L : Type 0} → ℕ → List (ServedConnection L) → Type 0
AreToldWithin horizon connections = AllByRecursion (λ one. IsToldWithin horizon one.sent) connections
