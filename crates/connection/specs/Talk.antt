-- What ties the exchanges of a connection's caller to its link.
use Rattle.std.specs.Prelude.{◌≡◌, ◌⊎◌, ℕ, List, [], ◌∷◌, ◌++◌, map, Option, Result, Ok, Err}
use Rattle.std.specs.List.{AllByRecursion}
use Rattle.tea_base.specs.declared.entry.SessionId.{SessionId}
use Rattle.tea_io.specs.Told.{with_more, Rose}
use Rattle.tea_io.specs.Links.{Counts, NoneFalls, CountRises}
use Rattle.tea_io.specs.declared.link.Heard.{Heard}
use Rattle.tea_io.specs.declared.link.Link.{Ghosts as OfLink}
use Rattle.tea_io.specs.declared.link.LinkFault.{LinkFault}
use Rattle.tea_io.specs.declared.link.LinkFault.TheVariants.{Failed, WantOfMemory}
use Rattle.wire_frames.specs.declared.frame.ServerFrame.{ServerFrame}
use Rattle.wire_frames.specs.Frames.{IsServerFrame}
use Rattle.wire_frames.specs.Spelling.{server_spelling}
use Rattle.reflector_core.specs.PlainSession.{PlainSession}
use Rattle.session_lock.specs.declared.knowledge.Item.{Item}
use Rattle.session_lock.specs.History.{play_from}
use Rattle.session_lock.specs.Passes.{PassState, caller}
use Rattle.connection.specs.declared.ending.Ended.{Ended}
use Rattle.connection.specs.declared.ending.Halt.{Halt}
use Rattle.connection.specs.Exchanges.{Exchange, exchanges_in, IsAskedInTime}
use Rattle.connection.specs.Standing.{SeesOn}
use Rattle.connection.specs.TalkServed.{IsTalkServed, IsToldWithin}
use Rattle.connection.specs.Phases.{TalkPhase, Opening, Over, TalkEvent, Hears, Loses, FailsToSend, talk_walk, heard_in, halt_phase}

-- A talk from its first frame to its end: what the caller asked in the history, what the link was heard to say and was sent. Some events
-- lead to just these, each frame that was sent has a spelling, and each time that was asked with is one that the clock may give.
pub record Talk (gives : ℕ → Type 0) (id : SessionId) (opening : PlainSession) (history : List Item) (caller : ℕ)
    (heard : List Heard) (sent : List (List ℕ)) (how : Ended) : Type 0 where
  pub events : List TalkEvent
  pub ends : (talk_walk id (Opening 0) events).phase ≡ Over how
  pub asked : exchanges_in opening history caller ≡ (talk_walk id (Opening 0) events).asked
  pub said : heard ≡ heard_in events
  pub told : sent ≡ map server_spelling (talk_walk id (Opening 0) events).sent
  pub spelled : AllByRecursion IsServerFrame (talk_walk id (Opening 0) events).sent
  pub timely : AllByRecursion (IsAskedInTime gives) (exchanges_in opening history caller)

-- ---- what a link tells

-- what it was heard to say and was sent, where it tells them, and its counts
pub record LinkAccount : Type 0 where
  pub heard : Option (List Heard)
  pub sent : Option (List (List ℕ))
  pub counts : Counts

abbrev pub link_account : {L : Type 0} → OfLink L → L → LinkAccount
link_account tells link = record { heard = tells.heard link; sent = tells.sent link; counts = tells.counts link }

-- no count falls, and one rises that tells of the event
abbrev pub EventCounts : TalkEvent → Counts → Counts → Type 0
EventCounts (Hears what) before now = NoneFalls before now × CountRises before now what
EventCounts Loses before now = NoneFalls before now × Rose before.faults now.faults
EventCounts FailsToSend before now = NoneFalls before now × Rose before.faults now.faults
EventCounts other before now = NoneFalls before now

abbrev pub EventsCount : List TalkEvent → Counts → Counts → Type 0
EventsCount [] before now = now ≡ before
EventsCount (event ∷ events) before now = (mid : Counts) × EventCounts event before mid × EventsCount events mid now

-- The talk of a call that has ended: of what was heard and sent in it, which the link tells where it tells anything. The counts of the link go
-- with its events. What was sent is served by the log of what the pass has seen, and each TICK in it is at most the horizon there.
pub record HasTalked (gives : ℕ → Type 0) (id : SessionId) (pass : PassState) (old new : LinkAccount)
    (how : Ended) : Type 0 where
  pub heard : List Heard
  pub sent : List (List ℕ)
  pub talk : Talk gives id pass.opening pass.seen (caller pass) heard sent how
  pub tells_heard : new.heard ≡ with_more old.heard heard
  pub tells_sent : new.sent ≡ with_more old.sent sent
  pub counts : EventsCount talk.events old.counts new.counts
  pub served : IsTalkServed (play_from pass.opening pass.seen).log heard sent
  pub ticks : IsToldWithin (play_from pass.opening pass.seen).horizon sent

-- ---- a part of a talk

-- the pass, and what the link tells
pub record Account : Type 0 where
  pub pass : PassState
  pub link : LinkAccount

abbrev pub account : PassState → LinkAccount → Account
account pass link = record { pass = pass; link = link }

-- what its own caller has asked
abbrev pub asked_by : PassState → List Exchange
asked_by pass = exchanges_in pass.opening pass.seen (caller pass)

-- From one phase to another by events that add just this; what the link does not tell is left open. The calls were made so.
pub record TalksOn (made : Exchange → Type 0) (id : SessionId) (from to : TalkPhase)
    (before now : Account) : Type 0 where
  pub events : List TalkEvent
  pub ends : (talk_walk id from events).phase ≡ to
  pub asked : asked_by now.pass ≡ asked_by before.pass ++ (talk_walk id from events).asked
  pub sees : SeesOn before.pass now.pass
  pub heard : now.link.heard ≡ with_more before.link.heard (heard_in events)
  pub sent : now.link.sent ≡ with_more before.link.sent (map server_spelling (talk_walk id from events).sent)
  pub counts : EventsCount events before.link.counts now.link.counts
  pub spelled : AllByRecursion IsServerFrame (talk_walk id from events).sent
  pub calls : AllByRecursion made (talk_walk id from events).asked

-- to the phase that the result has, or to where the talk stops
abbrev pub TalksOrHalts : {T : Type 0} → (Exchange → Type 0) → SessionId → TalkPhase → (T → TalkPhase) → Result T Halt
    → Account → Account → Type 0
TalksOrHalts made id from to (Ok value) before now = TalksOn made id from (to value) before now
TalksOrHalts made id from to (Err halt) before now = TalksOn made id from (halt_phase halt) before now

-- a frame that has a spelling was sent; where the send failed, whole or not at all; for want of memory it was not
abbrev pub SendsSpelled : Option (List (List ℕ)) → Option (List (List ℕ)) → ServerFrame → Result (Unit {0}) LinkFault
    → Type 0
SendsSpelled before now frame (Ok done) = IsServerFrame frame × (now ≡ with_more before (server_spelling frame ∷ []))
SendsSpelled before now frame (Err Failed) =
    (now ≡ before) ⊎ (IsServerFrame frame × (now ≡ with_more before (server_spelling frame ∷ [])))
SendsSpelled before now frame (Err WantOfMemory) = now ≡ before
