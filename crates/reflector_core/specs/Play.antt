-- A session over many requests.
use Rattle.std.specs.Prelude.{ℕ, ◌≡◌, ◌==◌, List, [], ◌∷◌, ◌++◌, filter, None}
use Rattle.tea_base.specs.declared.entry.Entry.{Entry}
use Rattle.tea_base.specs.declared.entry.What.TheVariants as what
use Rattle.tea_base.specs.Readings.{events, view_events}
use Rattle.tea_base.specs.Legal.{IsLegal, TimesRise, EachCountsItsEvents}
use Rattle.reflector_core.specs.PlainSession.{PlainSession}
use Rattle.reflector_core.specs.Answer.{answer}
use Rattle.reflector_core.specs.declared.request.Request.{Request}
use Rattle.reflector_core.specs.declared.request.Request.TheVariants.{Join, Send, Tick, Leave, Offer, Pull}
use Rattle.reflector_core.specs.declared.request.Reply.{Reply}
use Rattle.reflector_core.specs.declared.request.Reply.TheVariants.{Joined, Stamped, Again, Ticked, Left, Kept, Batch, Refused}

-- the session before any request
abbrev pub first_session : PlainSession
first_session = record { log = []; horizon = 0; kept = None }

-- the session after requests
abbrev pub after_all : PlainSession → List Request → PlainSession
after_all s [] = s
after_all s (request ∷ rest) = after_all (answer s request).session rest

-- the replies to requests, one after the other
abbrev pub replies_from : PlainSession → List Request → List Reply
replies_from s [] = []
replies_from s (request ∷ rest) =
    (answer s request).reply ∷ replies_from (answer s request).session rest

-- the entry that the reply Stamped tells of an event, and none of another reply
abbrev pub stamped_event : ℕ → ℕ → List ℕ → Reply → List Entry
stamped_event view number payload (Joined seq time last from base) = []
stamped_event view number payload (Stamped seq time) =
    record { seq = seq; time = time; view = view; what = what.Event number payload } ∷ []
stamped_event view number payload (Again seq time) = []
stamped_event view number payload (Ticked time) = []
stamped_event view number payload (Left seq time) = []
stamped_event view number payload Kept = []
stamped_event view number payload (Batch entries tick) = []
stamped_event view number payload (Refused refusal) = []

-- the same of a request: only a Send sends an event
abbrev pub stamped_event_of : Request → Reply → List Entry
stamped_event_of (Join view now want) reply = []
stamped_event_of (Send view joined number payload now) reply = stamped_event view number payload reply
stamped_event_of (Tick now) reply = []
stamped_event_of (Leave view joined now) reply = []
stamped_event_of (Offer view joined time snapshot) reply = []
stamped_event_of (Pull after limit) reply = []

-- the events that were answered Stamped, in order
abbrev pub stamped_events : List Request → List Reply → List Entry
stamped_events [] replies = []
stamped_events (request ∷ requests) [] = []
stamped_events (request ∷ requests) (reply ∷ replies) =
    stamped_event_of request reply ++ stamped_events requests replies

-- What a log has of the requests that were answered, where the session began with this log. It is legal, and its times
-- rise. Its Events are those of the log that it began with, and after them those that were answered Stamped, each once and
-- in order. So are those of each view, which it numbered 1, 2, 3 and so on.
pub record TellsItsEvents (opening : List Entry) (requests : List Request) (replies : List Reply)
    (log : List Entry) : Type 0 where
  pub legal : IsLegal log
  pub times : TimesRise log
  pub senders : (view : ℕ) → view_events log view
      ≡ filter (λ entry. entry.view == view) (events opening ++ stamped_events requests replies)
  pub events : events log ≡ events opening ++ stamped_events requests replies
  pub numbers : EachCountsItsEvents log
