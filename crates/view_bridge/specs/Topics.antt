-- Topics in order, what each call makes of them, and the events that they handle.
use Rattle.std.specs.Prelude.{◌≡◌, ℕ, Bool, true, false, ◌&&◌, ◌||◌, ◌⊎◌, not, if◌then◌else◌, List, [], ◌∷◌, bytes_eq, Option, Some, None}
use Rattle.std.specs.List.{filter}
use Rattle.world_plain.specs.Messages.{PlainOutgoing}
use Rattle.view_bridge.specs.declared.topic.Topic.{Topic}
use Rattle.view_bridge.specs.declared.topic.Handling.{Handling}
use Rattle.view_bridge.specs.declared.topic.Handling.TheVariants.{Queued, OncePerFrame}

-- whether a topic is of this event in this scope
abbrev pub is_topic : List ℕ → List ℕ → Topic → Bool
is_topic scope event topic = bytes_eq topic.scope scope && bytes_eq topic.event event

-- how the events of this name in this scope are handled, if they are: as the first topic of them says
abbrev pub handling_of : List Topic → List ℕ → List ℕ → Option Handling
handling_of [] scope event = None
handling_of (topic ∷ topics) scope event =
    if is_topic scope event topic then Some topic.handling else handling_of topics scope event

-- whether there is a topic of this event in this scope
abbrev pub has_topic : List Topic → List ℕ → List ℕ → Bool
has_topic [] scope event = false
has_topic (topic ∷ topics) scope event = is_topic scope event topic || has_topic topics scope event

-- a topic of this event in this scope gets the handling where it stands; else the topic stands last
abbrev pub subscribes : List Topic → List ℕ → List ℕ → Handling → List Topic
subscribes [] scope event handling = record { scope = scope; event = event; handling = handling } ∷ []
subscribes (topic ∷ topics) scope event handling =
    if is_topic scope event topic then record { scope = topic.scope; event = topic.event; handling = handling } ∷ topics
    else topic ∷ subscribes topics scope event handling

-- the topics but those of this event in this scope
abbrev pub unsubscribes : List Topic → List ℕ → List ℕ → List Topic
unsubscribes topics scope event = filter (λ topic. not (is_topic scope event topic)) topics

-- ---- the events that are handled

-- whether an event has this name and was published in this scope
abbrev pub is_of : List ℕ → List ℕ → PlainOutgoing → Bool
is_of scope event outgoing = bytes_eq outgoing.scope scope && bytes_eq outgoing.event event

-- whether some event of this name was published in this scope
abbrev pub is_published : List ℕ → List ℕ → List PlainOutgoing → Bool
is_published scope event [] = false
is_published scope event (outgoing ∷ rest) = is_of scope event outgoing || is_published scope event rest

-- of a topic with this handling, whether an event is handled, where it is published again or not
abbrev pub handles : Option Handling → Bool → Bool
handles None again = false
handles (Some Queued) again = true
handles (Some OncePerFrame) again = not again

-- whether an event is handled before these later ones
abbrev pub is_handled : List Topic → PlainOutgoing → List PlainOutgoing → Bool
is_handled topics outgoing later =
    handles (handling_of topics outgoing.scope outgoing.event) (is_published outgoing.scope outgoing.event later)

-- the events that a view handles, in order: each of a queued topic, of a once-a-frame topic the last alone
abbrev pub handled_events : List Topic → List PlainOutgoing → List PlainOutgoing
handled_events topics [] = []
handled_events topics (outgoing ∷ later) =
    if is_handled topics outgoing later then outgoing ∷ handled_events topics later else handled_events topics later

-- ---- what a law says of them

-- the events of this name in this scope
abbrev pub of_topic : List ℕ → List ℕ → List PlainOutgoing → List PlainOutgoing
of_topic scope event = filter (is_of scope event)

-- the last event, if there is one
abbrev pub last_alone : List PlainOutgoing → List PlainOutgoing
last_alone [] = []
last_alone (outgoing ∷ []) = outgoing ∷ []
last_alone (outgoing ∷ next ∷ rest) = last_alone (next ∷ rest)

-- what a handling leaves of the events of its topic: all, or the last alone; and without a topic none
abbrev pub shown_together : Option Handling → List PlainOutgoing → List PlainOutgoing
shown_together None events = []
shown_together (Some Queued) events = events
shown_together (Some OncePerFrame) events = last_alone events

-- some of these events, in the same order
abbrev pub IsSublist : List PlainOutgoing → List PlainOutgoing → Type 0
IsSublist [] events = Unit {0}
IsSublist (first ∷ rest) [] = ⊥
IsSublist (first ∷ rest) (outgoing ∷ events) =
    ((first ≡ outgoing) × IsSublist rest events) ⊎ IsSublist (first ∷ rest) events
