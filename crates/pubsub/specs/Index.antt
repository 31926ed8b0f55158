-- What the index of subscriptions finds, and what each call makes of it.
use Rattle.std.specs.Prelude.{◌≡◌, ◌<◌, ◌++◌, ℕ, Bool, true, false, ◌&&◌, List, [], ◌∷◌, length, nat_eq, bytes_eq, not, if◌then◌else◌, encode_utf8_all, IfSome}
use Rattle.std.specs.Option.{option_map_or}
use Rattle.std.specs.List.{filter}
use Rattle.std.specs.Str.{all_scalars}
use Rattle.std.specs.HashMap.{get_by_text, hash_map_len}
use Rattle.world_plain.specs.declared.message.Subscription.{Subscription}
use Rattle.pubsub.specs.declared.handler.Handler.{Handler}
use Rattle.pubsub.specs.declared.events.Events.{Events}
use Rattle.pubsub.specs.declared.index.TopicIndex.{TopicIndex}
use Rattle.pubsub.specs.Topics.{handlers_of, is_to}

-- ---- handlers

abbrev pub handler_of : Subscription → Handler
handler_of s = record { object = s.object; method = s.method }

-- whether a subscription is by this handler
abbrev pub is_by : Subscription → Handler → Bool
is_by s h = nat_eq h.object s.object && bytes_eq h.method s.method

-- the handlers but that of a subscription
abbrev pub without_handler : Subscription → List Handler → List Handler
without_handler s = filter (λ h. not (is_by s h))

-- the handlers but those of an object
abbrev pub without_handlers_of : ℕ → List Handler → List Handler
without_handlers_of object = filter (λ h. not (nat_eq h.object object))

-- ---- what is found

-- by the UTF-8 of an event; none where there is no entry
abbrev pub handlers_in : Events → List ℕ → List Handler
handlers_in events event = option_map_or (λ handlers. handlers.items) (get_by_text events.by_event event) []

-- by the UTF-8 of a scope and an event
abbrev pub handlers_at : TopicIndex → List ℕ → List ℕ → List Handler
handlers_at index scope event = option_map_or (λ events. handlers_in events event) (get_by_text index.by_scope scope) []

-- by the characters of both
abbrev pub handlers_found : TopicIndex → List ℕ → List ℕ → List Handler
handlers_found index scope event = handlers_at index (encode_utf8_all scope) (encode_utf8_all event)

-- a fact at each topic: both its names are texts
abbrev pub AtEachTopic : (List ℕ → List ℕ → Type 0) → Type 0
AtEachTopic P = (scope event : List ℕ) → all_scalars scope ≡ true → all_scalars event ≡ true → P scope event

-- new finds what old does
abbrev pub FindsSame : TopicIndex → TopicIndex → Type 0
FindsSame old new = (scope event : List ℕ) → handlers_at new scope event ≡ handlers_at old scope event

-- new finds the handler of a subscription behind what old finds in its topic, and elsewhere what old does
abbrev pub FindsMore : Subscription → TopicIndex → TopicIndex → Type 0
FindsMore s old new = AtEachTopic (λ scope event. handlers_found new scope event
    ≡ (if is_to scope event s then handlers_found old scope event ++ handler_of s ∷ []
    else handlers_found old scope event))

-- new does not find the handler of a subscription in its topic, and else what old does
abbrev pub FindsLess : Subscription → TopicIndex → TopicIndex → Type 0
FindsLess s old new = AtEachTopic (λ scope event. handlers_found new scope event
    ≡ (if is_to scope event s then without_handler s (handlers_found old scope event)
    else handlers_found old scope event))

-- an index finds in each topic those who handle it
abbrev pub IsIndexOf : TopicIndex → List Subscription → Type 0
IsIndexOf index ss = AtEachTopic (λ scope event. handlers_found index scope event ≡ handlers_of scope event ss)

-- ---- nothing is left behind

-- each event that has an entry has a handler
abbrev pub AreHandled : Events → Type 0
AreHandled events = (event : List ℕ)
    → IfSome (get_by_text events.by_event event) (λ handlers. 0 < length handlers.items)

-- the same, but maybe of one event
abbrev pub AreHandledBut : List ℕ → Events → Type 0
AreHandledBut but events = (event : List ℕ)
    → IfSome (get_by_text events.by_event event) (λ handlers. bytes_eq but event ≡ false → 0 < length handlers.items)

-- some event has an entry
abbrev pub HasEvents : Events → Type 0
HasEvents events = 0 < hash_map_len events.by_event

-- some event has an entry, and each that has one has a handler
abbrev pub AreTight : Events → Type 0
AreTight events = AreHandled events × HasEvents events

-- each scope that has an entry has events, and each of these a handler
abbrev pub IsTight : TopicIndex → Type 0
IsTight index = (scope : List ℕ) → IfSome (get_by_text index.by_scope scope) AreTight

-- the same, but maybe one scope has an entry without events
abbrev pub IsTightBut : List ℕ → TopicIndex → Type 0
IsTightBut but index = (scope : List ℕ)
    → IfSome (get_by_text index.by_scope scope) (λ events. AreHandled events
    × (bytes_eq but scope ≡ false → HasEvents events))
