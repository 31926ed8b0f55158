-- Topics compared and changed, and the events that they handle.
use Rattle.std.proofs.Common.{◌≡◌, inl, inr, ℕ, suc, ◌+◌, ◌<◌, ◌≤◌, Bool, true, false, cond, not, List, [], ◌∷◌, ◌++◌, length, slice_index_or, slice_set, Option, Some, None, refl, sym, ap, ◌∙◌, arith}
use Rattle.std.specs.Prelude.{◌&&◌, ◌||◌, bytes_eq, nat_lt}
use Rattle.std.specs.List.{position, prefix_len}
use Rattle.std.specs.Option.{is_some}
use Rattle.std.proofs.lemmas.Bool.{false≢true}
use Rattle.std.proofs.lemmas.Bool.Decides.{nat_tests}
use Rattle.std.proofs.lemmas.Slice.Eq.{bytes_eq-Decides}
use Rattle.world_plain.specs.Messages.{PlainOutgoing}
use Rattle.view_bridge.specs.declared.topic.Topic.{Topic}
use Rattle.view_bridge.specs.declared.topic.Handling.{Handling}
use Rattle.view_bridge.specs.declared.topic.Handling.TheVariants.{Queued, OncePerFrame}
use Rattle.view_bridge.specs.Topics.{is_topic, handling_of, has_topic, subscribes, is_of, is_published, handles, is_handled, handled_events, of_topic, shown_together, IsSublist}

pub ruleset by_texts = (bytes_eq-Decides)

-- ---- where a topic stands

abbrev with_handling : Topic → Handling → Topic
with_handling topic handling = record { scope = topic.scope; event = topic.event; handling = handling }

-- how many topics stand before the first of this event in this scope
abbrev topics_before : List ℕ → List ℕ → List Topic → ℕ
topics_before scope event topics = prefix_len (λ topic. not (is_topic scope event topic)) topics

found_step : (b : Bool) (t : Topic) (ts more : List Topic) (n : ℕ) (h : Handling) (d : Topic)
    → (n < length ts → more ≡ slice_set ts n (with_handling (slice_index_or ts n d) h))
    → cond (not b) (1 + n) 0 < length (t ∷ ts)
    → cond b (with_handling t h ∷ ts) (t ∷ more) ≡ slice_set (t ∷ ts) (cond (not b) (1 + n) 0) (with_handling (slice_index_or (t ∷ ts) (cond (not b) (1 + n) 0) d) h)
found_step true t ts more n h d rest inside = refl
found_step false t ts more n h d rest inside =
    let next : 1 + n ≡ suc n = omega arith in
    rw next (ap (λ xs. t ∷ xs) (rest (omega arith)))

subscribes-found : (scope event : List ℕ) (h : Handling) (ts : List Topic) (d : Topic) → topics_before scope event ts < length ts
    → subscribes ts scope event h ≡ slice_set ts (topics_before scope event ts) (with_handling (slice_index_or ts (topics_before scope event ts) d) h)
subscribes-found scope event h [] d inside = absurd (omega arith)
subscribes-found scope event h (t ∷ ts) d inside =
    found_step (is_topic scope event t) t ts (subscribes ts scope event h) (topics_before scope event ts) h d (subscribes-found scope event h ts d) inside

none_step : (b : Bool) (t new : Topic) (ts more : List Topic) (n : ℕ) (h : Handling)
    → (length ts ≤ n → more ≡ ts ++ new ∷ [])
    → length (t ∷ ts) ≤ cond (not b) (1 + n) 0
    → cond b (with_handling t h ∷ ts) (t ∷ more) ≡ t ∷ (ts ++ new ∷ [])
none_step true t new ts more n h rest outside = absurd (omega arith)
none_step false t new ts more n h rest outside = ap (λ xs. t ∷ xs) (rest (omega arith))

subscribes-none : (scope event : List ℕ) (h : Handling) (ts : List Topic) → length ts ≤ topics_before scope event ts
    → subscribes ts scope event h ≡ ts ++ record { scope = scope; event = event; handling = h } ∷ []
subscribes-none scope event h [] outside = refl
subscribes-none scope event h (t ∷ ts) outside =
    none_step (is_topic scope event t) t (record { scope = scope; event = event; handling = h }) ts (subscribes ts scope event h) (topics_before scope event ts) h (subscribes-none scope event h ts) outside

place-Some : (m n i : ℕ) → cond (nat_lt m n) (Some m) None ≡ Some i → (m < n) × (i ≡ m)
place-Some m n i e = grind (arith, nat_tests)

place-None : (m n : ℕ) → cond (nat_lt m n) (Some m) None ≡ None → n ≤ m
place-None m n e = grind (arith, nat_tests)

-- the topic that was found gets the handling
pub subscribed-found : (scope event : List ℕ) (h : Handling) (ts : List Topic) (i : ℕ) (t : Topic)
    → position (is_topic scope event) ts ≡ Some i
    → t ≡ slice_index_or ts i t
    → slice_set ts i (with_handling t h) ≡ subscribes ts scope event h
subscribed-found scope event h ts i t found at =
    let place = place-Some (topics_before scope event ts) (length ts) i found in
    ap (λ u. slice_set ts i (with_handling u h)) at
    ∙ ap (λ n. slice_set ts n (with_handling (slice_index_or ts n t) h)) place.1
    ∙ sym (subscribes-found scope event h ts t place.0)

-- where none was found the topic stands last
pub subscribed-none : (scope event : List ℕ) (h : Handling) (ts : List Topic)
    → position (is_topic scope event) ts ≡ None
    → ts ++ record { scope = scope; event = event; handling = h } ∷ [] ≡ subscribes ts scope event h
subscribed-none scope event h ts none =
    sym (subscribes-none scope event h ts (place-None (topics_before scope event ts) (length ts) none))

held_step : (b more : Bool) (n k : ℕ) → more ≡ nat_lt n k → (b || more) ≡ nat_lt (cond (not b) (1 + n) 0) (suc k)
held_step true more n k e = grind (arith, nat_tests)
held_step false more n k e = grind (arith, nat_tests)

held-before : (scope event : List ℕ) (ts : List Topic) → has_topic ts scope event ≡ nat_lt (topics_before scope event ts) (length ts)
held-before scope event [] = refl
held-before scope event (t ∷ ts) = held_step (is_topic scope event t) (has_topic ts scope event) (topics_before scope event ts) (length ts) (held-before scope event ts)

is_some-cond : (b : Bool) (n : ℕ) → is_some (cond b (Some n) None) ≡ b
is_some-cond true n = refl
is_some-cond false n = refl

-- a topic is held where it is found
pub subscribed-position : (scope event : List ℕ) (ts : List Topic) → is_some (position (is_topic scope event) ts) ≡ has_topic ts scope event
subscribed-position scope event ts =
    is_some-cond (nat_lt (topics_before scope event ts) (length ts)) (topics_before scope event ts) ∙ sym (held-before scope event ts)

-- ---- the events of a topic

both : (a b : Bool) → (a && b) ≡ true → (a ≡ true) × (b ≡ true)
both true b e = (refl, e)
both false b e = absurd (false≢true e)

abbrev is_filled : List PlainOutgoing → Bool
is_filled [] = false
is_filled (first ∷ rest) = true

published_step : (b p : Bool) (x : PlainOutgoing) (found : List PlainOutgoing) → p ≡ is_filled found → (b || p) ≡ is_filled (cond b (x ∷ found) found)
published_step true p x found e = refl
published_step false p x found e = e

published-filled : (scope event : List ℕ) (events : List PlainOutgoing) → is_published scope event events ≡ is_filled (of_topic scope event events)
published-filled scope event [] = refl
published-filled scope event (x ∷ events) =
    published_step (is_of scope event x) (is_published scope event events) x (of_topic scope event events) (published-filled scope event events)

-- an event more of the topic: what is shown of those behind it is shown
shown_more : (o : Option Handling) (x : PlainOutgoing) (found shown : List PlainOutgoing) → shown ≡ shown_together o found
    → cond (handles o (is_filled found)) (x ∷ shown) shown ≡ shown_together o (x ∷ found)
shown_more None x found shown e = e
shown_more (Some Queued) x found shown e = ap (λ xs. x ∷ xs) e
shown_more (Some OncePerFrame) x [] shown e = ap (λ xs. x ∷ xs) e
shown_more (Some OncePerFrame) x (y ∷ ys) shown e = e

same_either : {A : Type 0} (b : Bool) (x : A) → cond b x x ≡ x
same_either true x = refl
same_either false x = refl

topic_step : (b k : Bool) (o : Option Handling) (x : PlainOutgoing) (found shown : List PlainOutgoing) → shown ≡ shown_together o found
    → (b ≡ true → k ≡ handles o (is_filled found))
    → cond k (cond b (x ∷ shown) shown) shown ≡ shown_together o (cond b (x ∷ found) found)
topic_step true k o x found shown e is = ap (λ c. cond c (x ∷ shown) shown) (is refl) ∙ shown_more o x found shown e
topic_step false k o x found shown e is = same_either k shown ∙ e

topic_either : (scope event : List ℕ) (k : Bool) (x : PlainOutgoing) (handled : List PlainOutgoing)
    → of_topic scope event (cond k (x ∷ handled) handled) ≡ cond k (cond (is_of scope event x) (x ∷ of_topic scope event handled) (of_topic scope event handled)) (of_topic scope event handled)
topic_either scope event true x handled = refl
topic_either scope event false x handled = refl

-- an event of a topic is handled as the topic says
handled-of : (topics : List Topic) (scope event : List ℕ) (x : PlainOutgoing) (later : List PlainOutgoing) → is_of scope event x ≡ true
    → is_handled topics x later ≡ handles (handling_of topics scope event) (is_filled (of_topic scope event later))
handled-of topics scope event x later is =
    let names = both (bytes_eq x.scope scope) (bytes_eq x.event event) is in
    let same_scope : x.scope ≡ scope = (bytes_eq-Decides x.scope scope).0 names.0 in
    let same_event : x.event ≡ event = (bytes_eq-Decides x.event event).0 names.1 in
    ap (λ (s : List ℕ). handles (handling_of topics s x.event) (is_published s x.event later)) same_scope
    ∙ ap (λ (e : List ℕ). handles (handling_of topics scope e) (is_published scope e later)) same_event
    ∙ ap (handles (handling_of topics scope event)) (published-filled scope event later)

nothing_shown : (o : Option Handling) → shown_together o [] ≡ []
nothing_shown None = refl
nothing_shown (Some Queued) = refl
nothing_shown (Some OncePerFrame) = refl

-- of the events of a topic those are handled that its handling leaves
pub handled-by_topic : (topics : List Topic) (events : List PlainOutgoing) (scope event : List ℕ)
    → of_topic scope event (handled_events topics events) ≡ shown_together (handling_of topics scope event) (of_topic scope event events)
handled-by_topic topics [] scope event = sym (nothing_shown (handling_of topics scope event))
handled-by_topic topics (x ∷ later) scope event =
    topic_either scope event (is_handled topics x later) x (handled_events topics later)
    ∙ topic_step (is_of scope event x) (is_handled topics x later) (handling_of topics scope event) x (of_topic scope event later) (of_topic scope event (handled_events topics later))
    (handled-by_topic topics later scope event) (handled-of topics scope event x later)

-- ---- their order

sublist_more : (xs events : List PlainOutgoing) (x : PlainOutgoing) → IsSublist xs events → IsSublist xs (x ∷ events)
sublist_more [] events x is = tt
sublist_more (y ∷ ys) events x is = inr is

sublist_either : (k : Bool) (x : PlainOutgoing) (handled events : List PlainOutgoing) → IsSublist handled events → IsSublist (cond k (x ∷ handled) handled) (x ∷ events)
sublist_either true x handled events is = inl (refl, is)
sublist_either false x handled events is = sublist_more handled events x is

-- those that are handled stand among those that were published, in the same order
pub handled-sublist : (topics : List Topic) (events : List PlainOutgoing) → IsSublist (handled_events topics events) events
handled-sublist topics [] = tt
handled-sublist topics (x ∷ later) = sublist_either (is_handled topics x later) x (handled_events topics later) later (handled-sublist topics later)
