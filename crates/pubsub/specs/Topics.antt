-- Subscriptions in order, and what each call makes of them.
use Rattle.std.specs.Prelude.{◌≡◌, ◌≤◌, ◌<◌, ◌++◌, ℕ, Bool, true, false, ◌&&◌, ◌||◌, List, [], ◌∷◌, length, nat_eq, bytes_eq, if◌then◌else◌, not, Result, Ok, Err}
use Rattle.std.specs.List.{filter}
use Rattle.world_plain.specs.Valid.{SubscriptionsDiffer, most_subscriptions}
use Rattle.world_plain.specs.ValidTest.{same_subscription}
use Rattle.world_plain.specs.World.{subscription_weight, most_world_weight}
use Rattle.world_plain.specs.declared.message.Subscription.{Subscription}
use Rattle.pubsub.specs.declared.handler.Handler.{Handler}
use Rattle.world_plain.specs.declared.refusal.StoreRefusal.{StoreRefusal}
use Rattle.world_plain.specs.declared.refusal.StoreRefusal.TheVariants.{Full, Spent, WantOfMemory}

-- what a subscription may weigh: as much as a world may
abbrev pub IsLightSubscription : Subscription → Type 0
IsLightSubscription s = subscription_weight s ≤ most_world_weight

abbrev pub AreLightSubscriptions : List Subscription → Type 0
AreLightSubscriptions [] = Unit {0}
AreLightSubscriptions (s ∷ ss) = IsLightSubscription s × AreLightSubscriptions ss

-- what is true of all topics
pub record AreTopics (ss : List Subscription) : Type 0 where
  pub differ : SubscriptionsDiffer ss
  pub light : AreLightSubscriptions ss
  pub few : length ss ≤ most_subscriptions

-- whether a subscription is to this event in this scope
abbrev pub is_to : List ℕ → List ℕ → Subscription → Bool
is_to scope event s = bytes_eq s.scope scope && bytes_eq s.event event

-- whether an equal one is held
abbrev pub is_subscribed : Subscription → List Subscription → Bool
is_subscribed s [] = false
is_subscribed s (t ∷ ts) = same_subscription t s || is_subscribed s ts

-- the subscriptions but those equal to this one
abbrev pub without_subscription : Subscription → List Subscription → List Subscription
without_subscription s = filter (λ t. not (same_subscription t s))

-- the subscriptions but those of an object
abbrev pub without_subscriber : ℕ → List Subscription → List Subscription
without_subscriber object = filter (λ t. not (nat_eq t.object object))

-- who handles an event in a scope, in the order of subscription
abbrev pub handlers_of : List ℕ → List ℕ → List Subscription → List Handler
handlers_of scope event [] = []
handlers_of scope event (s ∷ ss) =
    if is_to scope event s then record { object = s.object; method = s.method } ∷ handlers_of scope event ss
    else handlers_of scope event ss

-- what a subscribing answers, and what it makes of the topics
abbrev pub Subscribes : Result Bool StoreRefusal → Subscription → List Subscription → List Subscription → Type 0
Subscribes (Ok false) s old new = (is_subscribed s old ≡ true) × (new ≡ old)
Subscribes (Ok true) s old new = (is_subscribed s old ≡ false) × (length old < most_subscriptions)
    × (new ≡ old ++ s ∷ [])
Subscribes (Err (Full count)) s old new = (is_subscribed s old ≡ false) × (length old ≡ most_subscriptions)
    × (count ≡ length old) × (new ≡ old)
Subscribes (Err Spent) s old new = ⊥
Subscribes (Err WantOfMemory) s old new = (is_subscribed s old ≡ false) × (length old < most_subscriptions)
    × (new ≡ old)
