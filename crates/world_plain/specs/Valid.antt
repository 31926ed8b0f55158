-- Which worlds are valid for a program, by the number of fields of each of its classes.
use Rattle.std.specs.Prelude.{◌≡◌, ◌⊎◌, ◌≤◌, ◌<◌, ℕ, Bool, true, false, List, [], ◌∷◌, map, length, Option, Some, None, nat_eq, slice_get}
use Rattle.std.specs.List.{AllByRecursion}
use Rattle.tea_base.specs.Limits.{time_limit, most_here}
use Rattle.tea_base.specs.Order.{IsBefore}
use Rattle.model_value.specs.Plain.{AllInBounds, TextFits}
use Rattle.saved_value.specs.Saving.{CanBeSaved}
use Rattle.world_plain.specs.Messages.{PlainMessage}
use Rattle.world_plain.specs.World.{ObjectRecord, WorldRecord, world_weight, most_world_weight}
use Rattle.world_plain.specs.declared.message.Subscription.{Subscription}
use Rattle.world_plain.specs.declared.world.Known.{Known}

abbrev pub most_turns : ℕ
most_turns = 1024

abbrev pub most_objects : ℕ
most_objects = 4096

abbrev pub most_subscriptions : ℕ
most_subscriptions = 16384

-- messages to come
abbrev pub most_messages : ℕ
most_messages = 16384

abbrev pub most_arguments : ℕ
most_arguments = 16

-- numbers that rise, each above the one before, the first above this one
abbrev pub RiseFrom : ℕ → List ℕ → Type 0
RiseFrom low [] = Unit {0}
RiseFrom low (x ∷ xs) = (low < x) × RiseFrom x xs

-- R holds of each item and each behind it
abbrev pub EachBefore : {A : Type 0} → (A → A → Type 0) → List A → Type 0
EachBefore R [] = Unit {0}
EachBefore R (x ∷ xs) = AllByRecursion (R x) xs × EachBefore R xs

-- ---- the clock and the views

pub record ValidClock (time turns : ℕ) : Type 0 where
  pub time_fits : time < time_limit
  pub turns_fit : turns ≤ most_turns

-- views rise and are not 0
pub record ValidViews (views : List ℕ) : Type 0 where
  pub rise : RiseFrom 0 views
  pub few : length views ≤ most_here

-- ---- objects

abbrev pub if_same : Bool → ObjectRecord → Option ObjectRecord → Option ObjectRecord
if_same true object other = Some object
if_same false object other = other

-- the object of this number
abbrev pub object_at : List ObjectRecord → ℕ → Option ObjectRecord
object_at [] id = None
object_at (o ∷ os) id = if_same (nat_eq o.id id) o (object_at os id)

abbrev pub IsHeld : List ObjectRecord → ℕ → Type 0
IsHeld objects id = (o : ObjectRecord) × (object_at objects id ≡ Some o)

-- an object of a class of the program, with as many fields as that declares
abbrev pub ObjectFits : List ℕ → ℕ → ObjectRecord → Type 0
ObjectFits counts next o = (o.id < next) × (slice_get counts o.class ≡ Some (length o.fields)) × AllInBounds o.fields

abbrev pub ObjectsFit : List ℕ → ℕ → List ObjectRecord → Type 0
ObjectsFit counts next = AllByRecursion (ObjectFits counts next)

-- by the number that the next object gets
pub record ValidObjects (counts : List ℕ) (next : ℕ) (objects : List ObjectRecord) : Type 0 where
  pub positive : 1 ≤ next
  pub rise : RiseFrom 0 (map (λ o. o.id) objects)
  pub fit : ObjectsFit counts next objects
  pub few : length objects ≤ most_objects

-- ---- known names

-- names that rise, each before all behind it
abbrev pub IsBeforeAll : List ℕ → List Known → Type 0
IsBeforeAll name = AllByRecursion (λ k. IsBefore name k.name)

abbrev pub KnownRise : List Known → Type 0
KnownRise = EachBefore (λ k n. IsBefore k.name n.name)

abbrev pub NameFits : List ObjectRecord → Known → Type 0
NameFits objects k = TextFits k.name × IsHeld objects k.object

abbrev pub KnownFit : List ObjectRecord → List Known → Type 0
KnownFit objects = AllByRecursion (NameFits objects)

pub record ValidNames (objects : List ObjectRecord) (known : List Known) : Type 0 where
  pub rise : KnownRise known
  pub fit : KnownFit objects known

-- ---- subscriptions

abbrev pub SubscriptionFits : List ObjectRecord → Subscription → Type 0
SubscriptionFits objects s = TextFits s.scope × TextFits s.event × TextFits s.method × IsHeld objects s.object

abbrev pub SubscriptionsFit : List ObjectRecord → List Subscription → Type 0
SubscriptionsFit objects = AllByRecursion (SubscriptionFits objects)

abbrev pub DiffersFromAll : Subscription → List Subscription → Type 0
DiffersFromAll s = AllByRecursion (λ t. ¬ (s ≡ t))

abbrev pub SubscriptionsDiffer : List Subscription → Type 0
SubscriptionsDiffer = EachBefore (λ s t. ¬ (s ≡ t))

pub record ValidSubscriptions (objects : List ObjectRecord) (subscriptions : List Subscription) : Type 0 where
  pub differ : SubscriptionsDiffer subscriptions
  pub fit : SubscriptionsFit objects subscriptions
  pub few : length subscriptions ≤ most_subscriptions

-- ---- messages

abbrev pub Precedes : PlainMessage → PlainMessage → Type 0
Precedes m n = (m.time < n.time) ⊎ ((m.time ≡ n.time) × (m.number < n.number))

abbrev pub PrecedesAll : PlainMessage → List PlainMessage → Type 0
PrecedesAll m = AllByRecursion (Precedes m)

-- by rising time and number
abbrev pub AreInOrder : List PlainMessage → Type 0
AreInOrder = EachBefore Precedes

abbrev pub IsUnused : ℕ → List PlainMessage → Type 0
IsUnused number = AllByRecursion (λ m. ¬ (number ≡ m.number))

abbrev pub NumbersDiffer : List PlainMessage → Type 0
NumbersDiffer = EachBefore (λ m n. ¬ (m.number ≡ n.number))

-- a message that is still to come, by the world's time, the number that the next message gets and the objects
abbrev pub MessageFits : ℕ → ℕ → List ObjectRecord → PlainMessage → Type 0
MessageFits time next objects m =
    (time ≤ m.time) × (m.time < time_limit) × (m.number < next) × IsHeld objects m.object × TextFits m.method
    × (length m.args ≤ most_arguments) × AllInBounds m.args

abbrev pub MessagesFit : ℕ → ℕ → List ObjectRecord → List PlainMessage → Type 0
MessagesFit time next objects = AllByRecursion (MessageFits time next objects)

pub record ValidMessages (time next : ℕ) (objects : List ObjectRecord) (messages : List PlainMessage) : Type 0 where
  pub order : AreInOrder messages
  pub differ : NumbersDiffer messages
  pub fit : MessagesFit time next objects messages
  pub few : length messages ≤ most_messages

-- ---- worlds

pub record Valid (counts : List ℕ) (w : WorldRecord) : Type 0 where
  pub clock : ValidClock w.time w.turns
  pub views : ValidViews w.views
  pub objects : ValidObjects counts w.next_object w.objects
  pub names : ValidNames w.objects w.known
  pub subscriptions : ValidSubscriptions w.objects w.subscriptions
  pub messages : ValidMessages w.time w.next_number w.objects w.pending
  pub saved : CanBeSaved w.saved
  pub weight : world_weight w ≤ most_world_weight
