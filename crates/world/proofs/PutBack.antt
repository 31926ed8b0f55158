-- What a world's stores hold of a valid world, put back one after the other: what is so of the next one, where those before
-- it are in their place and others are behind it.
use Rattle.std.proofs.Common.{◌≡◌, ℕ, ◌+◌, ◌<◌, ◌≤◌, inl, inr, false, List, [], ◌∷◌, ◌++◌, length, map, drop, get_or, nat_eq, refl, sym, ap, ◌∙◌, append_assoc, length-append, arith}
use Rattle.std.proofs.lemmas.Bool.{le-ltb, ne_eqb, and_right, false_from_ne_true}
use Rattle.std.proofs.lemmas.List.{at_drop_more}
use Rattle.model_value.specs.Plain.{PlainValue}
use Rattle.model_value.specs.View.{plain_values}
use Rattle.world_plain.specs.Messages.{PlainMessage, plain_message}
use Rattle.world_plain.specs.World.{ObjectRecord, WorldRecord, object_weight, total_weight, object_record}
use Rattle.world_plain.specs.declared.message.Message.{Message}
use Rattle.world_plain.specs.declared.message.Subscription.{Subscription}
use Rattle.world_plain.specs.declared.world.PlainObject.{PlainObject}
use Rattle.world_plain.specs.Valid.{Valid, RiseFrom, ObjectFits, ObjectsFit, SubscriptionFits, SubscriptionsFit, DiffersFromAll, SubscriptionsDiffer, Precedes, PrecedesAll, AreInOrder, IsUnused, NumbersDiffer, MessageFits, MessagesFit, most_objects, most_subscriptions, most_messages}
use Rattle.object_store.specs.Store.{IsAboveAll, AreFields}
use Rattle.object_store.proofs.Objects.{AreFields-light}
use Rattle.pubsub.specs.Topics.{IsLightSubscription, is_subscribed}
use Rattle.world_plain.specs.ValidTest.{same_subscription}
use Rattle.pubsub.proofs.Subscriptions.{same-true, IsLight-fits}
use Rattle.message_queue.specs.Queue.{IsLightMessage, insert_in_order}
use Rattle.world_plain.specs.ValidTest.{is_due_before}
use Rattle.message_queue.proofs.Order.{IsLight-fits as IsLightMessage-fits}

-- ---- lists

-- the next one stands behind those before it, and the others behind it
next-is : {X Y : Type 0} (F : List X → List Y) (before all : List Y) (items : List X) (i : ℕ) (x : X) → i < length items → x ≡ get_or items i x → before ++ F (drop i items) ≡ all → before ++ F (x ∷ drop (i + 1) items) ≡ all
next-is F before all items i x inside is e =
    ap (λ y. before ++ F (y ∷ drop (i + 1) items)) is ∙ ap (λ ys. before ++ ys) (sym (at_drop_more F items i x inside)) ∙ e

-- it is put behind them
pub put-next : {Y : Type 0} (before after behind all : List Y) (y : Y) → before ++ y ∷ behind ≡ all → after ≡ before ++ y ∷ [] → after ++ behind ≡ all
put-next before after behind all y e is = ap (λ ys. ys ++ behind) is ∙ append_assoc before (y ∷ []) behind ∙ e

few-before : {Y : Type 0} (before behind : List Y) (y : Y) (most : ℕ) → length (before ++ y ∷ behind) ≤ most → length before < most
few-before before behind y most h = omega (arith, length-append before (y ∷ behind), h)

weight-of-next : {Y : Type 0} (weighs : Y → ℕ) (before behind : List Y) (y : Y) → weighs y ≤ total_weight weighs (before ++ y ∷ behind)
weight-of-next weighs [] behind y = omega arith
weight-of-next weighs (z ∷ before) behind y = omega (arith, weight-of-next weighs before behind y)

-- ---- objects

above-all : (low : ℕ) (before behind : List ObjectRecord) (o : ObjectRecord) → RiseFrom low (map (λ (p : ObjectRecord). p.id) (before ++ o ∷ behind)) → (low < o.id) × IsAboveAll o.id before
above-all low [] behind o h = (h.0, tt)
above-all low (p ∷ before) behind o h =
    let later = above-all p.id before behind o h.1 in
    (omega (arith, h.0, later.0), (later.0, later.1))

object-fits : (counts : List ℕ) (next : ℕ) (before behind : List ObjectRecord) (o : ObjectRecord) → ObjectsFit counts next (before ++ o ∷ behind) → ObjectFits counts next o
object-fits counts next [] behind o h = h.0
object-fits counts next (p ∷ before) behind o h = object-fits counts next before behind o h.1

-- the next object of a valid world
pub record IsNextObject (w : WorldRecord) (before behind : List ObjectRecord) (o : ObjectRecord) : Type 0 where
  pub whole : before ++ o ∷ behind ≡ w.objects
  pub above : IsAboveAll o.id before
  pub below : o.id < w.next_object
  pub few : length before < most_objects
  pub fields : AreFields o.fields

object-between : (counts : List ℕ) (w : WorldRecord) (before behind : List ObjectRecord) (o : ObjectRecord) → Valid counts w → before ++ o ∷ behind ≡ w.objects → IsNextObject w before behind o
object-between counts w before behind o v e = record {
  whole = e;
  above = (above-all 0 before behind o (rw e v.objects.rise)).1;
  below = (object-fits counts w.next_object before behind o (rw e v.objects.fit)).0;
  few = few-before before behind o most_objects (rw e v.objects.few);
  fields = AreFields-light o.fields (omega (arith, weight-of-next object_weight before behind o, ap (total_weight object_weight) e, v.weight));
}

-- a copy of what stands next in memory is it
pub next-object : (w : WorldRecord) (before : List ObjectRecord) (items : List PlainObject) (i : ℕ) (x : PlainObject) (fields : List PlainValue) → ((counts : List ℕ) × Valid counts w) → i < length items → x ≡ get_or items i x → fields ≡ plain_values x.fields
    → before ++ map object_record (drop i items) ≡ w.objects → IsNextObject w before (map object_record (drop (i + 1) items)) (record { id = x.id; class = x.class; fields = fields })
next-object w before items i x fields v inside is same e =
    let behind = map object_record (drop (i + 1) items) in
    object-between v.0 w before behind (record { id = x.id; class = x.class; fields = fields }) v.1
    (ap (λ (vs : List PlainValue). before ++ record { id = x.id; class = x.class; fields = vs } ∷ behind) same ∙ next-is (map object_record) before w.objects items i x inside is e)

-- ---- subscriptions

not-same : (s t : Subscription) → ¬ (t ≡ s) → same_subscription t s ≡ false
not-same s t h = false_from_ne_true (same_subscription t s) (λ e. h (same-true t s e))

new-among : (before behind : List Subscription) (s t : Subscription) → DiffersFromAll t (before ++ s ∷ behind) → ¬ (t ≡ s)
new-among [] behind s t h = h.0
new-among (u ∷ before) behind s t h = new-among before behind s t h.1

not-held : (before behind : List Subscription) (s : Subscription) → SubscriptionsDiffer (before ++ s ∷ behind) → is_subscribed s before ≡ false
not-held [] behind s h = refl
not-held (t ∷ before) behind s h = rw (not-same s t (new-among before behind s t h.0)) (not-held before behind s h.1)

subscription-fits : (objects : List ObjectRecord) (before behind : List Subscription) (s : Subscription) → SubscriptionsFit objects (before ++ s ∷ behind) → SubscriptionFits objects s
subscription-fits objects [] behind s h = h.0
subscription-fits objects (t ∷ before) behind s h = subscription-fits objects before behind s h.1

-- the next subscription of a valid world
pub record IsNextSubscription (w : WorldRecord) (before behind : List Subscription) (s : Subscription) : Type 0 where
  pub whole : before ++ s ∷ behind ≡ w.subscriptions
  pub new : is_subscribed s before ≡ false
  pub few : length before < most_subscriptions
  pub light : IsLightSubscription s

subscription-between : (counts : List ℕ) (w : WorldRecord) (before behind : List Subscription) (s : Subscription) → Valid counts w → before ++ s ∷ behind ≡ w.subscriptions → IsNextSubscription w before behind s
subscription-between counts w before behind s v e =
    let fits = subscription-fits w.objects before behind s (rw e v.subscriptions.fit) in
    record {
      whole = e;
      new = not-held before behind s (rw e v.subscriptions.differ);
      few = few-before before behind s most_subscriptions (rw e v.subscriptions.few);
      light = IsLight-fits s fits.0 fits.1 fits.2;
    }

pub next-subscription : (w : WorldRecord) (before items : List Subscription) (i : ℕ) (x s : Subscription) → ((counts : List ℕ) × Valid counts w) → i < length items → x ≡ get_or items i x → s ≡ x
    → before ++ drop i items ≡ w.subscriptions → IsNextSubscription w before (drop (i + 1) items) s
next-subscription w before items i x s v inside is same e =
    let behind = drop (i + 1) items in
    subscription-between v.0 w before behind s v.1
    (ap (λ (t : Subscription). before ++ t ∷ behind) same ∙ next-is (λ (ss : List Subscription). ss) before w.subscriptions items i x inside is e)

-- ---- messages

other-number : (before behind : List PlainMessage) (n : ℕ) (m : PlainMessage) → IsUnused n (before ++ m ∷ behind) → ¬ (n ≡ m.number)
other-number [] behind n m h = h.0
other-number (k ∷ before) behind n m h = other-number before behind n m h.1

not-used : (before behind : List PlainMessage) (m : PlainMessage) → NumbersDiffer (before ++ m ∷ behind) → IsUnused m.number before
not-used [] behind m h = tt
not-used (n ∷ before) behind m h = ((λ e. other-number before behind n.number m h.0 (sym e)), not-used before behind m h.1)

message-fits : (time next : ℕ) (os : List ObjectRecord) (before behind : List PlainMessage) (m : PlainMessage) → MessagesFit time next os (before ++ m ∷ behind) → MessageFits time next os m
message-fits time next os [] behind m h = h.0
message-fits time next os (n ∷ before) behind m h = message-fits time next os before behind m h.1

precedes-among : (before behind : List PlainMessage) (n m : PlainMessage) → PrecedesAll n (before ++ m ∷ behind) → Precedes n m
precedes-among [] behind n m h = h.0
precedes-among (k ∷ before) behind n m h = precedes-among before behind n m h.1

-- what is preceded precedes nothing of it
follows : (n m : PlainMessage) → Precedes n m → is_due_before m n ≡ false
follows n m (inl later) =
    rw (le-ltb m.time n.time (omega (arith, later)), ne_eqb m.time n.time (λ e. absurd (omega (arith, later, e)))) refl
follows n m (inr h) =
    rw (le-ltb m.time n.time (omega (arith, h.0)), le-ltb m.number n.number (omega (arith, h.1))) (and_right (nat_eq m.time n.time) false refl)

-- in order, it is inserted as the last
inserted-last : (before behind : List PlainMessage) (m : PlainMessage) → AreInOrder (before ++ m ∷ behind) → insert_in_order m before ≡ before ++ m ∷ []
inserted-last [] behind m h = refl
inserted-last (n ∷ before) behind m h =
    rw (follows n m (precedes-among before behind n m h.0)) (ap (λ (ms : List PlainMessage). n ∷ ms) (inserted-last before behind m h.1))

-- the next message of a valid world
pub record IsNextMessage (w : WorldRecord) (before behind : List PlainMessage) (m : PlainMessage) : Type 0 where
  pub whole : before ++ m ∷ behind ≡ w.pending
  pub below : m.number < w.next_number
  pub unused : IsUnused m.number before
  pub few : length before < most_messages
  pub light : IsLightMessage m
  pub last : insert_in_order m before ≡ before ++ m ∷ []

message-between : (counts : List ℕ) (w : WorldRecord) (before behind : List PlainMessage) (m : PlainMessage) → Valid counts w → before ++ m ∷ behind ≡ w.pending → IsNextMessage w before behind m
message-between counts w before behind m v e =
    let fits = message-fits w.time w.next_number w.objects before behind m (rw e v.messages.fit) in
    record {
      whole = e;
      below = fits.2;
      unused = not-used before behind m (rw e v.messages.differ);
      few = few-before before behind m most_messages (rw e v.messages.few);
      light = IsLightMessage-fits m fits.4 fits.5 fits.6;
      last = inserted-last before behind m (rw e v.messages.order);
    }

pub next-message : (w : WorldRecord) (before : List PlainMessage) (items : List Message) (i : ℕ) (x : Message) (m : PlainMessage) → ((counts : List ℕ) × Valid counts w) → i < length items → x ≡ get_or items i x → m ≡ plain_message x
    → before ++ map plain_message (drop i items) ≡ w.pending → IsNextMessage w before (map plain_message (drop (i + 1) items)) m
next-message w before items i x m v inside is same e =
    let behind = map plain_message (drop (i + 1) items) in
    message-between v.0 w before behind m v.1
    (ap (λ (n : PlainMessage). before ++ n ∷ behind) same ∙ next-is (map plain_message) before w.pending items i x inside is e)
