-- Worlds stay valid.
use Rattle.std.proofs.Common.{◌≡◌, ℕ, ◌+◌, ◌≤◌, ◌<◌, ◌&&◌, true, false, List, [], ◌∷◌, ◌++◌, length, Some, refl, sym, ap, ◌∙◌, subst, arith, nat_eq, nat_lt, nat_le, slice_get, Bool, not}
use Rattle.std.specs.List.{filter}
use Rattle.std.proofs.lemmas.Bool.{ltb-true, leb-true, and_parts}
use Rattle.std.proofs.lemmas.List.{length_push, length-replicate}
use Rattle.model_value.specs.Plain.{PlainValue, nil, AllInBounds, TextFits}
use Rattle.saved_value.specs.Saving.{CanBeSaved}
use Rattle.world_plain.specs.Messages.{PlainMessage}
use Rattle.world_plain.specs.World.{ObjectRecord, WorldRecord, object_weight, message_weight, subscription_weight, known_weight, world_weight, most_world_weight}
use Rattle.world_plain.specs.Valid.{Valid, ValidClock, ValidViews, ValidObjects, ValidNames, ValidSubscriptions, ValidMessages, RiseFrom, IsHeld, ObjectFits, SubscriptionFits, SubscriptionsFit, MessageFits, MessagesFit, IsUnused, most_objects, most_subscriptions, most_messages}
use Rattle.world_plain.specs.declared.message.Subscription.{Subscription}
use Rattle.world_plain.specs.declared.world.Known.{Known}
use Rattle.model_tree.specs.Tree.{Name}
use Rattle.world_state.specs.Running.{Running}
use Rattle.world_state.specs.Objects.{with_fields, with_objects, new_object, has_room_for, with_object, without_object}
use Rattle.object_store.specs.Store.{last_object_id}
use Rattle.model_eval.specs.Futures.{with_message, has_room}
use Rattle.model_eval.specs.Publishing.{has_room_to, with_subscription}
use Rattle.message_queue.specs.Queue.{insert_in_order, last_message_number}
use Rattle.pubsub.specs.Topics.{is_subscribed}
use Rattle.pubsub.proofs.Subscriptions.{SubscriptionsDiffer-appended}
use Rattle.model_eval.proofs.FieldBounds.{StillHeld, Alike, with_fields-alike, Alike-ids, Alike-length, Alike-held, with_fields-fit, KnownFit-held, SubscriptionsFit-held, nil-in_bounds}
use Rattle.model_eval.proofs.Pending.{AreInOrder-inserted, NumbersDiffer-inserted, next_number-unused, MessagesFit-inserted, MessagesFit-later, length-inserted, total-inserted}
use Rattle.model_eval.proofs.Created.{ids-appended, ObjectsFit-appended, appended-held, replicate-in_bounds, total-appended, SubscriptionsFit-appended}
use Rattle.model_eval.proofs.Destroyed.{others, ids-filtered, ObjectsFit-filtered, KnownRise-filtered, SubscriptionsDiffer-filtered, SubscriptionsFit-filtered, MessagesFit-filtered, AreInOrder-filtered, NumbersDiffer-filtered, total-filtered, length-filtered, KnownFit-others, SubscriptionsFit-others, MessagesFit-others}
use Rattle.known_names.specs.Names.{with_known}
use Rattle.known_names.proofs.KnownOrder.{KnownRise-with_known}
use Rattle.world_state.proofs.KnownFits.{KnownFit-with_known}

-- ---- worlds that keep parts of a valid one

-- the stores of a valid world, beside another clock, other views and all else, if no message comes too late
pub valid-beside : (counts : List ℕ) (u w : WorldRecord) → ValidClock u.time u.turns → ValidViews u.views → MessagesFit u.time w.next_number w.objects w.pending
    → Valid counts w → Valid counts (record u { next_object = w.next_object; next_number = w.next_number; objects = w.objects; known = w.known; subscriptions = w.subscriptions; pending = w.pending; saved = w.saved })
valid-beside counts u w clock views fit v =
    record {
      clock = clock;
      views = views;
      objects = v.objects;
      names = v.names;
      subscriptions = v.subscriptions;
      messages = record {
        order = v.messages.order;
        differ = v.messages.differ;
        fit = fit;
        few = v.messages.few;
      };
      saved = v.saved;
      weight = v.weight;
    }

-- the clock, the views and the objects of a valid world, with what else speaks of those objects
pub valid-around : (counts : List ℕ) (u w : WorldRecord) → ValidNames w.objects u.known → ValidSubscriptions w.objects u.subscriptions → ValidMessages w.time u.next_number w.objects u.pending
    → world_weight (record u { objects = w.objects; saved = w.saved }) ≤ most_world_weight
    → Valid counts w → Valid counts (record u { time = w.time; turns = w.turns; views = w.views; next_object = w.next_object; objects = w.objects; saved = w.saved })
valid-around counts u w names subscriptions messages light v =
    record {
      clock = v.clock;
      views = v.views;
      objects = v.objects;
      names = names;
      subscriptions = subscriptions;
      messages = messages;
      saved = v.saved;
      weight = light;
    }

-- other objects, where each that was held is held still
pub valid-still : (counts : List ℕ) (next : ℕ) (os : List ObjectRecord) (w : WorldRecord) → ValidObjects counts next os → StillHeld w.objects os → world_weight (record w { objects = os }) ≤ most_world_weight
    → Valid counts w → Valid counts (record w { objects = os; next_object = next })
valid-still counts next os w objects held light v =
    record {
      clock = v.clock;
      views = v.views;
      objects = objects;
      names = record {
        rise = v.names.rise;
        fit = KnownFit-held w.objects os w.known held v.names.fit;
      };
      subscriptions = record {
        differ = v.subscriptions.differ;
        fit = SubscriptionsFit-held w.objects os w.subscriptions held v.subscriptions.fit;
        few = v.subscriptions.few;
      };
      messages = record {
        order = v.messages.order;
        differ = v.messages.differ;
        fit = MessagesFit-later w.time w.next_number w.next_number w.objects os w.pending (omega arith) held v.messages.fit;
        few = v.messages.few;
      };
      saved = v.saved;
      weight = light;
    }

-- fewer subscriptions, among these objects
fewer-subscriptions : (os ps : List ObjectRecord) (keeps : Subscription → Bool) (ss : List Subscription) → SubscriptionsFit ps (filter keeps ss) → ValidSubscriptions os ss → ValidSubscriptions ps (filter keeps ss)
fewer-subscriptions os ps keeps ss fit v =
    record {
      differ = SubscriptionsDiffer-filtered keeps ss v.differ;
      fit = fit;
      few = omega (arith, length-filtered keeps ss, v.few);
    }

-- fewer messages to come, for these objects
fewer-messages : (time next : ℕ) (os ps : List ObjectRecord) (keeps : PlainMessage → Bool) (ms : List PlainMessage) → MessagesFit time next ps (filter keeps ms) → ValidMessages time next os ms → ValidMessages time next ps (filter keeps ms)
fewer-messages time next os ps keeps ms fit v =
    record {
      order = AreInOrder-filtered keeps ms v.order;
      differ = NumbersDiffer-filtered keeps ms v.differ;
      fit = fit;
      few = omega (arith, length-filtered keeps ms, v.few);
    }

-- ---- what programs do

-- with other fields in one object, if it is light
pub valid-fields : (counts : List ℕ) (id : ℕ) (change : List PlainValue → List PlainValue) (r : Running)
    → ((vs : List PlainValue) → length (change vs) ≡ length vs) → ((vs : List PlainValue) → AllInBounds vs → AllInBounds (change vs))
    → world_weight ((with_objects r (with_fields id change r.world.objects)).world) ≤ most_world_weight
    → Valid counts r.world → Valid counts ((with_objects r (with_fields id change r.world.objects)).world)
valid-fields counts id change r long bound light v =
    let os = r.world.objects in
    let ps = with_fields id change os in
    let alike : Alike os ps = with_fields-alike id change os long in
    let objects : ValidObjects counts r.world.next_object ps = record {
      positive = v.objects.positive;
      rise = subst (RiseFrom 0) (sym (Alike-ids os ps alike)) v.objects.rise;
      fit = with_fields-fit counts r.world.next_object id change os long bound v.objects.fit;
      few = omega (arith, Alike-length os ps alike, v.objects.few);
    } in
    valid-still counts r.world.next_object ps r.world objects (Alike-held os ps alike) light v

-- a message adds its own weight
pub weight-message : (m : PlainMessage) (r : Running) → world_weight ((with_message r m).world) ≡ world_weight r.world + message_weight m
weight-message m r = omega (arith, total-inserted message_weight m r.world.pending)

-- with one more message, if there is room for it
pub valid-message : (counts : List ℕ) (m : PlainMessage) (r : Running) → m.number ≡ r.world.next_number → MessageFits r.world.time (r.world.next_number + 1) r.world.objects m → has_room r.world m ≡ true
    → Valid counts r.world → Valid counts ((with_message r m).world)
valid-message counts m r new fits room v =
    let ms = r.world.pending in
    let parts = and_parts (nat_lt (length ms) most_messages && nat_lt r.world.next_number last_message_number) (nat_le (world_weight r.world + message_weight m) most_world_weight) room in
    let few : length ms < most_messages = ltb-true (length ms) most_messages (and_parts (nat_lt (length ms) most_messages) (nat_lt r.world.next_number last_message_number) parts.0).0 in
    let light : world_weight r.world + message_weight m ≤ most_world_weight = leb-true (world_weight r.world + message_weight m) most_world_weight parts.1 in
    let unused : IsUnused m.number ms = subst (λ k. IsUnused k ms) (sym new) (next_number-unused r.world.time r.world.next_number r.world.objects ms v.messages.fit) in
    let messages : ValidMessages r.world.time (r.world.next_number + 1) r.world.objects (insert_in_order m ms) = record {
      order = AreInOrder-inserted m ms unused v.messages.order;
      differ = NumbersDiffer-inserted m ms unused v.messages.differ;
      fit =
          MessagesFit-inserted r.world.time (r.world.next_number + 1) r.world.objects m ms fits
          (MessagesFit-later r.world.time r.world.next_number (r.world.next_number + 1) r.world.objects r.world.objects ms (omega arith) (λ id held. held) v.messages.fit);
      few = omega (arith, length-inserted m ms);
    } in
    valid-around counts (with_message r m).world r.world v.names v.subscriptions messages (omega (arith, weight-message m r, light)) v

-- with a new object of a class that has so many fields, if there is room for it
pub valid-object : (counts : List ℕ) (class fields : ℕ) (w : WorldRecord) → slice_get counts class ≡ Some fields → has_room_for w (new_object class fields w) ≡ true
    → Valid counts w → Valid counts (with_object w (new_object class fields w))
valid-object counts class fields w known room v =
    let os = w.objects in
    let o : ObjectRecord = new_object class fields w in
    let parts = and_parts (nat_lt (length os) most_objects && nat_lt w.next_object last_object_id) (nat_le (world_weight w + object_weight o) most_world_weight) room in
    let few : length os < most_objects = ltb-true (length os) most_objects (and_parts (nat_lt (length os) most_objects) (nat_lt w.next_object last_object_id) parts.0).0 in
    let light : world_weight w + object_weight o ≤ most_world_weight = leb-true (world_weight w + object_weight o) most_world_weight parts.1 in
    let fits : ObjectFits counts (w.next_object + 1) o = (omega arith, known ∙ ap Some (sym (length-replicate fields nil)), replicate-in_bounds fields nil nil-in_bounds) in
    let objects : ValidObjects counts (w.next_object + 1) (os ++ o ∷ []) = record {
      positive = omega arith;
      rise = ids-appended counts 0 os o v.objects.fit v.objects.positive v.objects.rise;
      fit = ObjectsFit-appended counts w.next_object os o v.objects.fit fits;
      few = omega (arith, length_push os o, few);
    } in
    valid-still counts (w.next_object + 1) (os ++ o ∷ []) w objects (appended-held os (o ∷ [])) (omega (arith, total-appended object_weight os o, light)) v

-- without an object, and all that speaks of it
pub valid-others : (counts : List ℕ) (id : ℕ) (w : WorldRecord) → Valid counts w → Valid counts (without_object id w)
valid-others counts id w v =
    let o : ObjectRecord → Bool = λ o. not (nat_eq o.id id) in
    let k : Known → Bool = λ k. not (nat_eq k.object id) in
    let s : Subscription → Bool = λ s. not (nat_eq s.object id) in
    let m : PlainMessage → Bool = λ m. not (nat_eq m.object id) in
    record {
      clock = v.clock;
      views = v.views;
      objects = record {
        positive = v.objects.positive;
        rise = ids-filtered o 0 w.objects v.objects.rise;
        fit = ObjectsFit-filtered counts w.next_object o w.objects v.objects.fit;
        few = omega (arith, length-filtered o w.objects, v.objects.few);
      };
      names = record {
        rise = KnownRise-filtered k w.known v.names.rise;
        fit = KnownFit-others id w.objects w.known v.names.fit;
      };
      subscriptions = fewer-subscriptions w.objects (others id w.objects) s w.subscriptions (SubscriptionsFit-others id w.objects w.subscriptions v.subscriptions.fit) v.subscriptions;
      messages = fewer-messages w.time w.next_number w.objects (others id w.objects) m w.pending (MessagesFit-others w.time w.next_number id w.objects w.pending v.messages.fit) v.messages;
      saved = v.saved;
      weight = omega (arith, v.weight, total-filtered object_weight o w.objects, total-filtered message_weight m w.pending, total-filtered subscription_weight s w.subscriptions, total-filtered known_weight k w.known);
    }

-- with an object that is known by a name, if it is light
pub valid-known : (counts : List ℕ) (x : Name) (object : ℕ) (w : WorldRecord) → TextFits x → IsHeld w.objects object
    → world_weight (record w { known = with_known x object w.known }) ≤ most_world_weight
    → Valid counts w → Valid counts (record w { known = with_known x object w.known })
valid-known counts x object w fits held light v =
    let names : ValidNames w.objects (with_known x object w.known) = record {
      rise = KnownRise-with_known x object w.known v.names.rise;
      fit = KnownFit-with_known w.objects x object w.known fits held v.names.fit;
    } in
    valid-around counts (record w { known = with_known x object w.known }) w names v.subscriptions v.messages light v

-- with another saved value, if it can be saved and the world stays light
pub valid-saved : (counts : List ℕ) (saved : PlainValue) (w : WorldRecord) → CanBeSaved saved → world_weight (record w { saved = saved }) ≤ most_world_weight
    → Valid counts w → Valid counts (record w { saved = saved })
valid-saved counts saved w fit light v =
    record {
      clock = v.clock;
      views = v.views;
      objects = v.objects;
      names = v.names;
      subscriptions = v.subscriptions;
      messages = v.messages;
      saved = fit;
      weight = light;
    }

-- with another state of its random numbers
pub valid-random : (counts : List ℕ) (random : ℕ) (w : WorldRecord) → Valid counts w → Valid counts (record w { random = random })
valid-random counts random w v = valid-beside counts (record w { random = random }) w v.clock v.views v.messages.fit v

filter-true : {A : Type 0} (xs : List A) → filter (λ (x : A). true) xs ≡ xs
filter-true [] = refl
filter-true (x ∷ xs) = ap (λ (rest : List _). x ∷ rest) (filter-true xs)

-- with one more subscription, which is new, if there is room for it
pub valid-subscription : (counts : List ℕ) (s : Subscription) (w : WorldRecord) → is_subscribed s w.subscriptions ≡ false → SubscriptionFits w.objects s → has_room_to w s ≡ true
    → Valid counts w → Valid counts (with_subscription s w)
valid-subscription counts s w new fits room v =
    let ss = w.subscriptions in
    let parts = and_parts (nat_lt (length ss) most_subscriptions) (nat_le (world_weight w + subscription_weight s) most_world_weight) room in
    let few : length ss < most_subscriptions = ltb-true (length ss) most_subscriptions parts.0 in
    let light : world_weight w + subscription_weight s ≤ most_world_weight = leb-true (world_weight w + subscription_weight s) most_world_weight parts.1 in
    let subscriptions : ValidSubscriptions w.objects (ss ++ s ∷ []) = record {
      differ = SubscriptionsDiffer-appended s ss new v.subscriptions.differ;
      fit = SubscriptionsFit-appended w.objects ss s v.subscriptions.fit fits;
      few = omega (arith, length_push ss s, few);
    } in
    valid-around counts (with_subscription s w) w v.names subscriptions v.messages (omega (arith, total-appended subscription_weight ss s, light)) v

-- with fewer subscriptions and fewer messages to come
pub valid-fewer : (counts : List ℕ) (keeps : Subscription → Bool) (keeps_too : PlainMessage → Bool) (w : WorldRecord)
    → Valid counts w → Valid counts (record w { subscriptions = filter keeps w.subscriptions; pending = filter keeps_too w.pending })
valid-fewer counts keeps keeps_too w v =
    let subscriptions = fewer-subscriptions w.objects w.objects keeps w.subscriptions (SubscriptionsFit-filtered w.objects keeps w.subscriptions v.subscriptions.fit) v.subscriptions in
    let messages = fewer-messages w.time w.next_number w.objects w.objects keeps_too w.pending (MessagesFit-filtered w.time w.next_number w.objects keeps_too w.pending v.messages.fit) v.messages in
    valid-around counts (record w { subscriptions = filter keeps w.subscriptions; pending = filter keeps_too w.pending }) w v.names subscriptions messages
    (omega (arith, v.weight, total-filtered message_weight keeps_too w.pending, total-filtered subscription_weight keeps w.subscriptions)) v

-- without some subscriptions
pub valid-unsubscribed : (counts : List ℕ) (keeps : Subscription → Bool) (w : WorldRecord) → Valid counts w → Valid counts (record w { subscriptions = filter keeps w.subscriptions })
valid-unsubscribed counts keeps w v =
    let all : filter (λ (m : PlainMessage). true) w.pending ≡ w.pending = filter-true w.pending in
    subst (λ (ms : List PlainMessage). Valid counts (record w { subscriptions = filter keeps w.subscriptions; pending = ms })) all (valid-fewer counts keeps (λ _. true) w v)

-- without some messages to come
pub valid-cancelled : (counts : List ℕ) (keeps : PlainMessage → Bool) (w : WorldRecord) → Valid counts w → Valid counts (record w { pending = filter keeps w.pending })
valid-cancelled counts keeps w v =
    let all : filter (λ (s : Subscription). true) w.subscriptions ≡ w.subscriptions = filter-true w.subscriptions in
    subst (λ (ss : List Subscription). Valid counts (record w { subscriptions = ss; pending = filter keeps w.pending })) all (valid-fewer counts (λ _. true) keeps w v)
