-- The test of a world is true exactly where the world is valid.
use Rattle.std.proofs.Common.{◌≡◌, ℕ, ◌≤◌, Bool, true, false, ◌&&◌, not, nat_eq, nat_lt, nat_le, List, [], ◌∷◌, length, map, Option, Some, None, refl, sym, ap, ◌∙◌}
use Rattle.std.specs.Prelude.{Decides, bytes_eq, is_some, slice_get}
use Rattle.std.specs.List.{AllByRecursion, list_all}
use Rattle.std.proofs.lemmas.Bool.{leb-true, le-leb, false≢true}
use Rattle.std.proofs.lemmas.Bool.Decides.{Decides-and, Decides-or, Decides-not, Decides-like, Decides-eqb, Decides-ltb}
use Rattle.std.proofs.lemmas.Option.{none-some, same_Some}
use Rattle.std.proofs.lemmas.Slice.Eq.{bytes_eq-Decides}
use Rattle.tea_base.specs.Order.{comes_before}
use Rattle.model_value.specs.Plain.{PlainValue, InBounds, AllInBounds, is_in_bounds, TextFits, text_weight, most_weight, weight, depth, most_depth}
use Rattle.saved_value.specs.Saving.{CanBeSaved, has_ref}
use Rattle.world_plain.specs.Messages.{PlainMessage}
use Rattle.world_plain.specs.World.{ObjectRecord, WorldRecord, world_weight, most_world_weight}
use Rattle.world_plain.specs.Valid.{RiseFrom, EachBefore, object_at, IsHeld, ObjectFits, NameFits, SubscriptionFits, Precedes, MessageFits, ValidClock, ValidViews, ValidObjects, ValidNames, ValidSubscriptions, ValidMessages, Valid, most_turns, most_objects, most_subscriptions, most_messages, most_arguments}
use Rattle.tea_base.specs.Limits.{time_limit, most_here}
use Rattle.world_plain.specs.ValidTest.{is_rising, each_pair, is_fit_text, holds_object, is_number, is_fit_object, is_fit_name, is_fit_subscription, same_subscription, is_due_before, is_fit_message, is_valid_clock, is_valid_views, is_valid_objects, is_valid_names, is_valid_subscriptions, is_valid_messages, can_be_saved, is_valid}
use Rattle.world_plain.specs.declared.message.Subscription.{Subscription}
use Rattle.world_plain.specs.declared.world.Known.{Known}

-- ---- lists

Decides-le : (a b : ℕ) → Decides (nat_le a b) (a ≤ b)
Decides-le a b = (leb-true a b, le-leb a b)

Decides-all : {A : Type 0} (test : A → Bool) (P : A → Type 0) → ((x : A) → Decides (test x) (P x)) → (xs : List A) → Decides (list_all test xs) (AllByRecursion P xs)
Decides-all test P each [] = (λ _. tt, λ _. refl)
Decides-all test P each (x ∷ xs) = Decides-and (test x) (list_all test xs) (each x) (Decides-all test P each xs)

Decides-pairs : {A : Type 0} (test : A → A → Bool) (R : A → A → Type 0) → ((x y : A) → Decides (test x y) (R x y)) → (xs : List A) → Decides (each_pair test xs) (EachBefore R xs)
Decides-pairs test R each [] = (λ _. tt, λ _. refl)
Decides-pairs test R each (x ∷ xs) =
    Decides-and (list_all (test x) xs) (each_pair test xs) (Decides-all (test x) (R x) (each x) xs) (Decides-pairs test R each xs)

Decides-rising : (low : ℕ) (xs : List ℕ) → Decides (is_rising low xs) (RiseFrom low xs)
Decides-rising low [] = (λ _. tt, λ _. refl)
Decides-rising low (x ∷ xs) = Decides-and (nat_lt low x) (is_rising x xs) (Decides-ltb low x) (Decides-rising x xs)

-- ---- what a test of three or more parts decides

module _ {P Q R : Type 0} (x y z : Bool) (d : Decides x P) (e : Decides y Q) (f : Decides z R) where
  pub three : Decides (x && y && z) (P × Q × R)
  three = Decides-like (x && y && z) (λ h. (h.0.0, h.0.1, h.1)) (λ h. ((h.0, h.1), h.2)) (Decides-and (x && y) z (Decides-and x y d e) f)

module _ {P Q R S : Type 0} (x y z v : Bool) (d : Decides x P) (e : Decides y Q) (f : Decides z R) (g : Decides v S) where
  pub four : Decides (x && y && z && v) (P × Q × R × S)
  four = Decides-like (x && y && z && v) (λ h. (h.0.0, h.0.1, h.0.2, h.1)) (λ h. ((h.0, h.1, h.2), h.3)) (Decides-and (x && y && z) v (three x y z d e f) g)

-- ---- items

in_bounds-Decides : (v : PlainValue) → Decides (is_in_bounds v) (InBounds v)
in_bounds-Decides v = Decides-and (nat_le (weight v) most_weight) (nat_le (depth v) most_depth) (Decides-le (weight v) most_weight) (Decides-le (depth v) most_depth)

all_in_bounds-Decides : (vs : List PlainValue) → Decides (list_all is_in_bounds vs) (AllInBounds vs)
all_in_bounds-Decides = Decides-all is_in_bounds InBounds in_bounds-Decides

text-Decides : (characters : List ℕ) → Decides (is_fit_text characters) (TextFits characters)
text-Decides characters = Decides-le (text_weight characters) most_weight

is_found : (found : Option ObjectRecord) → Decides (is_some found) ((o : ObjectRecord) × (found ≡ Some o))
is_found None = (λ e. absurd (false≢true e), λ h. absurd (none-some h.0 h.1))
is_found (Some o) = (λ _. (o, refl), λ _. refl)

held-Decides : (objects : List ObjectRecord) (id : ℕ) → Decides (holds_object objects id) (IsHeld objects id)
held-Decides objects id = is_found (object_at objects id)

number-Decides : (found : Option ℕ) (n : ℕ) → Decides (is_number found n) (found ≡ Some n)
number-Decides None n = (λ e. absurd (false≢true e), λ h. absurd (none-some n h))
number-Decides (Some m) n = Decides-like (nat_eq m n) (λ e. ap (λ (k : ℕ). Some k) e) (λ h. same_Some m n h) (Decides-eqb m n)

object-Decides : (counts : List ℕ) (next : ℕ) (o : ObjectRecord) → Decides (is_fit_object counts next o) (ObjectFits counts next o)
object-Decides counts next o =
    three (nat_lt o.id next) (is_number (slice_get counts o.class) (length o.fields)) (list_all is_in_bounds o.fields)
    (Decides-ltb o.id next) (number-Decides (slice_get counts o.class) (length o.fields)) (all_in_bounds-Decides o.fields)

name-Decides : (objects : List ObjectRecord) (k : Known) → Decides (is_fit_name objects k) (NameFits objects k)
name-Decides objects k = Decides-and (is_fit_text k.name) (holds_object objects k.object) (text-Decides k.name) (held-Decides objects k.object)

subscription-Decides : (objects : List ObjectRecord) (s : Subscription) → Decides (is_fit_subscription objects s) (SubscriptionFits objects s)
subscription-Decides objects s =
    four (is_fit_text s.scope) (is_fit_text s.event) (is_fit_text s.method) (holds_object objects s.object)
    (text-Decides s.scope) (text-Decides s.event) (text-Decides s.method) (held-Decides objects s.object)

pub same_parts : (s t : Subscription) → s.scope ≡ t.scope → s.event ≡ t.event → s.object ≡ t.object → s.method ≡ t.method → s ≡ t
same_parts s t scope event object method =
    let by_scope : List ℕ → Subscription = λ x. record { scope = x; event = s.event; object = s.object; method = s.method } in
    let by_event : List ℕ → Subscription = λ x. record { scope = t.scope; event = x; object = s.object; method = s.method } in
    let by_object : ℕ → Subscription = λ n. record { scope = t.scope; event = t.event; object = n; method = s.method } in
    let by_method : List ℕ → Subscription = λ x. record { scope = t.scope; event = t.event; object = t.object; method = x } in
    ap by_scope scope ∙ ap by_event event ∙ ap by_object object ∙ ap by_method method

same-Decides : (s t : Subscription) → Decides (same_subscription s t) (s ≡ t)
same-Decides s t =
    Decides-like (same_subscription s t) (λ h. same_parts s t h.0.0 h.0.1 h.1.0 h.1.1)
    (λ e. ((ap (λ (x : Subscription). x.scope) e, ap (λ (x : Subscription). x.event) e), (ap (λ (x : Subscription). x.object) e, ap (λ (x : Subscription). x.method) e)))
    (Decides-and (bytes_eq s.scope t.scope && bytes_eq s.event t.event) (nat_eq s.object t.object && bytes_eq s.method t.method)
    (Decides-and (bytes_eq s.scope t.scope) (bytes_eq s.event t.event) (bytes_eq-Decides s.scope t.scope) (bytes_eq-Decides s.event t.event))
    (Decides-and (nat_eq s.object t.object) (bytes_eq s.method t.method) (Decides-eqb s.object t.object) (bytes_eq-Decides s.method t.method)))

before-Decides : (m n : PlainMessage) → Decides (is_due_before m n) (Precedes m n)
before-Decides m n =
    Decides-or (nat_lt m.time n.time) (nat_eq m.time n.time && nat_lt m.number n.number) (Decides-ltb m.time n.time)
    (Decides-and (nat_eq m.time n.time) (nat_lt m.number n.number) (Decides-eqb m.time n.time) (Decides-ltb m.number n.number))

message-Decides : (time next : ℕ) (objects : List ObjectRecord) (m : PlainMessage) → Decides (is_fit_message time next objects m) (MessageFits time next objects m)
message-Decides time next objects m =
    Decides-like (is_fit_message time next objects m)
    (λ h. (h.0.0.0, h.0.0.1, h.0.0.2, h.0.0.3, h.0.1, h.0.2, h.1))
    (λ h. (((h.0, h.1, h.2, h.3), h.4, h.5), h.6))
    (Decides-and (nat_le time m.time && nat_lt m.time time_limit && nat_lt m.number next && holds_object objects m.object && is_fit_text m.method && nat_le (length m.args) most_arguments) (list_all is_in_bounds m.args)
    (three (nat_le time m.time && nat_lt m.time time_limit && nat_lt m.number next && holds_object objects m.object) (is_fit_text m.method) (nat_le (length m.args) most_arguments)
    (four (nat_le time m.time) (nat_lt m.time time_limit) (nat_lt m.number next) (holds_object objects m.object)
    (Decides-le time m.time) (Decides-ltb m.time time_limit) (Decides-ltb m.number next) (held-Decides objects m.object))
    (text-Decides m.method) (Decides-le (length m.args) most_arguments))
    (all_in_bounds-Decides m.args))

-- ---- the parts of a world

clock-Decides : (w : WorldRecord) → Decides (is_valid_clock w) (ValidClock w.time w.turns)
clock-Decides w =
    Decides-like (is_valid_clock w) (λ h. record { time_fits = h.0; turns_fit = h.1 }) (λ v. (v.time_fits, v.turns_fit))
    (Decides-and (nat_lt w.time time_limit) (nat_le w.turns most_turns) (Decides-ltb w.time time_limit) (Decides-le w.turns most_turns))

views-Decides : (w : WorldRecord) → Decides (is_valid_views w) (ValidViews w.views)
views-Decides w =
    Decides-like (is_valid_views w) (λ h. record { rise = h.0; few = h.1 }) (λ v. (v.rise, v.few))
    (Decides-and (is_rising 0 w.views) (nat_le (length w.views) most_here) (Decides-rising 0 w.views) (Decides-le (length w.views) most_here))

objects-Decides : (counts : List ℕ) (w : WorldRecord) → Decides (is_valid_objects counts w) (ValidObjects counts w.next_object w.objects)
objects-Decides counts w =
    Decides-like (is_valid_objects counts w) (λ h. record { positive = h.0; rise = h.1; fit = h.2; few = h.3 }) (λ v. (v.positive, v.rise, v.fit, v.few))
    (four (nat_le 1 w.next_object) (is_rising 0 (map (λ (o : ObjectRecord). o.id) w.objects)) (list_all (is_fit_object counts w.next_object) w.objects) (nat_le (length w.objects) most_objects)
    (Decides-le 1 w.next_object) (Decides-rising 0 (map (λ (o : ObjectRecord). o.id) w.objects))
    (Decides-all (is_fit_object counts w.next_object) (ObjectFits counts w.next_object) (object-Decides counts w.next_object) w.objects)
    (Decides-le (length w.objects) most_objects))

names-Decides : (w : WorldRecord) → Decides (is_valid_names w) (ValidNames w.objects w.known)
names-Decides w =
    let earlier : Known → Known → Bool = λ k n. comes_before k.name n.name in
    Decides-like (is_valid_names w) (λ h. record { rise = h.0; fit = h.1 }) (λ v. (v.rise, v.fit))
    (Decides-and (each_pair earlier w.known) (list_all (is_fit_name w.objects) w.known)
    (Decides-pairs earlier (λ k n. comes_before k.name n.name ≡ true) (λ k n. (λ e. e, λ e. e)) w.known)
    (Decides-all (is_fit_name w.objects) (NameFits w.objects) (name-Decides w.objects) w.known))

subscriptions-Decides : (w : WorldRecord) → Decides (is_valid_subscriptions w) (ValidSubscriptions w.objects w.subscriptions)
subscriptions-Decides w =
    let other : Subscription → Subscription → Bool = λ s t. not (same_subscription s t) in
    Decides-like (is_valid_subscriptions w) (λ h. record { differ = h.0; fit = h.1; few = h.2 }) (λ v. (v.differ, v.fit, v.few))
    (three (each_pair other w.subscriptions) (list_all (is_fit_subscription w.objects) w.subscriptions) (nat_le (length w.subscriptions) most_subscriptions)
    (Decides-pairs other (λ s t. ¬ (s ≡ t)) (λ s t. Decides-not (same_subscription s t) (same-Decides s t)) w.subscriptions)
    (Decides-all (is_fit_subscription w.objects) (SubscriptionFits w.objects) (subscription-Decides w.objects) w.subscriptions)
    (Decides-le (length w.subscriptions) most_subscriptions))

messages-Decides : (w : WorldRecord) → Decides (is_valid_messages w) (ValidMessages w.time w.next_number w.objects w.pending)
messages-Decides w =
    let other : PlainMessage → PlainMessage → Bool = λ m n. not (nat_eq m.number n.number) in
    Decides-like (is_valid_messages w) (λ h. record { order = h.0; differ = h.1; fit = h.2; few = h.3 }) (λ v. (v.order, v.differ, v.fit, v.few))
    (four (each_pair is_due_before w.pending) (each_pair other w.pending) (list_all (is_fit_message w.time w.next_number w.objects) w.pending) (nat_le (length w.pending) most_messages)
    (Decides-pairs is_due_before Precedes before-Decides w.pending)
    (Decides-pairs other (λ m n. ¬ (m.number ≡ n.number)) (λ m n. Decides-not (nat_eq m.number n.number) (Decides-eqb m.number n.number)) w.pending)
    (Decides-all (is_fit_message w.time w.next_number w.objects) (MessageFits w.time w.next_number w.objects) (message-Decides w.time w.next_number w.objects) w.pending)
    (Decides-le (length w.pending) most_messages))

false-Decides : (b : Bool) → Decides (not b) (b ≡ false)
false-Decides true = (λ e. absurd (false≢true e), λ e. absurd (false≢true (sym e)))
false-Decides false = (λ _. refl, λ _. refl)

pub saved-Decides : (v : PlainValue) → Decides (can_be_saved v) (CanBeSaved v)
saved-Decides v = Decides-and (is_in_bounds v) (not (has_ref v)) (in_bounds-Decides v) (false-Decides (has_ref v))

pub Valid-Decides : (counts : List ℕ) (w : WorldRecord) → Decides (is_valid counts w) (Valid counts w)
Valid-Decides counts w =
    Decides-like (is_valid counts w)
    (λ h. record {
      clock = h.0.0.0;
      views = h.0.0.1;
      objects = h.0.0.2;
      names = h.0.0.3;
      subscriptions = h.0.1;
      messages = h.0.2;
      saved = h.0.3;
      weight = h.1;
    })
    (λ v. (((v.clock, v.views, v.objects, v.names), v.subscriptions, v.messages, v.saved), v.weight))
    (Decides-and (is_valid_clock w && is_valid_views w && is_valid_objects counts w && is_valid_names w && is_valid_subscriptions w && is_valid_messages w && can_be_saved w.saved) (nat_le (world_weight w) most_world_weight)
    (four (is_valid_clock w && is_valid_views w && is_valid_objects counts w && is_valid_names w) (is_valid_subscriptions w) (is_valid_messages w) (can_be_saved w.saved)
    (four (is_valid_clock w) (is_valid_views w) (is_valid_objects counts w) (is_valid_names w)
    (clock-Decides w) (views-Decides w) (objects-Decides counts w) (names-Decides w))
    (subscriptions-Decides w) (messages-Decides w) (saved-Decides w.saved))
    (Decides-le (world_weight w) most_world_weight))
