-- Subscriptions compared, lists with one more or fewer, and the bounds of weights.
use Rattle.std.proofs.Common.{◌≡◌, ℕ, zero, suc, ◌*◌, ◌<◌, ◌≤◌, Bool, true, false, cond, List, [], ◌∷◌, ◌++◌, length, get_or, drop, refl, sym, ap, subst, ◌∙◌, arith}
use Rattle.std.specs.Prelude.{◌&&◌, ◌||◌, nat_eq, bytes_eq}
use Rattle.std.specs.List.{filter}
use Rattle.std.proofs.lemmas.Bool.{false≢true}
use Rattle.std.proofs.lemmas.List.{length-append}
use Rattle.std.specs.Cmp.{unsigned_Decides}
use Rattle.std.proofs.lemmas.Slice.Eq.{bytes_eq-Decides}
use Rattle.model_value.specs.Plain.{TextFits}
use Rattle.world_plain.specs.Valid.{DiffersFromAll, SubscriptionsDiffer, most_subscriptions}
use Rattle.world_plain.specs.World.{subscription_weight, total_weight}
use Rattle.world_plain.specs.declared.message.Subscription.{Subscription}
use Rattle.pubsub.specs.Topics.{AreTopics, AreLightSubscriptions, IsLightSubscription, is_subscribed}
use Rattle.world_plain.specs.ValidTest.{same_subscription}

pub ruleset by_texts = (bytes_eq-Decides)

-- ---- a subscription more

pub both : (a b : Bool) → (a && b) ≡ true → (a ≡ true) × (b ≡ true)
both true b e = (refl, e)
both false b e = absurd (false≢true e)

pub neither : (a b : Bool) → (a || b) ≡ false → (a ≡ false) × (b ≡ false)
neither true b e = absurd (false≢true (sym e))
neither false b e = (refl, e)

pub same_self : (s : Subscription) → same_subscription s s ≡ true
same_self s =
    let scope = (bytes_eq-Decides s.scope s.scope).1 refl in
    let event = (bytes_eq-Decides s.event s.event).1 refl in
    let method = (bytes_eq-Decides s.method s.method).1 refl in
    let object = (unsigned_Decides s.object s.object).1 refl in
    rw (scope, event, object, method) refl

-- those that are the same are equal
pub same-true : (s t : Subscription) → same_subscription s t ≡ true → s ≡ t
same-true s t e =
    let topic = both (bytes_eq s.scope t.scope && bytes_eq s.event t.event) (nat_eq s.object t.object && bytes_eq s.method t.method) e in
    let names = both (bytes_eq s.scope t.scope) (bytes_eq s.event t.event) topic.0 in
    let who = both (nat_eq s.object t.object) (bytes_eq s.method t.method) topic.1 in
    let scope : s.scope ≡ t.scope = (bytes_eq-Decides s.scope t.scope).0 names.0 in
    let event : s.event ≡ t.event = (bytes_eq-Decides s.event t.event).0 names.1 in
    let object : s.object ≡ t.object = (unsigned_Decides s.object t.object).0 who.0 in
    let method : s.method ≡ t.method = (bytes_eq-Decides s.method t.method).0 who.1 in
    let by_scope : List ℕ → Subscription = λ x. record { scope = x; event = s.event; object = s.object; method = s.method } in
    let by_event : List ℕ → Subscription = λ x. record { scope = t.scope; event = x; object = s.object; method = s.method } in
    let by_object : ℕ → Subscription = λ n. record { scope = t.scope; event = t.event; object = n; method = s.method } in
    let by_method : List ℕ → Subscription = λ x. record { scope = t.scope; event = t.event; object = t.object; method = x } in
    ap by_scope scope ∙ ap by_event event ∙ ap by_object object ∙ ap by_method method

new_push : (t s : Subscription) (ts : List Subscription) → DiffersFromAll t ts → ¬ (t ≡ s) → DiffersFromAll t (ts ++ s ∷ [])
new_push t s [] h e = (e, tt)
new_push t s (u ∷ ts) h e = (h.0, new_push t s ts h.1 e)

pub SubscriptionsDiffer-appended : (s : Subscription) (ts : List Subscription) → is_subscribed s ts ≡ false → SubscriptionsDiffer ts → SubscriptionsDiffer (ts ++ s ∷ [])
SubscriptionsDiffer-appended s [] e h = (tt, tt)
SubscriptionsDiffer-appended s (t ∷ ts) e h =
    let no = neither (same_subscription t s) (is_subscribed s ts) e in
    (new_push t s ts h.0 (λ is. false≢true (sym no.0 ∙ subst (λ u. same_subscription t u ≡ true) is (same_self t))), SubscriptionsDiffer-appended s ts no.1 h.1)

light_push : (s : Subscription) (ts : List Subscription) → AreLightSubscriptions ts → IsLightSubscription s → AreLightSubscriptions (ts ++ s ∷ [])
light_push s [] h e = (e, tt)
light_push s (t ∷ ts) h e = (h.0, light_push s ts h.1 e)

pub appended : (s : Subscription) (new old : List Subscription)
    → new ≡ old ++ s ∷ []
    → AreTopics old
    → is_subscribed s old ≡ false
    → length old < most_subscriptions
    → IsLightSubscription s
    → AreTopics new
appended s new old e topics absent room light =
    record {
      differ = rw e (SubscriptionsDiffer-appended s old absent topics.differ);
      light = rw e (light_push s old topics.light light);
      few = omega (arith, room, ap length e, length-append old (s ∷ []));
    }

-- ---- subscriptions fewer

either : (P : List Subscription → Type 0) (b : Bool) (xs ys : List Subscription) → P xs → P ys → P (cond b xs ys)
either P true xs ys h e = h
either P false xs ys h e = e

new_filter : (test : Subscription → Bool) (t : Subscription) (ts : List Subscription) → DiffersFromAll t ts → DiffersFromAll t (filter test ts)
new_filter test t [] h = tt
new_filter test t (u ∷ ts) h =
    let rest = new_filter test t ts h.1 in
    either (DiffersFromAll t) (test u) (u ∷ filter test ts) (filter test ts) (h.0, rest) rest

pub SubscriptionsDiffer-filtered : (test : Subscription → Bool) (ts : List Subscription) → SubscriptionsDiffer ts → SubscriptionsDiffer (filter test ts)
SubscriptionsDiffer-filtered test [] h = tt
SubscriptionsDiffer-filtered test (t ∷ ts) h =
    let rest = SubscriptionsDiffer-filtered test ts h.1 in
    either SubscriptionsDiffer (test t) (t ∷ filter test ts) (filter test ts) (new_filter test t ts h.0, rest) rest

light_filter : (test : Subscription → Bool) (ts : List Subscription) → AreLightSubscriptions ts → AreLightSubscriptions (filter test ts)
light_filter test [] h = tt
light_filter test (t ∷ ts) h =
    let rest = light_filter test ts h.1 in
    either AreLightSubscriptions (test t) (t ∷ filter test ts) (filter test ts) (h.0, rest) rest

pub length-filtered : (test : Subscription → Bool) (ts : List Subscription) → length (filter test ts) ≤ length ts
length-filtered test [] = omega arith
length-filtered test (t ∷ ts) =
    let rest = length-filtered test ts in
    either (λ xs. length xs ≤ length (t ∷ ts)) (test t) (t ∷ filter test ts) (filter test ts) (omega (arith, rest)) (omega (arith, rest))

-- a filter that leaves as many as there were leaves each
pub filter_all : (test : Subscription → Bool) (ts : List Subscription) → length (filter test ts) ≡ length ts → filter test ts ≡ ts
filter_all test [] e = refl
filter_all test (t ∷ ts) e = step (test t) e (filter_all test ts)
  where
    step : (b : Bool) → length (cond b (t ∷ filter test ts) (filter test ts)) ≡ length (t ∷ ts) → (length (filter test ts) ≡ length ts → filter test ts ≡ ts)
        → cond b (t ∷ filter test ts) (filter test ts) ≡ t ∷ ts
    step true as_many rest = ap (λ (l : List Subscription). t ∷ l) (rest (omega (arith, as_many)))
    step false as_many rest = absurd (omega (arith, as_many, length-filtered test ts))

pub filtered : (test : Subscription → Bool) (new old : List Subscription) → new ≡ filter test old → AreTopics old → AreTopics new
filtered test new old e topics =
    record {
      differ = rw e (SubscriptionsDiffer-filtered test old topics.differ);
      light = rw e (light_filter test old topics.light);
      few = omega (arith, ap length e, length-filtered test old, topics.few);
    }

-- a filter adds no weight
pub total-filtered : (test : Subscription → Bool) (ts : List Subscription) → total_weight subscription_weight (filter test ts) ≤ total_weight subscription_weight ts
total-filtered test [] = omega arith
total-filtered test (t ∷ ts) =
    let rest = total-filtered test ts in
    either (λ xs. total_weight subscription_weight xs ≤ total_weight subscription_weight (t ∷ ts)) (test t) (t ∷ filter test ts) (filter test ts) (omega (arith, rest)) (omega (arith, rest))

-- three texts that fit weigh no more than a world may
pub IsLight-fits : (s : Subscription) → TextFits s.scope → TextFits s.event → TextFits s.method → IsLightSubscription s
IsLight-fits s scope event method = omega (arith, scope, event, method)

-- ---- weights

pub total_bound : (ss : List Subscription) → AreLightSubscriptions ss → total_weight subscription_weight ss ≤ length ss * 131072
total_bound [] h = omega arith
total_bound (s ∷ ss) h = omega (arith, h.0, total_bound ss h.1)

pub weight_at : (ss : List Subscription) (i : ℕ) (d : Subscription) → i < length ss → subscription_weight (get_or ss i d) ≤ total_weight subscription_weight (drop i ss)
weight_at [] i d inside = absurd (omega arith)
weight_at (s ∷ ss) zero d inside = omega arith
weight_at (s ∷ ss) (suc i) d inside = weight_at ss i d (omega arith)
