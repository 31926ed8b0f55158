-- What is true of the parts of topics, with one subscription more and with fewer.
use Rattle.std.proofs.Common.{◌≡◌, ℕ, ◌+◌, ◌-◌, ◌<◌, ◌≤◌, Bool, true, false, cond, List, [], ◌∷◌, ◌++◌, length, refl, sym, ap, subst, ◌∙◌, arith}
use Rattle.std.specs.Prelude.{◌&&◌, ◌||◌, not, nat_eq, bytes_eq, encode_utf8_all}
use Rattle.std.specs.List.{list_any}
use Rattle.std.specs.Set.{remove_key}
use Rattle.std.proofs.lemmas.Bool.{false≢true}
use Rattle.std.proofs.lemmas.Slice.Eq.{bytes_eq-Decides}
use Rattle.world_plain.specs.Valid.{DiffersFromAll, SubscriptionsDiffer, most_subscriptions}
use Rattle.world_plain.specs.ValidTest.{same_subscription}
use Rattle.world_plain.specs.World.{subscription_weight, total_weight}
use Rattle.world_plain.specs.Equality.{same_equiv}
use Rattle.world_plain.specs.declared.message.Subscription.{Subscription}
use Rattle.pubsub.specs.declared.handler.Handler.{Handler}
use Rattle.pubsub.specs.declared.index.TopicIndex.{TopicIndex}
use Rattle.pubsub.specs.Topics.{AreLightSubscriptions, IsLightSubscription, is_to, is_subscribed, without_subscription, without_subscriber, handlers_of}
use Rattle.pubsub.specs.Index.{handler_of, is_by, without_handler, without_handlers_of, handlers_at, FindsMore, FindsLess, IsTight}
use Rattle.pubsub.specs.Held.{HoldsTopics}
use Rattle.pubsub.proofs.Subscriptions.{both, neither, same-true, appended, filtered, filter_all}

-- ---- who handles an event

module _ (scope event : List ℕ) where
  one_behind : (x b : Bool) (h g : Handler) (more before : List Handler) → more ≡ cond b (before ++ g ∷ []) before
      → cond x (h ∷ more) more ≡ cond b (cond x (h ∷ before) before ++ g ∷ []) (cond x (h ∷ before) before)
  one_behind true true h g more before e = ap (λ (l : List Handler). h ∷ l) e
  one_behind true false h g more before e = ap (λ (l : List Handler). h ∷ l) e
  one_behind false true h g more before e = e
  one_behind false false h g more before e = e

  handlers-appended : (s : Subscription) (ss : List Subscription)
      → handlers_of scope event (ss ++ s ∷ []) ≡ cond (is_to scope event s) (handlers_of scope event ss ++ handler_of s ∷ []) (handlers_of scope event ss)
  handlers-appended s [] = refl
  handlers-appended s (t ∷ ts) =
      one_behind (is_to scope event t) (is_to scope event s) (handler_of t) (handler_of s) (handlers_of scope event (ts ++ s ∷ [])) (handlers_of scope event ts) (handlers-appended s ts)

  -- one step of a filter of subscriptions, beside that of their handlers
  module _ (s t : Subscription) (rest : List Subscription) (before : List Handler) where
    off_topic : (d : Bool) (after : List Handler) → is_to scope event t ≡ false → handlers_of scope event rest ≡ after → handlers_of scope event (cond d (t ∷ rest) rest) ≡ after
    off_topic true after off e = ap (λ (x : Bool). cond x (handler_of t ∷ handlers_of scope event rest) (handlers_of scope event rest)) off ∙ e
    off_topic false after off e = e

    on_topic : (d : Bool) (after : List Handler) → is_to scope event t ≡ true → handlers_of scope event rest ≡ after → handlers_of scope event (cond d (t ∷ rest) rest) ≡ cond d (handler_of t ∷ after) after
    on_topic true after on e = ap (λ (x : Bool). cond x (handler_of t ∷ handlers_of scope event rest) (handlers_of scope event rest)) on ∙ ap (λ (l : List Handler). handler_of t ∷ l) e
    on_topic false after on e = e

    one_less : (x b d k : Bool) → is_to scope event t ≡ x → same_subscription t s ≡ d → is_by s (handler_of t) ≡ k
        → (x ≡ true → b ≡ true → d ≡ k) → (x ≡ true → b ≡ false → d ≡ false)
        → handlers_of scope event rest ≡ cond b (without_handler s before) before
        → handlers_of scope event (cond (not d) (t ∷ rest) rest) ≡ cond b (without_handler s (cond x (handler_of t ∷ before) before)) (cond x (handler_of t ∷ before) before)
    one_less false b d k off same by at_topic elsewhere e = off_topic (not d) (cond b (without_handler s before) before) off e
    one_less true true d k on same by at_topic elsewhere e =
        on_topic (not d) (without_handler s before) on e
        ∙ ap (λ (y : Bool). cond (not y) (handler_of t ∷ without_handler s before) (without_handler s before)) (at_topic refl refl ∙ sym by)
    one_less true false d k on same by at_topic elsewhere e =
        on_topic (not d) before on e ∙ ap (λ (y : Bool). cond (not y) (handler_of t ∷ before) before) (elsewhere refl refl)

    one_gone : (object : ℕ) (x d : Bool) → is_to scope event t ≡ x → nat_eq t.object object ≡ d
        → handlers_of scope event rest ≡ without_handlers_of object before
        → handlers_of scope event (cond (not d) (t ∷ rest) rest) ≡ without_handlers_of object (cond x (handler_of t ∷ before) before)
    one_gone object false d off gone e = off_topic (not d) (without_handlers_of object before) off e
    one_gone object true d on gone e =
        on_topic (not d) (without_handlers_of object before) on e
        ∙ ap (λ (y : Bool). cond (not y) (handler_of t ∷ without_handlers_of object before) (without_handlers_of object before)) (sym gone)

  -- two of one topic are the same where their handlers are
  same_in_topic : (s t : Subscription) → is_to scope event t ≡ true → is_to scope event s ≡ true → same_subscription t s ≡ is_by s (handler_of t)
  same_in_topic s t on of_s =
      let mine = both (bytes_eq t.scope scope) (bytes_eq t.event event) on in
      let theirs = both (bytes_eq s.scope scope) (bytes_eq s.event event) of_s in
      let scopes : t.scope ≡ s.scope = (bytes_eq-Decides t.scope scope).0 mine.0 ∙ sym ((bytes_eq-Decides s.scope scope).0 theirs.0) in
      let events : t.event ≡ s.event = (bytes_eq-Decides t.event event).0 mine.1 ∙ sym ((bytes_eq-Decides s.event event).0 theirs.1) in
      λ i. ((bytes_eq-Decides t.scope s.scope).1 scopes i && (bytes_eq-Decides t.event s.event).1 events i) && is_by s (handler_of t)

  -- and two of which one is not of this topic are not
  same_elsewhere : (s t : Subscription) (d : Bool) → same_subscription t s ≡ d → is_to scope event t ≡ true → is_to scope event s ≡ false → d ≡ false
  same_elsewhere s t false same on off = refl
  same_elsewhere s t true same on off =
      absurd (false≢true (sym off ∙ subst (λ (u : Subscription). is_to scope event u ≡ true) (same-true t s same) on))

  handlers-without : (s : Subscription) (ss : List Subscription)
      → handlers_of scope event (without_subscription s ss) ≡ cond (is_to scope event s) (without_handler s (handlers_of scope event ss)) (handlers_of scope event ss)
  handlers-without s [] = either_nil (is_to scope event s)
    where
      either_nil : (b : Bool) → [] ≡ cond b (without_handler s []) []
      either_nil true = refl
      either_nil false = refl
  handlers-without s (t ∷ ts) =
      one_less s t (without_subscription s ts) (handlers_of scope event ts) (is_to scope event t) (is_to scope event s) (same_subscription t s) (is_by s (handler_of t)) refl refl refl
      (λ on of_s. same_in_topic s t on of_s) (λ on off. same_elsewhere s t (same_subscription t s) refl on off) (handlers-without s ts)

  handlers-left : (object : ℕ) (ss : List Subscription) → handlers_of scope event (without_subscriber object ss) ≡ without_handlers_of object (handlers_of scope event ss)
  handlers-left object [] = refl
  handlers-left object (t ∷ ts) =
      one_gone t t (without_subscriber object ts) (handlers_of scope event ts) object (is_to scope event t) (nat_eq t.object object) refl refl (handlers-left object ts)

-- ---- a set of subscriptions

pub is_subscribed-list_any : (s : Subscription) (ss : List Subscription) → is_subscribed s ss ≡ list_any (same_subscription s) ss
is_subscribed-list_any s [] = refl
is_subscribed-list_any s (t ∷ ts) = λ i. same_equiv.symm t s i || is_subscribed-list_any s ts i

-- one that differs from all the others is the only one equal to s
only : (s t : Subscription) (ts : List Subscription) → same_subscription t s ≡ true → DiffersFromAll t ts → without_subscription s ts ≡ ts
only s t [] same differ = refl
only s t (u ∷ us) same differ = step (same_subscription u s) refl (only s t us same differ.1)
  where
    step : (d : Bool) → same_subscription u s ≡ d → without_subscription s us ≡ us → cond (not d) (u ∷ without_subscription s us) (without_subscription s us) ≡ u ∷ us
    step true e rest = absurd (differ.0 (same-true t s same ∙ sym (same-true u s e)))
    step false e rest = ap (λ (l : List Subscription). u ∷ l) rest

removed : (s : Subscription) (ss : List Subscription) → SubscriptionsDiffer ss → remove_key (same_subscription s) ss ≡ without_subscription s ss
removed s [] differ = refl
removed s (t ∷ ts) differ =
    ap (λ (d : Bool). cond d ts (t ∷ remove_key (same_subscription s) ts)) (same_equiv.symm s t) ∙ step (same_subscription t s) refl (removed s ts differ.1)
  where
    step : (d : Bool) → same_subscription t s ≡ d → remove_key (same_subscription s) ts ≡ without_subscription s ts
        → cond d ts (t ∷ remove_key (same_subscription s) ts) ≡ cond (not d) (t ∷ without_subscription s ts) (without_subscription s ts)
    step true e rest = sym (only s t ts e differ.0)
    step false e rest = ap (λ (l : List Subscription). t ∷ l) rest

-- without one that is not held
pub absent : (s : Subscription) (ss : List Subscription) → is_subscribed s ss ≡ false → without_subscription s ss ≡ ss
absent s [] e = refl
absent s (t ∷ ts) e =
    let no = neither (same_subscription t s) (is_subscribed s ts) e in
    ap (λ (d : Bool). cond (not d) (t ∷ without_subscription s ts) (without_subscription s ts)) no.0 ∙ ap (λ (l : List Subscription). t ∷ l) (absent s ts no.1)

-- ---- weights

total-appended : (s : Subscription) (ss : List Subscription) → total_weight subscription_weight (ss ++ s ∷ []) ≡ total_weight subscription_weight ss + subscription_weight s
total-appended s [] = omega arith
total-appended s (t ∷ ts) = omega (arith, total-appended s ts)

total-without : (s : Subscription) (ss : List Subscription) → is_subscribed s ss ≡ true → SubscriptionsDiffer ss
    → total_weight subscription_weight (without_subscription s ss) + subscription_weight s ≡ total_weight subscription_weight ss
total-without s [] e differ = absurd (false≢true e)
total-without s (t ∷ ts) e differ = step (same_subscription t s) refl e (λ there. total-without s ts there differ.1)
  where
    step : (d : Bool) → same_subscription t s ≡ d → (d || is_subscribed s ts) ≡ true
        → (is_subscribed s ts ≡ true → total_weight subscription_weight (without_subscription s ts) + subscription_weight s ≡ total_weight subscription_weight ts)
        → total_weight subscription_weight (cond (not d) (t ∷ without_subscription s ts) (without_subscription s ts)) + subscription_weight s ≡ total_weight subscription_weight (t ∷ ts)
    step true same e rest =
        let one : subscription_weight t ≡ subscription_weight s = ap subscription_weight (same-true t s same) in
        omega (arith, one, ap (total_weight subscription_weight) (only s t ts same differ.0))
    step false same e rest = omega (arith, rest e)

pub light_held : (s : Subscription) (ss : List Subscription) → is_subscribed s ss ≡ true → AreLightSubscriptions ss → IsLightSubscription s
light_held s [] e light = absurd (false≢true e)
light_held s (t ∷ ts) e light = step (same_subscription t s) refl e (λ there. light_held s ts there light.1)
  where
    step : (d : Bool) → same_subscription t s ≡ d → (d || is_subscribed s ts) ≡ true → (is_subscribed s ts ≡ true → IsLightSubscription s) → IsLightSubscription s
    step true same e rest = subst IsLightSubscription (same-true t s same) light.0
    step false same e rest = rest e

-- ---- the parts of topics

module _ (s : Subscription) (old new : List Subscription) (was index : TopicIndex) (weight : ℕ) (held : HoldsTopics old was weight) where
  pub one_more : is_subscribed s old ≡ false → length old < most_subscriptions → IsLightSubscription s → new ≡ old ++ s ∷ [] → FindsMore s was index → IsTight index
      → HoldsTopics new index (weight + subscription_weight s)
  one_more is_new room light is finds tight = record {
    topics = appended s new old is held.topics is_new room light;
    indexed = λ scope event of_scope of_event.
        finds scope event of_scope of_event
        ∙ ap (λ (l : List Handler). cond (is_to scope event s) (l ++ handler_of s ∷ []) l) (held.indexed scope event of_scope of_event)
        ∙ sym (handlers-appended scope event s old)
        ∙ ap (handlers_of scope event) (sym is);
    tight = tight;
    weighed = omega (arith, held.weighed, total-appended s old, ap (total_weight subscription_weight) is);
  }

  pub weight_fits : is_subscribed s old ≡ true → subscription_weight s ≤ weight
  weight_fits there = omega (arith, held.weighed, total-without s old there held.topics.differ)

  pub left_by_key : new ≡ remove_key (same_subscription s) old → new ≡ without_subscription s old
  left_by_key is = is ∙ removed s old held.topics.differ

  pub one_fewer : is_subscribed s old ≡ true → new ≡ without_subscription s old → FindsLess s was index → IsTight index
      → HoldsTopics new index (weight - subscription_weight s)
  one_fewer there is finds tight = record {
    topics = filtered (λ (t : Subscription). not (same_subscription t s)) new old is held.topics;
    indexed = λ scope event of_scope of_event.
        finds scope event of_scope of_event
        ∙ ap (λ (l : List Handler). cond (is_to scope event s) (without_handler s l) l) (held.indexed scope event of_scope of_event)
        ∙ sym (handlers-without scope event s old)
        ∙ ap (handlers_of scope event) (sym is);
    tight = tight;
    weighed = omega (arith, held.weighed, total-without s old there held.topics.differ, ap (total_weight subscription_weight) is);
  }

-- where as many are left as were held, each is
pub none_gone : (object : ℕ) (old new : List Subscription) → new ≡ without_subscriber object old → length new ≡ length old → new ≡ old
none_gone object old new is as_many = is ∙ filter_all (λ (s : Subscription). not (nat_eq s.object object)) old (ap length (sym is) ∙ as_many)

pub without_one : (object : ℕ) (old new : List Subscription) (was index : TopicIndex) (weight after : ℕ) → HoldsTopics old was weight
    → new ≡ without_subscriber object old
    → ((scope event : List ℕ) → handlers_at index scope event ≡ without_handlers_of object (handlers_at was scope event))
    → IsTight index
    → after ≡ total_weight subscription_weight new
    → HoldsTopics new index after
without_one object old new was index weight after held is finds tight weighed = record {
  topics = filtered (λ (s : Subscription). not (nat_eq s.object object)) new old is held.topics;
  indexed = λ scope event of_scope of_event.
      finds (encode_utf8_all scope) (encode_utf8_all event)
      ∙ ap (without_handlers_of object) (held.indexed scope event of_scope of_event)
      ∙ sym (handlers-left scope event object old)
      ∙ ap (handlers_of scope event) (sym is);
  tight = tight;
  weighed = weighed;
}
