-- What is left of a world without an object.
use Rattle.std.proofs.Common.{◌≡◌, ℕ, ◌+◌, ◌≤◌, ◌<◌, Bool, true, false, not, List, [], ◌∷◌, map, Option, Some, nat_eq, nat_le, refl, sym, ◌∙◌, arith, if◌then◌else◌}
use Rattle.std.specs.List.{filter}
use Rattle.std.proofs.lemmas.Bool.{eqb-true, not-true, not-false, eqb-false}
use Rattle.world_plain.specs.World.{ObjectRecord}
use Rattle.world_plain.specs.Messages.{PlainMessage}
use Rattle.world_plain.specs.Valid.{RiseFrom, object_at, if_same, IsHeld, ObjectsFit, KnownFit, SubscriptionsFit, MessagesFit}
use Rattle.world_plain.specs.declared.message.Subscription.{Subscription}
use Rattle.world_plain.specs.declared.world.Known.{Known}
pub use Rattle.message_queue.proofs.Filtered.{filter-all, AreInOrder-filtered, NumbersDiffer-filtered, total-filtered, length-filtered}
pub use Rattle.known_names.proofs.KnownOrder.{KnownRise-filtered}
pub use Rattle.pubsub.proofs.Subscriptions.{SubscriptionsDiffer-filtered}
use Rattle.model_eval.specs.Kept.{count_due}
use Rattle.model_eval.proofs.FieldBounds.{if_both}
use Rattle.model_eval.proofs.Pending.{if_either}
use Rattle.model_eval.proofs.Created.{found-still}

RiseFrom-lower : (low x : ℕ) (xs : List ℕ) → low < x → RiseFrom x xs → RiseFrom low xs
RiseFrom-lower low x [] below h = tt
RiseFrom-lower low x (y ∷ ys) below h = let above : x < y = h.0 in (omega arith, h.1)

pub ids-filtered : (keeps : ObjectRecord → Bool) (low : ℕ) (os : List ObjectRecord) → RiseFrom low (map (λ o. o.id) os) → RiseFrom low (map (λ o. o.id) (filter keeps os))
ids-filtered keeps low [] h = tt
ids-filtered keeps low (o ∷ os) h =
    let left : RiseFrom o.id (map (λ o. o.id) (filter keeps os)) = ids-filtered keeps o.id os h.1 in
    if_both (λ l. RiseFrom low (map (λ o. o.id) l)) (keeps o) (o ∷ filter keeps os) (filter keeps os) (h.0, left) (RiseFrom-lower low o.id (map (λ o. o.id) (filter keeps os)) h.0 left)

pub ObjectsFit-filtered : (counts : List ℕ) (next : ℕ) (keeps : ObjectRecord → Bool) (os : List ObjectRecord) → ObjectsFit counts next os → ObjectsFit counts next (filter keeps os)
ObjectsFit-filtered counts next keeps = filter-all (ObjectsFit counts next) keeps tt (λ o os h. h.1) (λ o os ps h g. (h.0, g))

pub SubscriptionsFit-filtered : (os : List ObjectRecord) (keeps : Subscription → Bool) (ss : List Subscription) → SubscriptionsFit os ss → SubscriptionsFit os (filter keeps ss)
SubscriptionsFit-filtered os keeps = filter-all (SubscriptionsFit os) keeps tt (λ s ss h. h.1) (λ s ss ts h g. (h.0, g))

pub MessagesFit-filtered : (time next : ℕ) (os : List ObjectRecord) (keeps : PlainMessage → Bool) (ms : List PlainMessage) → MessagesFit time next os ms → MessagesFit time next os (filter keeps ms)
MessagesFit-filtered time next os keeps = filter-all (MessagesFit time next os) keeps tt (λ m ms h. h.1) (λ m ms ns h g. (h.0, g))

-- ---- counts and weights

pub due-filtered : (time : ℕ) (keeps : PlainMessage → Bool) (ms : List PlainMessage) → count_due time (filter keeps ms) ≤ count_due time ms
due-filtered time keeps [] = omega arith
due-filtered time keeps (m ∷ ms) =
    let fewer : count_due time (filter keeps ms) ≤ count_due time ms = due-filtered time keeps ms in
    if_both (λ l. count_due time l ≤ (if nat_le m.time time then 1 else 0) + count_due time ms) (keeps m) (m ∷ filter keeps ms) (filter keeps ms) (omega arith) (omega arith)

-- ---- what speaks of objects by their numbers

abbrev pub others : ℕ → List ObjectRecord → List ObjectRecord
others id os = filter (λ o. not (nat_eq o.id id)) os

found-behind : (same : Bool) (o q : ObjectRecord) (x : Option ObjectRecord) → ¬ (same ≡ true) → if_same same o x ≡ Some q → x ≡ Some q
found-behind true o q x apart e = absurd (apart refl)
found-behind false o q x apart e = e

object_at-others : (id other : ℕ) (os : List ObjectRecord) (q : ObjectRecord) → nat_eq other id ≡ false → object_at os other ≡ Some q → object_at (others id os) other ≡ Some q
object_at-others id other [] q apart e = absurd cc
object_at-others id other (o ∷ os) q apart e =
    if_either (λ l. object_at l other ≡ Some q) (not (nat_eq o.id id)) (o ∷ others id os) (others id os)
    (λ _. found-still (nat_eq o.id other) o q (object_at os other) (object_at (others id os) other) (object_at-others id other os q apart) e)
    (λ gone. object_at-others id other os q apart
    (found-behind (nat_eq o.id other) o q (object_at os other)
    (λ same. eqb-false other id apart (sym (eqb-true o.id other same) ∙ eqb-true o.id id (not-false (nat_eq o.id id) gone))) e))

others-held : (id other : ℕ) (os : List ObjectRecord) → not (nat_eq other id) ≡ true → IsHeld os other → IsHeld (others id os) other
others-held id other os apart held = (held.0, object_at-others id other os held.0 (not-true (nat_eq other id) apart) held.1)

pub KnownFit-others : (id : ℕ) (os : List ObjectRecord) (ks : List Known) → KnownFit os ks → KnownFit (others id os) (filter (λ k. not (nat_eq k.object id)) ks)
KnownFit-others id os [] h = tt
KnownFit-others id os (k ∷ ks) h =
    let left : KnownFit (others id os) (filter (λ k. not (nat_eq k.object id)) ks) = KnownFit-others id os ks h.1 in
    if_either (KnownFit (others id os)) (not (nat_eq k.object id)) (k ∷ filter (λ k. not (nat_eq k.object id)) ks) (filter (λ k. not (nat_eq k.object id)) ks)
    (λ apart. ((h.0.0, others-held id k.object os apart h.0.1), left)) (λ _. left)

pub SubscriptionsFit-others : (id : ℕ) (os : List ObjectRecord) (ss : List Subscription)
    → SubscriptionsFit os ss → SubscriptionsFit (others id os) (filter (λ s. not (nat_eq s.object id)) ss)
SubscriptionsFit-others id os [] h = tt
SubscriptionsFit-others id os (s ∷ ss) h =
    let left : SubscriptionsFit (others id os) (filter (λ s. not (nat_eq s.object id)) ss) = SubscriptionsFit-others id os ss h.1 in
    if_either (SubscriptionsFit (others id os)) (not (nat_eq s.object id)) (s ∷ filter (λ s. not (nat_eq s.object id)) ss) (filter (λ s. not (nat_eq s.object id)) ss)
    (λ apart. ((h.0.0, h.0.1, h.0.2, others-held id s.object os apart h.0.3), left)) (λ _. left)

pub MessagesFit-others : (time next id : ℕ) (os : List ObjectRecord) (ms : List PlainMessage)
    → MessagesFit time next os ms → MessagesFit time next (others id os) (filter (λ m. not (nat_eq m.object id)) ms)
MessagesFit-others time next id os [] h = tt
MessagesFit-others time next id os (m ∷ ms) h =
    let left : MessagesFit time next (others id os) (filter (λ m. not (nat_eq m.object id)) ms) = MessagesFit-others time next id os ms h.1 in
    if_either (MessagesFit time next (others id os)) (not (nat_eq m.object id)) (m ∷ filter (λ m. not (nat_eq m.object id)) ms) (filter (λ m. not (nat_eq m.object id)) ms)
    (λ apart. ((h.0.0, h.0.1, h.0.2, others-held id m.object os apart h.0.3, h.0.4, h.0.5, h.0.6), left)) (λ _. left)
