-- The messages in memory and the queue that is seen of them: one more, the first taken, and fewer.
use Rattle.std.proofs.Common.{◌≡◌, ℕ, zero, suc, ◌+◌, ◌-◌, ◌≤◌, ◌<◌, ◌↔◌, Bool, false, List, [], ◌∷◌, length, nat_eq, slice_get, IsTrue, Some, get_or, refl, sym, ap, subst, ◌∙◌, arith}
use Rattle.std.specs.List.{All, AllByRecursion, filter, sum_by}
use Rattle.std.specs.List.Sorted.{IsPermutation, IsSortedBy}
use Rattle.std.specs.Option.{option_map}
use Rattle.std.proofs.lemmas.Bool.{eqb-true, eq-eqb}
use Rattle.std.proofs.Math.ListN.{get_or-map}
use Rattle.std.proofs.lemmas.List.{length-map}
use Rattle.std.proofs.lemmas.List.Elements.{All-from_get_or, All-tail, recursion_from_All}
use Rattle.std.proofs.lemmas.List.Sums.{sum_by-cons}
use Rattle.std.proofs.lemmas.List.Sorted.{IsPermutation-refl, IsPermutation-map, All-permutation, sum_by-IsPermutation}
use Rattle.world_plain.specs.Messages.{PlainMessage, plain_message}
use Rattle.world_plain.specs.World.{message_weight, total_weight}
use Rattle.world_plain.specs.Valid.{PrecedesAll, IsUnused, NumbersDiffer, most_messages}
use Rattle.world_plain.specs.ValidTest.{is_due_before}
use Rattle.world_plain.specs.declared.message.Message.{Message}
use Rattle.message_queue.specs.Heap.{IsHeap, is_sooner, is_later}
use Rattle.message_queue.specs.Queue.{QueueRecord, IsQueue, IsLightMessage, AreLightMessages, insert_in_order, least_of}
use Rattle.message_queue.specs.View.{messages_seen, in_order, queue_seen, HoldsQueue}
use Rattle.message_queue.proofs.Before.{precedes-false, later_order}
use Rattle.message_queue.proofs.Filtered.{NumbersDiffer-filtered, IsQueue-filtered, none_gone}
use Rattle.message_queue.proofs.InOrder.{NumbersDiffer-permuted, inserted_first, PrecedesAll-in_order, length-in_order, total-in_order, in_order_already, in_order_permuted, differ_before, unused_before, kept_in_order, AreInOrder-sorted}
use Rattle.message_queue.proofs.Messages.{total_bound}
use Rattle.message_queue.proofs.Order.{if_either, total-inserted, IsQueue-inserted}
use Rattle.message_queue.proofs.Sifts.{first_of_heap}

seen_permuted : (xs ys : List Message) → IsPermutation xs ys → IsPermutation (messages_seen xs) (messages_seen ys)
seen_permuted xs ys p = IsPermutation-map plain_message xs ys p

pub length-seen : (ms : List Message) → length (in_order (messages_seen ms)) ≡ length ms
length-seen ms = length-in_order (messages_seen ms) ∙ length-map ms plain_message

no_length : {A : Type 0} (xs : List A) → length xs ≡ 0 → xs ≡ []
no_length [] e = refl
no_length (x ∷ xs) e = absurd (omega arith)

-- what tells whether a length is 0 tells whether there is nothing
pub tells_empty : {A : Type 0} (told : Bool) (n : ℕ) (xs : List A) → told ≡ nat_eq n 0 → length xs ≡ n → IsTrue told ↔ (xs ≡ [])
tells_empty told n xs e long = (λ t. no_length xs (long ∙ eqb-true n 0 (sym e ∙ t)), λ none. e ∙ eq-eqb n 0 (sym long ∙ ap length none))

-- ---- weights

light_parts : (m : PlainMessage) (ns : List PlainMessage) → AreLightMessages (insert_in_order m ns) → IsLightMessage m × AreLightMessages ns
light_parts m [] h = (h.0, tt)
light_parts m (n ∷ ns) h =
    if_either (λ l. AreLightMessages l → IsLightMessage m × AreLightMessages (n ∷ ns)) (is_due_before m n) (m ∷ n ∷ ns) (n ∷ insert_in_order m ns) (λ _ g. (g.0, g.1))
    (λ _ g. let parts : IsLightMessage m × AreLightMessages ns = light_parts m ns g.1 in (parts.0, (g.0, parts.1))) h

light_before : (ms : List PlainMessage) → AreLightMessages (in_order ms) → AreLightMessages ms
light_before [] h = tt
light_before (m ∷ ms) h = let parts : IsLightMessage m × AreLightMessages (in_order ms) = light_parts m (in_order ms) h in (parts.0, light_before ms parts.1)

pub few_held : (ms : List Message) (next weight : ℕ) → HoldsQueue ms next weight → length ms ≤ most_messages
few_held ms next weight h = omega (arith, h.queue.few, length-seen ms)

pub weight_bound : (ms : List Message) (next weight : ℕ) → HoldsQueue ms next weight → weight ≤ 2147483648
weight_bound ms next weight h = omega (arith, h.total, h.queue.few, total_bound (in_order (messages_seen ms)) h.queue.light)

-- ---- a message more

pub seen_with_one : (ms new : List Message) (m : Message) → IsPermutation (m ∷ ms) new → IsUnused (plain_message m).number (in_order (messages_seen ms)) → NumbersDiffer (in_order (messages_seen ms)) → in_order (messages_seen new) ≡ insert_in_order (plain_message m) (in_order (messages_seen ms))
seen_with_one ms new m p unused differ =
    in_order_permuted (messages_seen (m ∷ ms)) (messages_seen new) (seen_permuted (m ∷ ms) new p)
    (unused_before (plain_message m).number (messages_seen ms) unused, differ_before (messages_seen ms) differ)

pub held_with_one : (ms new : List Message) (m : Message) (next more weight w : ℕ)
    → HoldsQueue ms next weight
    → IsPermutation (m ∷ ms) new
    → IsHeap new
    → IsUnused (plain_message m).number (in_order (messages_seen ms))
    → (plain_message m).number < more
    → next ≤ more
    → length ms < most_messages
    → IsLightMessage (plain_message m)
    → w ≡ message_weight (plain_message m)
    → HoldsQueue new more (weight + w)
held_with_one ms new m next more weight w h p heap unused below later few light is =
    let seen = seen_with_one ms new m p unused h.queue.differ in record {
      queue = subst (λ (l : List PlainMessage). IsQueue (record { messages = l; next = more })) (sym seen) (IsQueue-inserted (plain_message m) (queue_seen ms next) more h.queue unused below later (omega (arith, few, length-seen ms)) light);
      heap = heap;
      total = omega (arith, h.total, is, ap (total_weight message_weight) seen, total-inserted message_weight (plain_message m) (in_order (messages_seen ms)));
    }

-- ---- the first message taken

first_precedes : (m : Message) (ns : List Message) → AllByRecursion (λ n. is_later m n ≡ false) ns → IsUnused (plain_message m).number (messages_seen ns) → PrecedesAll (plain_message m) (messages_seen ns)
first_precedes m [] h u = tt
first_precedes m (n ∷ ns) h u = (precedes-false (plain_message n) (plain_message m) (λ e. u.0 (sym e)) h.0, first_precedes m ns h.1 u.1)

none_sooner : (ms new : List Message) (m : Message) → IsHeap ms → IsPermutation ms (m ∷ new) → m ≡ get_or ms 0 m → AllByRecursion (λ n. is_later m n ≡ false) new
none_sooner ms new m heap p first =
    let P = λ (n : Message). is_later m n ≡ false in
    let all : All P ms = All-from_get_or P ms m (λ i inside. ap (λ n. is_later n (get_or ms i m)) first ∙ first_of_heap is_later later_order ms (length ms) m heap i i (omega arith) inside) in
    recursion_from_All P new (All-tail P m new (All-permutation P ms (m ∷ new) p all))

pub seen_first : (ms new : List Message) (m : Message) (next weight : ℕ) → HoldsQueue ms next weight → IsPermutation ms (m ∷ new) → m ≡ get_or ms 0 m → in_order (messages_seen ms) ≡ plain_message m ∷ in_order (messages_seen new)
seen_first ms new m next weight h p first =
    let before : NumbersDiffer (messages_seen ms) = differ_before (messages_seen ms) h.queue.differ in
    let differ : NumbersDiffer (messages_seen (m ∷ new)) = NumbersDiffer-permuted (messages_seen ms) (messages_seen (m ∷ new)) (seen_permuted ms (m ∷ new) p) before in
    let precedes : PrecedesAll (plain_message m) (messages_seen new) = first_precedes m new (none_sooner ms new m h.heap p first) differ.0 in
    sym (in_order_permuted (messages_seen ms) (messages_seen (m ∷ new)) (seen_permuted ms (m ∷ new) p) before)
    ∙ inserted_first (plain_message m) (in_order (messages_seen new)) (PrecedesAll-in_order (plain_message m) (messages_seen new) precedes)

-- the time and the number of the first are the least
pub least_held : (ms : List Message) (m : Message) (next weight : ℕ) → HoldsQueue ms next weight → Some m ≡ slice_get ms 0 → Some (m.time, m.number) ≡ least_of (in_order (messages_seen ms))
least_held [] m next weight h e = absurd cc
least_held (n ∷ ms) m next weight h e =
    ap (option_map (λ (k : Message). (k.time, k.number))) e ∙ sym (ap least_of (seen_first (n ∷ ms) ms n next weight h (IsPermutation-refl (n ∷ ms)) refl))

rest_is_queue : (m : PlainMessage) (all ms : List PlainMessage) (next : ℕ) → all ≡ m ∷ ms → IsQueue (record { messages = all; next = next }) → IsQueue (record { messages = ms; next = next })
rest_is_queue m all ms next e h =
    let q : IsQueue (record { messages = m ∷ ms; next = next }) = subst (λ (l : List PlainMessage). IsQueue (record { messages = l; next = next })) e h in
    record { order = q.order.1; differ = q.differ.1; next = q.next.1; light = q.light.1; few = omega (arith, q.few) }

pub first_light : (ms new : List Message) (m : Message) (next weight : ℕ) → HoldsQueue ms next weight → IsPermutation ms (m ∷ new) → m ≡ get_or ms 0 m → IsLightMessage (plain_message m)
first_light ms new m next weight h p first = (subst AreLightMessages (seen_first ms new m next weight h p first) h.queue.light).0

pub first_weighs : (ms new : List Message) (m : Message) (next weight : ℕ) → HoldsQueue ms next weight → IsPermutation ms (m ∷ new) → m ≡ get_or ms 0 m → weight ≡ message_weight (plain_message m) + total_weight message_weight (in_order (messages_seen new))
first_weighs ms new m next weight h p first = h.total ∙ ap (total_weight message_weight) (seen_first ms new m next weight h p first)

pub held_without_first : (ms new : List Message) (m : Message) (next weight w : ℕ)
    → HoldsQueue ms next weight
    → IsPermutation ms (m ∷ new)
    → m ≡ get_or ms 0 m
    → IsHeap new
    → w ≡ message_weight (plain_message m)
    → HoldsQueue new next (weight - w)
held_without_first ms new m next weight w h p first heap is = record {
  queue = rest_is_queue (plain_message m) (in_order (messages_seen ms)) (in_order (messages_seen new)) next (seen_first ms new m next weight h p first) h.queue;
  heap = heap;
  total = omega (arith, is, first_weighs ms new m next weight h p first);
}

-- ---- messages fewer

-- messages that were sorted are seen as they stand
pub seen_sorted : (ms new : List Message) → IsPermutation ms new → IsSortedBy is_sooner new → NumbersDiffer (messages_seen ms) → messages_seen new ≡ in_order (messages_seen ms)
seen_sorted ms new p up differ =
    let seen = seen_permuted ms new p in
    sym (in_order_already (messages_seen new) (AreInOrder-sorted new up (NumbersDiffer-permuted (messages_seen ms) (messages_seen new) seen differ)))
    ∙ in_order_permuted (messages_seen ms) (messages_seen new) seen differ

differ_kept : (keeps : PlainMessage → Bool) (ms : List PlainMessage) (next : ℕ) → IsQueue (record { messages = in_order ms; next = next }) → NumbersDiffer (filter keeps ms)
differ_kept keeps ms next q = NumbersDiffer-filtered keeps ms (differ_before ms q.differ)

seen_kept : (keeps : PlainMessage → Bool) (ms kept new : List Message) (next weight : ℕ)
    → HoldsQueue ms next weight
    → messages_seen kept ≡ filter keeps (messages_seen ms)
    → IsPermutation kept new
    → in_order (messages_seen new) ≡ filter keeps (in_order (messages_seen ms))
seen_kept keeps ms kept new next weight h is p =
    let differ : NumbersDiffer (messages_seen kept) = subst NumbersDiffer (sym is) (differ_kept keeps (messages_seen ms) next h.queue) in
    in_order_permuted (messages_seen kept) (messages_seen new) (seen_permuted kept new p) differ
    ∙ ap in_order is
    ∙ sym (kept_in_order keeps (messages_seen ms) (differ_before (messages_seen ms) h.queue.differ))

pub total-permuted : (ms new : List Message) → IsPermutation ms new → total_weight message_weight (messages_seen new) ≡ total_weight message_weight (messages_seen ms)
total-permuted ms new p =
    total-sum (messages_seen new) ∙ sum_by-IsPermutation message_weight (messages_seen ms) (messages_seen new) (seen_permuted ms new p) ∙ sym (total-sum (messages_seen ms))
  where
    total-sum : (ns : List PlainMessage) → total_weight message_weight ns ≡ sum_by message_weight ns
    total-sum [] = refl
    total-sum (n ∷ ns) = ap (λ (sum : ℕ). message_weight n + sum) (total-sum ns) ∙ sym (sum_by-cons message_weight n ns)

kept_is_queue : (keeps : PlainMessage → Bool) (ms kept new : List Message) (next weight : ℕ)
    → HoldsQueue ms next weight
    → messages_seen kept ≡ filter keeps (messages_seen ms)
    → IsPermutation kept new
    → IsQueue (queue_seen new next)
kept_is_queue keeps ms kept new next weight h is p =
    subst (λ (l : List PlainMessage). IsQueue (record { messages = l; next = next })) (sym (seen_kept keeps ms kept new next weight h is p)) (IsQueue-filtered keeps (queue_seen ms next) h.queue)

pub kept_light : (keeps : PlainMessage → Bool) (ms kept new : List Message) (next weight : ℕ)
    → HoldsQueue ms next weight
    → messages_seen kept ≡ filter keeps (messages_seen ms)
    → IsPermutation kept new
    → AreLightMessages (messages_seen new)
kept_light keeps ms kept new next weight h is p = light_before (messages_seen new) (kept_is_queue keeps ms kept new next weight h is p).light

-- the queue that is seen of the messages that are left
pub queue_left : (keeps : PlainMessage → Bool) (was : QueueRecord) (ms kept new : List Message) (next weight : ℕ)
    → HoldsQueue ms next weight
    → messages_seen kept ≡ filter keeps (messages_seen ms)
    → IsPermutation kept new
    → queue_seen ms next ≡ was
    → queue_seen new next ≡ record was { messages = filter keeps was.messages }
queue_left keeps was ms kept new next weight h is p view =
    ap (λ (l : List PlainMessage). record { messages = l; next = next }) (seen_kept keeps ms kept new next weight h is p)
    ∙ ap (λ (q : QueueRecord). record q { messages = filter keeps q.messages }) view

-- the messages that are gone and those that are left are as many as there were
pub number_left : (was : QueueRecord) (ms new : List Message) (next before gone : ℕ)
    → queue_seen ms next ≡ was
    → before ≡ length ms
    → gone + length new ≡ before
    → gone + length (in_order (messages_seen new)) ≡ length was.messages
number_left was ms new next before gone view many left =
    omega (arith, many, left, length-seen new, length-seen ms, ap (λ (q : QueueRecord). length q.messages) view)

held_kept : (keeps : PlainMessage → Bool) (ms kept new : List Message) (next weight w : ℕ)
    → HoldsQueue ms next weight
    → messages_seen kept ≡ filter keeps (messages_seen ms)
    → IsPermutation kept new
    → IsHeap new
    → w ≡ total_weight message_weight (messages_seen new)
    → HoldsQueue new next w
held_kept keeps ms kept new next weight w h is p heap weighed = record {
  queue = kept_is_queue keeps ms kept new next weight h is p;
  heap = heap;
  total = weighed ∙ sym (total-in_order message_weight (messages_seen new));
}

-- ---- none gone

heap_seen : (ms ns : List Message) → messages_seen ns ≡ messages_seen ms → IsHeap ms → IsHeap ns
heap_seen ms ns e heap =
    let long : length ns ≡ length ms = sym (length-map ns plain_message) ∙ ap length e ∙ length-map ms plain_message in
    λ p k d lo a b inside. (λ i. is_due_before (same k d i) (same p d i)) ∙ heap p k d lo a b (omega (arith, inside, long))
  where
    same : (i : ℕ) (d : Message) → plain_message (get_or ns i d) ≡ plain_message (get_or ms i d)
    same i d = sym (get_or-map plain_message ns i d) ∙ ap (λ (l : List PlainMessage). get_or l i (plain_message d)) e ∙ get_or-map plain_message ms i d

-- where as many messages are left, they are seen as they were
held_all : (keeps : PlainMessage → Bool) (ms kept : List Message) (next weight : ℕ)
    → HoldsQueue ms next weight
    → messages_seen kept ≡ filter keeps (messages_seen ms)
    → length kept ≡ length ms
    → HoldsQueue kept next weight
held_all keeps ms kept next weight h is long =
    let left : length (filter keeps (messages_seen ms)) ≡ length (messages_seen ms) = sym (ap length is) ∙ length-map kept plain_message ∙ long ∙ sym (length-map ms plain_message) in
    let same : messages_seen kept ≡ messages_seen ms = is ∙ none_gone keeps (messages_seen ms) left in record {
      queue = kept_is_queue keeps ms kept kept next weight h is (IsPermutation-refl kept);
      heap = heap_seen ms kept same h.heap;
      total = h.total ∙ ap (λ l. total_weight message_weight (in_order l)) (sym same);
    }

at_most : (P : Type 0) (k n : ℕ) → k ≤ n → (k < n → P) → (k ≡ n → P) → P
at_most P zero zero most less same = same refl
at_most P zero (suc n) most less same = less (omega arith)
at_most P (suc k) zero most less same = absurd (omega (arith, most))
at_most P (suc k) (suc n) most less same = at_most P k n (omega (arith, most)) (λ l. less (omega (arith, l))) (λ e. same (ap suc e))

-- what is left of so many messages, in a heap of its own where some are gone
pub held_left : (keeps : PlainMessage → Bool) (ms kept new : List Message) (next weight w before : ℕ)
    → HoldsQueue ms next weight
    → messages_seen kept ≡ filter keeps (messages_seen ms)
    → IsPermutation kept new
    → before ≡ length ms
    → length kept ≤ before
    → (length kept < before → IsHeap new × (w ≡ total_weight message_weight (messages_seen new)))
    → (length kept ≡ before → (new ≡ kept) × (w ≡ weight))
    → HoldsQueue new next w
held_left keeps ms kept new next weight w before h is p many left fewer all =
    at_most (HoldsQueue new next w) (length kept) before left
    (λ less. held_kept keeps ms kept new next weight w h is p (fewer less).0 (fewer less).1)
    (λ long.
    let same = all long in
    subst (λ (l : List Message). HoldsQueue l next w) (sym same.0)
    (subst (HoldsQueue kept next) (sym same.1) (held_all keeps ms kept next weight h is (long ∙ many))))
