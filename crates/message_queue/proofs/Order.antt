-- A message more, in its place: the order, the numbers, counts and weights.
use Rattle.std.proofs.Common.{◌≡◌, ℕ, ◌+◌, ◌*◌, ◌≤◌, ◌<◌, Bool, true, false, List, [], ◌∷◌, length, refl, sym, arith, if◌then◌else◌}
use Rattle.model_value.specs.Plain.{PlainValue}
use Rattle.model_value.specs.Plain.{values_weight}
use Rattle.world_plain.specs.World.{total_weight}
use Rattle.world_plain.specs.Messages.{PlainMessage}
use Rattle.model_value.specs.Plain.{AllInBounds, TextFits}
use Rattle.world_plain.specs.Valid.{Precedes, PrecedesAll, AreInOrder, IsUnused, NumbersDiffer, most_arguments, most_messages}
use Rattle.message_queue.specs.Queue.{QueueRecord, IsQueue, insert_in_order, IsLightMessage, AreLightMessages, NumbersBelow}
use Rattle.world_plain.specs.ValidTest.{is_due_before}
use Rattle.message_queue.proofs.Before.{precedes-true, precedes-false, Precedes-trans}

-- what holds in each branch, by its test, holds of a test
pub if_either : {A : Type 0} (P : A → Type 0) (b : Bool) (x y : A) → (b ≡ true → P x) → (b ≡ false → P y) → P (if b then x else y)
if_either P true x y h g = h refl
if_either P false x y h g = g refl

-- what is true of a message before such as it is true of, of those behind the first, and of the first before others
pub inserted-all : (Q : List PlainMessage → Type 0) (m : PlainMessage) → ((ns : List PlainMessage) → Q ns → Q (m ∷ ns))
    → ((n : PlainMessage) (ns : List PlainMessage) → Q (n ∷ ns) → Q ns)
    → ((n : PlainMessage) (ns os : List PlainMessage) → Q (n ∷ ns) → Q os → Q (n ∷ os)) → (ns : List PlainMessage) → Q ns → Q (insert_in_order m ns)
inserted-all Q m first rest more [] h = first [] h
inserted-all Q m first rest more (n ∷ ns) h =
    if_either Q (is_due_before m n) (m ∷ n ∷ ns) (n ∷ insert_in_order m ns) (λ _. first (n ∷ ns) h)
    (λ _. more n ns (insert_in_order m ns) h (inserted-all Q m first rest more ns (rest n ns h)))

-- ---- the order

PrecedesAll-trans : (l m : PlainMessage) (ns : List PlainMessage) → Precedes l m → PrecedesAll m ns → PrecedesAll l ns
PrecedesAll-trans l m [] h g = tt
PrecedesAll-trans l m (n ∷ ns) h g = (Precedes-trans l m n h g.0, PrecedesAll-trans l m ns h g.1)

-- a message before the first of messages in order is before each
pub PrecedesAll-first : (m n : PlainMessage) (ns : List PlainMessage) → Precedes m n → PrecedesAll n ns → PrecedesAll m (n ∷ ns)
PrecedesAll-first m n ns h g = (h, PrecedesAll-trans m n ns h g)

pub PrecedesAll-inserted : (l m : PlainMessage) (ns : List PlainMessage) → Precedes l m → PrecedesAll l ns → PrecedesAll l (insert_in_order m ns)
PrecedesAll-inserted l m ns h = inserted-all (PrecedesAll l) m (λ ns g. (h, g)) (λ n ns g. g.1) (λ n ns os g f. (g.0, f)) ns

pub AreInOrder-inserted : (m : PlainMessage) (ns : List PlainMessage) → IsUnused m.number ns → AreInOrder ns → AreInOrder (insert_in_order m ns)
AreInOrder-inserted m [] u h = (tt, tt)
AreInOrder-inserted m (n ∷ ns) u h =
    if_either AreInOrder (is_due_before m n) (m ∷ n ∷ ns) (n ∷ insert_in_order m ns)
    (λ e. (PrecedesAll-first m n ns (precedes-true m n e) h.0, h))
    (λ e. (PrecedesAll-inserted n m ns (precedes-false m n u.0 e) h.0, AreInOrder-inserted m ns u.1 h.1))

-- ---- the numbers

pub IsUnused-inserted : (k : ℕ) (m : PlainMessage) (ns : List PlainMessage) → ¬ (k ≡ m.number) → IsUnused k ns → IsUnused k (insert_in_order m ns)
IsUnused-inserted k m ns h = inserted-all (IsUnused k) m (λ ns g. (h, g)) (λ n ns g. g.1) (λ n ns os g f. (g.0, f)) ns

pub NumbersDiffer-inserted : (m : PlainMessage) (ns : List PlainMessage) → IsUnused m.number ns → NumbersDiffer ns → NumbersDiffer (insert_in_order m ns)
NumbersDiffer-inserted m [] u h = (tt, tt)
NumbersDiffer-inserted m (n ∷ ns) u h =
    if_either NumbersDiffer (is_due_before m n) (m ∷ n ∷ ns) (n ∷ insert_in_order m ns) (λ _. (u, h)) (λ _. (IsUnused-inserted n.number m ns (λ e. u.0 (sym e)) h.0, NumbersDiffer-inserted m ns u.1 h.1))

pub NumbersBelow-inserted : (next : ℕ) (m : PlainMessage) (ns : List PlainMessage) → m.number < next → NumbersBelow next ns → NumbersBelow next (insert_in_order m ns)
NumbersBelow-inserted next m ns h = inserted-all (NumbersBelow next) m (λ ns g. (h, g)) (λ n ns g. g.1) (λ n ns os g f. (g.0, f)) ns

pub NumbersBelow-later : (next more : ℕ) (ms : List PlainMessage) → NumbersBelow next ms → next ≤ more → NumbersBelow more ms
NumbersBelow-later next more [] h e = tt
NumbersBelow-later next more (m ∷ ms) h e = (omega (arith, h.0), NumbersBelow-later next more ms h.1 e)

-- the next number is of no message
pub next-unused : (next : ℕ) (ms : List PlainMessage) → NumbersBelow next ms → IsUnused next ms
next-unused next [] h = tt
next-unused next (m ∷ ms) h = ((λ e. absurd (omega (arith, h.0, e))), next-unused next ms h.1)

-- ---- counts and weights

pub length-inserted : (m : PlainMessage) (ns : List PlainMessage) → length (insert_in_order m ns) ≡ length ns + 1
length-inserted m [] = refl
length-inserted m (n ∷ ns) =
    if_either (λ l. length l ≡ length (n ∷ ns) + 1) (is_due_before m n) (m ∷ n ∷ ns) (n ∷ insert_in_order m ns) (λ _. omega arith) (λ _. omega (arith, length-inserted m ns))

pub total-inserted : (weighs : PlainMessage → ℕ) (m : PlainMessage) (ns : List PlainMessage) → total_weight weighs (insert_in_order m ns) ≡ weighs m + total_weight weighs ns
total-inserted weighs m [] = refl
total-inserted weighs m (n ∷ ns) =
    if_either (λ l. total_weight weighs l ≡ weighs m + total_weight weighs (n ∷ ns)) (is_due_before m n) (m ∷ n ∷ ns) (n ∷ insert_in_order m ns) (λ _. refl) (λ _. omega (arith, total-inserted weighs m ns))

pub AllLight-inserted : (m : PlainMessage) (ns : List PlainMessage) → IsLightMessage m → AreLightMessages ns → AreLightMessages (insert_in_order m ns)
AllLight-inserted m ns h = inserted-all AreLightMessages m (λ ns g. (h, g)) (λ n ns g. g.1) (λ n ns os g f. (g.0, f)) ns

values_bound : (vs : List PlainValue) → AllInBounds vs → values_weight vs ≤ length vs * 4096
values_bound [] h = omega arith
values_bound (v ∷ vs) h = omega (arith, h.0.0, values_bound vs h.1)

-- a name that fits, and as many arguments as a method may have, each in bounds, weigh no more than a world may
pub IsLight-fits : (m : PlainMessage) → TextFits m.method → length m.args ≤ most_arguments → AllInBounds m.args → IsLightMessage m
IsLight-fits m name few bounds = omega (arith, name, few, values_bound m.args bounds)

-- ---- queues

-- a message more of a number that no other has, below the next one from then on
pub IsQueue-inserted : (m : PlainMessage) (q : QueueRecord) (next : ℕ) → IsQueue q → IsUnused m.number q.messages → m.number < next → q.next ≤ next
    → length q.messages < most_messages → IsLightMessage m → IsQueue (record { messages = insert_in_order m q.messages; next = next })
IsQueue-inserted m q next h unused below later few light = record {
  order = AreInOrder-inserted m q.messages unused h.order;
  differ = NumbersDiffer-inserted m q.messages unused h.differ;
  next = NumbersBelow-inserted next m q.messages below (NumbersBelow-later q.next next q.messages h.next later);
  light = AllLight-inserted m q.messages light h.light;
  few = omega (arith, few, length-inserted m q.messages);
}
