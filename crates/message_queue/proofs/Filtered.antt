-- Messages fewer: the order, the numbers, counts and weights.
use Rattle.std.proofs.Common.{◌≡◌, ℕ, ◌+◌, ◌≤◌, Bool, true, false, cond, List, [], ◌∷◌, length, refl, ap, arith}
use Rattle.std.specs.List.{filter}
use Rattle.world_plain.specs.World.{total_weight}
use Rattle.world_plain.specs.Messages.{PlainMessage}
use Rattle.world_plain.specs.Valid.{PrecedesAll, AreInOrder, IsUnused, NumbersDiffer}
use Rattle.message_queue.specs.Queue.{QueueRecord, IsQueue, AreLightMessages, NumbersBelow}

either : {A : Type 0} (P : A → Type 0) (b : Bool) (x y : A) → P x → P y → P (cond b x y)
either P true x y h g = h
either P false x y h g = g

-- ---- what is said of all items, or of each and all behind it

-- what is true of no items, of those behind the first, and of the first before fewer
pub filter-all : {A : Type 0} (Q : List A → Type 0) (keeps : A → Bool) → Q [] → ((x : A) (xs : List A) → Q (x ∷ xs) → Q xs)
    → ((x : A) (xs ys : List A) → Q (x ∷ xs) → Q ys → Q (x ∷ ys)) → (xs : List A) → Q xs → Q (filter keeps xs)
filter-all Q keeps none rest more [] h = none
filter-all Q keeps none rest more (x ∷ xs) h =
    let left : Q (filter keeps xs) = filter-all Q keeps none rest more xs (rest x xs h) in
    either Q (keeps x) (x ∷ filter keeps xs) (filter keeps xs) (more x xs (filter keeps xs) h left) left

-- what says R of each item and of all behind it
pub filter-each : {A : Type 0} (R : A → List A → Type 0) (Q : List A → Type 0) (keeps : A → Bool) → Q [] → ((x : A) (xs : List A) → Q (x ∷ xs) → R x xs × Q xs)
    → ((x : A) (xs : List A) → R x xs → Q xs → Q (x ∷ xs)) → ((x : A) (xs : List A) → R x xs → R x (filter keeps xs)) → (xs : List A) → Q xs → Q (filter keeps xs)
filter-each R Q keeps none parts whole fewer [] h = none
filter-each R Q keeps none parts whole fewer (x ∷ xs) h =
    let both : R x xs × Q xs = parts x xs h in
    let left : Q (filter keeps xs) = filter-each R Q keeps none parts whole fewer xs both.1 in
    either Q (keeps x) (x ∷ filter keeps xs) (filter keeps xs) (whole x (filter keeps xs) (fewer x xs both.0) left) left

-- ---- the order and the numbers

pub PrecedesAll-filtered : (keeps : PlainMessage → Bool) (m : PlainMessage) (ms : List PlainMessage) → PrecedesAll m ms → PrecedesAll m (filter keeps ms)
PrecedesAll-filtered keeps m = filter-all (PrecedesAll m) keeps tt (λ n ns h. h.1) (λ n ns os h g. (h.0, g))

pub AreInOrder-filtered : (keeps : PlainMessage → Bool) (ms : List PlainMessage) → AreInOrder ms → AreInOrder (filter keeps ms)
AreInOrder-filtered keeps =
    filter-each PrecedesAll AreInOrder keeps tt (λ m ms h. (h.0, h.1)) (λ m ms h g. (h, g)) (PrecedesAll-filtered keeps)

pub IsUnused-filtered : (keeps : PlainMessage → Bool) (number : ℕ) (ms : List PlainMessage) → IsUnused number ms → IsUnused number (filter keeps ms)
IsUnused-filtered keeps number = filter-all (IsUnused number) keeps tt (λ n ns h. h.1) (λ n ns os h g. (h.0, g))

pub NumbersDiffer-filtered : (keeps : PlainMessage → Bool) (ms : List PlainMessage) → NumbersDiffer ms → NumbersDiffer (filter keeps ms)
NumbersDiffer-filtered keeps =
    filter-each (λ m ms. IsUnused m.number ms) NumbersDiffer keeps tt (λ m ms h. (h.0, h.1)) (λ m ms h g. (h, g)) (λ m. IsUnused-filtered keeps m.number)

pub NumbersBelow-filtered : (keeps : PlainMessage → Bool) (next : ℕ) (ms : List PlainMessage) → NumbersBelow next ms → NumbersBelow next (filter keeps ms)
NumbersBelow-filtered keeps next = filter-all (NumbersBelow next) keeps tt (λ m ms h. h.1) (λ m ms ns h g. (h.0, g))

-- ---- counts and weights

pub AllLight-filtered : (keeps : PlainMessage → Bool) (ms : List PlainMessage) → AreLightMessages ms → AreLightMessages (filter keeps ms)
AllLight-filtered keeps = filter-all AreLightMessages keeps tt (λ m ms h. h.1) (λ m ms ns h g. (h.0, g))

pub total-filtered : {A : Type 0} (weighs : A → ℕ) (keeps : A → Bool) (xs : List A) → total_weight weighs (filter keeps xs) ≤ total_weight weighs xs
total-filtered weighs keeps [] = omega arith
total-filtered weighs keeps (x ∷ xs) =
    let fewer : total_weight weighs (filter keeps xs) ≤ total_weight weighs xs = total-filtered weighs keeps xs in
    either (λ l. total_weight weighs l ≤ weighs x + total_weight weighs xs) (keeps x) (x ∷ filter keeps xs) (filter keeps xs) (omega arith) (omega arith)

pub length-filtered : {A : Type 0} (keeps : A → Bool) (xs : List A) → length (filter keeps xs) ≤ length xs
length-filtered keeps [] = omega arith
length-filtered keeps (x ∷ xs) =
    let fewer : length (filter keeps xs) ≤ length xs = length-filtered keeps xs in
    either (λ l. length l ≤ length (x ∷ xs)) (keeps x) (x ∷ filter keeps xs) (filter keeps xs) (omega arith) (omega arith)

-- where as many are left, none is gone
pub none_gone : {A : Type 0} (keeps : A → Bool) (xs : List A) → length (filter keeps xs) ≡ length xs → filter keeps xs ≡ xs
none_gone keeps [] long = refl
none_gone keeps (x ∷ xs) long =
    either (λ l. length l ≡ length (x ∷ xs) → l ≡ x ∷ xs) (keeps x) (x ∷ filter keeps xs) (filter keeps xs) (λ e. ap (λ l. x ∷ l) (none_gone keeps xs (omega (arith, e))))
    (λ e. absurd (omega (arith, e, length-filtered keeps xs))) long

-- ---- queues

pub IsQueue-filtered : (keeps : PlainMessage → Bool) (q : QueueRecord) → IsQueue q → IsQueue (record q { messages = filter keeps q.messages })
IsQueue-filtered keeps q h = record {
  order = AreInOrder-filtered keeps q.messages h.order;
  differ = NumbersDiffer-filtered keeps q.messages h.differ;
  next = NumbersBelow-filtered keeps q.next q.messages h.next;
  light = AllLight-filtered keeps q.messages h.light;
  few = omega (arith, length-filtered keeps q.messages, h.few);
}
