-- Messages in their order: what does not depend on where they stood before.
use Rattle.std.proofs.Common.{◌≡◌, ℕ, suc, ◌+◌, ◌≤◌, ◌<◌, ◌⊎◌, inl, inr, Bool, true, false, cond, List, [], ◌∷◌, length, get_or, nat_eq, refl, sym, ap, subst, ◌∙◌, arith, if◌then◌else◌}
use Rattle.std.specs.List.{AllByRecursion, filter, count_by}
use Rattle.std.specs.List.Sorted.{IsPermutation, IsSortedBy}
use Rattle.std.proofs.lemmas.Bool.{eqb-true, eq-eqb}
use Rattle.std.proofs.lemmas.List.Elements.{All-from_recursion, recursion_from_All}
use Rattle.std.proofs.lemmas.List.Sums.{sum_by-cons}
use Rattle.std.proofs.lemmas.List.Sorted.{IsPermutation-refl, IsPermutation-sym, IsPermutation-cons, IsPermutation-trans, IsPermutation-middle, All-permutation, sum_by-IsPermutation, sorted_far}
use Rattle.world_plain.specs.Messages.{PlainMessage, plain_message}
use Rattle.world_plain.specs.World.{total_weight}
use Rattle.world_plain.specs.Valid.{Precedes, PrecedesAll, AreInOrder, IsUnused, NumbersDiffer}
use Rattle.world_plain.specs.ValidTest.{is_due_before}
use Rattle.world_plain.specs.declared.message.Message.{Message}
use Rattle.message_queue.specs.Heap.{is_sooner}
use Rattle.message_queue.specs.Queue.{insert_in_order}
use Rattle.message_queue.specs.View.{in_order, messages_seen}
use Rattle.message_queue.proofs.Before.{precedes-true, precedes-false, is_before, sooner_order, Precedes-apart, Precedes-itself}
use Rattle.message_queue.proofs.Filtered.{PrecedesAll-filtered}
use Rattle.message_queue.proofs.Order.{if_either, PrecedesAll-first, PrecedesAll-inserted, AreInOrder-inserted, IsUnused-inserted, length-inserted, total-inserted}

-- ---- what stands in a list

abbrev IsIn : PlainMessage → List PlainMessage → Type 0
IsIn x [] = ⊥
IsIn x (y ∷ ys) = (x ≡ y) ⊎ IsIn x ys

abbrev AreIn : List PlainMessage → List PlainMessage → Type 0
AreIn xs ys = AllByRecursion (λ x. IsIn x ys) xs

AreIn-more : (y : PlainMessage) (xs ys : List PlainMessage) → AreIn xs ys → AreIn xs (y ∷ ys)
AreIn-more y [] ys h = tt
AreIn-more y (x ∷ xs) ys h = (inr h.0, AreIn-more y xs ys h.1)

AreIn-itself : (xs : List PlainMessage) → AreIn xs xs
AreIn-itself [] = tt
AreIn-itself (x ∷ xs) = (inl refl, AreIn-more x xs xs (AreIn-itself xs))

AreIn-permuted : (xs ys : List PlainMessage) → IsPermutation xs ys → AreIn ys xs
AreIn-permuted xs ys p =
    let P = λ (x : PlainMessage). IsIn x xs in recursion_from_All P ys (All-permutation P xs ys p (All-from_recursion P xs (AreIn-itself xs)))

-- ---- lists in order that hold the same are the same

follows : (x y : PlainMessage) (ys : List PlainMessage) → PrecedesAll y ys → IsIn x ys → Precedes y x
follows x y [] h g = absurd g
follows x y (z ∷ zs) h (inl e) = subst (Precedes y) (sym e) h.0
follows x y (z ∷ zs) h (inr g) = follows x y zs h.1 g

first_same : (x y : PlainMessage) (xs ys : List PlainMessage) → PrecedesAll x xs → PrecedesAll y ys → IsIn x (y ∷ ys) → IsIn y (x ∷ xs) → x ≡ y
first_same x y xs ys h g (inl e) b = e
first_same x y xs ys h g (inr a) (inl e) = sym e
first_same x y xs ys h g (inr a) (inr b) = absurd (Precedes-apart y x (follows x y ys g a) (follows y x xs h b))

not_first : (x y : PlainMessage) (ys : List PlainMessage) → Precedes y x → IsIn x (y ∷ ys) → IsIn x ys
not_first x y ys h (inl e) = absurd (Precedes-itself y (subst (Precedes y) e h))
not_first x y ys h (inr g) = g

AreIn-rest : (y : PlainMessage) (xs ys : List PlainMessage) → PrecedesAll y xs → AreIn xs (y ∷ ys) → AreIn xs ys
AreIn-rest y [] ys h g = tt
AreIn-rest y (x ∷ xs) ys h g = (not_first x y ys h.0 g.0, AreIn-rest y xs ys h.1 g.1)

same : (xs ys : List PlainMessage) → AreInOrder xs → AreInOrder ys → AreIn xs ys → AreIn ys xs → xs ≡ ys
same [] [] h g a b = refl
same [] (y ∷ ys) h g a b = absurd b.0
same (x ∷ xs) [] h g a b = absurd a.0
same (x ∷ xs) (y ∷ ys) h g a b =
    let e : x ≡ y = first_same x y xs ys h.0 g.0 a.0 b.0 in
    let rest : xs ≡ ys = same xs ys h.1 g.1 (AreIn-rest y xs ys (subst (λ z. PrecedesAll z xs) e h.0) a.1) (AreIn-rest x ys xs (subst (λ z. PrecedesAll z ys) (sym e) g.0) b.1) in
    λ i. e i ∷ rest i

-- ---- numbers that differ, wherever they stand

abbrev has_number : ℕ → PlainMessage → Bool
has_number k m = nat_eq m.number k

abbrev one_if : Bool → ℕ
one_if b = cond b 1 0

-- no number stands twice
abbrev NoneTwice : List PlainMessage → Type 0
NoneTwice ms = (k : ℕ) → count_by (has_number k) ms ≤ 1

count-cons : (k : ℕ) (m : PlainMessage) (ms : List PlainMessage) → count_by (has_number k) (m ∷ ms) ≡ one_if (has_number k m) + count_by (has_number k) ms
count-cons k m ms = sum_by-cons (λ n. cond (has_number k n) 1 0) m ms

at_most_one : (b : Bool) → one_if b ≤ 1
at_most_one true = omega arith
at_most_one false = omega arith

other_number : (k : ℕ) (m : PlainMessage) (b : Bool) → has_number k m ≡ b → ¬ (k ≡ m.number) → one_if (has_number k m) ≡ 0
other_number k m true e h = absurd (h (sym (eqb-true m.number k e)))
other_number k m false e h = ap one_if e

none_unused : (k : ℕ) (ms : List PlainMessage) → IsUnused k ms → count_by (has_number k) ms ≡ 0
none_unused k [] h = refl
none_unused k (m ∷ ms) h = omega (arith, count-cons k m ms, none_unused k ms h.1, other_number k m (has_number k m) refl h.0)

twice_not : (k : ℕ) (m : PlainMessage) (ms : List PlainMessage) (b : Bool) → has_number k m ≡ b → IsUnused m.number ms → count_by (has_number k) ms ≤ 1 → count_by (has_number k) (m ∷ ms) ≤ 1
twice_not k m ms true e h g =
    let none : count_by (has_number k) ms ≡ 0 = subst (λ n. count_by (has_number n) ms ≡ 0) (eqb-true m.number k e) (none_unused m.number ms h) in
    omega (arith, count-cons k m ms, none, at_most_one (has_number k m))
twice_not k m ms false e h g =
    let not_this : one_if (has_number k m) ≡ 0 = ap one_if e in
    omega (arith, count-cons k m ms, g, not_this)

NoneTwice-from : (ms : List PlainMessage) → NumbersDiffer ms → NoneTwice ms
NoneTwice-from [] h k = omega arith
NoneTwice-from (m ∷ ms) h k = twice_not k m ms (has_number k m) refl h.0 (NoneTwice-from ms h.1 k)

unused_none : (k : ℕ) (ms : List PlainMessage) → count_by (has_number k) ms ≤ 0 → IsUnused k ms
unused_none k [] h = tt
unused_none k (m ∷ ms) h = (
  λ e. let one : one_if (has_number k m) ≡ 1 = ap one_if (eq-eqb m.number k (sym e)) in absurd (omega (arith, count-cons k m ms, h, one)),
  unused_none k ms (omega (arith, count-cons k m ms, h)),
)

differ_from : (ms : List PlainMessage) → NoneTwice ms → NumbersDiffer ms
differ_from [] h = tt
differ_from (m ∷ ms) h =
    let one : one_if (has_number m.number m) ≡ 1 = ap one_if (eq-eqb m.number m.number refl) in (
      unused_none m.number ms (omega (arith, count-cons m.number m ms, h m.number, one)),
      differ_from ms (λ k. omega (arith, count-cons k m ms, h k)),
    )

pub NumbersDiffer-permuted : (xs ys : List PlainMessage) → IsPermutation xs ys → NumbersDiffer xs → NumbersDiffer ys
NumbersDiffer-permuted xs ys p h =
    differ_from ys (λ k. omega (arith, sum_by-IsPermutation (λ m. one_if (has_number k m)) xs ys p, NoneTwice-from xs h k))

-- ---- in order

-- a message before all others is put first
pub inserted_first : (m : PlainMessage) (ns : List PlainMessage) → PrecedesAll m ns → insert_in_order m ns ≡ m ∷ ns
inserted_first m [] h = refl
inserted_first m (n ∷ ns) h = ap (λ (b : Bool). if b then m ∷ n ∷ ns else n ∷ insert_in_order m ns) (is_before m n h.0)

permuted_inserted : (m : PlainMessage) (ns : List PlainMessage) → IsPermutation (m ∷ ns) (insert_in_order m ns)
permuted_inserted m [] = IsPermutation-refl (m ∷ [])
permuted_inserted m (n ∷ ns) =
    if_either (IsPermutation (m ∷ n ∷ ns)) (is_due_before m n) (m ∷ n ∷ ns) (n ∷ insert_in_order m ns) (λ _. IsPermutation-refl (m ∷ n ∷ ns))
    (λ _. IsPermutation-trans (m ∷ n ∷ ns) (n ∷ m ∷ ns) (n ∷ insert_in_order m ns) (IsPermutation-sym (n ∷ m ∷ ns) (m ∷ n ∷ ns) (IsPermutation-middle (n ∷ []) m ns)) (IsPermutation-cons n (m ∷ ns) (insert_in_order m ns) (permuted_inserted m ns)))

pub permuted_in_order : (ms : List PlainMessage) → IsPermutation ms (in_order ms)
permuted_in_order [] = IsPermutation-refl []
permuted_in_order (m ∷ ms) =
    IsPermutation-trans (m ∷ ms) (m ∷ in_order ms) (insert_in_order m (in_order ms)) (IsPermutation-cons m ms (in_order ms) (permuted_in_order ms)) (permuted_inserted m (in_order ms))

pub length-in_order : (ms : List PlainMessage) → length (in_order ms) ≡ length ms
length-in_order [] = refl
length-in_order (m ∷ ms) = omega (arith, length-inserted m (in_order ms), length-in_order ms)

pub total-in_order : (weighs : PlainMessage → ℕ) (ms : List PlainMessage) → total_weight weighs (in_order ms) ≡ total_weight weighs ms
total-in_order weighs [] = refl
total-in_order weighs (m ∷ ms) = omega (arith, total-inserted weighs m (in_order ms), total-in_order weighs ms)

unused_in_order : (k : ℕ) (ms : List PlainMessage) → IsUnused k ms → IsUnused k (in_order ms)
unused_in_order k [] h = tt
unused_in_order k (m ∷ ms) h = IsUnused-inserted k m (in_order ms) h.0 (unused_in_order k ms h.1)

pub PrecedesAll-in_order : (m : PlainMessage) (ms : List PlainMessage) → PrecedesAll m ms → PrecedesAll m (in_order ms)
PrecedesAll-in_order m [] h = tt
PrecedesAll-in_order m (n ∷ ns) h = PrecedesAll-inserted m n (in_order ns) h.0 (PrecedesAll-in_order m ns h.1)

pub AreInOrder-in_order : (ms : List PlainMessage) → NumbersDiffer ms → AreInOrder (in_order ms)
AreInOrder-in_order [] h = tt
AreInOrder-in_order (m ∷ ms) h = AreInOrder-inserted m (in_order ms) (unused_in_order m.number ms h.0) (AreInOrder-in_order ms h.1)

-- messages that were in order stay as they are
pub in_order_already : (ms : List PlainMessage) → AreInOrder ms → in_order ms ≡ ms
in_order_already [] h = refl
in_order_already (m ∷ ms) h = ap (insert_in_order m) (in_order_already ms h.1) ∙ inserted_first m ms h.0

-- where messages stood before does not matter
pub in_order_permuted : (xs ys : List PlainMessage) → IsPermutation xs ys → NumbersDiffer xs → in_order ys ≡ in_order xs
in_order_permuted xs ys p h =
    let x = permuted_in_order xs in
    let y = permuted_in_order ys in
    let all : IsPermutation (in_order xs) (in_order ys) = IsPermutation-trans (in_order xs) xs (in_order ys) (IsPermutation-sym xs (in_order xs) x) (IsPermutation-trans xs ys (in_order ys) p y) in
    same (in_order ys) (in_order xs) (AreInOrder-in_order ys (NumbersDiffer-permuted xs ys p h)) (AreInOrder-in_order xs h) (AreIn-permuted (in_order xs) (in_order ys) all) (AreIn-permuted (in_order ys) (in_order xs) (IsPermutation-sym (in_order xs) (in_order ys) all))

-- numbers that differ in order did so before
pub differ_before : (ms : List PlainMessage) → NumbersDiffer (in_order ms) → NumbersDiffer ms
differ_before ms = NumbersDiffer-permuted (in_order ms) ms (IsPermutation-sym ms (in_order ms) (permuted_in_order ms))

pub unused_before : (k : ℕ) (ms : List PlainMessage) → IsUnused k (in_order ms) → IsUnused k ms
unused_before k ms h =
    let P = λ (m : PlainMessage). ¬ (k ≡ m.number) in
    recursion_from_All P ms (All-permutation P (in_order ms) ms (IsPermutation-sym ms (in_order ms) (permuted_in_order ms)) (All-from_recursion P (in_order ms) h))

-- ---- messages fewer

kept_before : (keeps : PlainMessage → Bool) (b : Bool) (m : PlainMessage) (ns : List PlainMessage) → PrecedesAll m ns → cond b (m ∷ filter keeps ns) (filter keeps ns) ≡ cond b (insert_in_order m (filter keeps ns)) (filter keeps ns)
kept_before keeps true m ns h = sym (inserted_first m (filter keeps ns) (PrecedesAll-filtered keeps m ns h))
kept_before keeps false m ns h = refl

kept_behind : (b c : Bool) (m n : PlainMessage) (ns os : List PlainMessage) → is_due_before m n ≡ false → os ≡ cond b (insert_in_order m ns) ns
    → cond c (n ∷ os) os ≡ cond b (insert_in_order m (cond c (n ∷ ns) ns)) (cond c (n ∷ ns) ns)
kept_behind true true m n ns os late e = ap (λ l. n ∷ l) e ∙ sym (ap (λ (b : Bool). if b then m ∷ n ∷ ns else n ∷ insert_in_order m ns) late)
kept_behind true false m n ns os late e = e
kept_behind false true m n ns os late e = ap (λ l. n ∷ l) e
kept_behind false false m n ns os late e = e

kept-inserted : (keeps : PlainMessage → Bool) (m : PlainMessage) (ns : List PlainMessage) → AreInOrder ns
    → filter keeps (insert_in_order m ns) ≡ cond (keeps m) (insert_in_order m (filter keeps ns)) (filter keeps ns)
kept-inserted keeps m [] h = refl
kept-inserted keeps m (n ∷ ns) h =
    let kept = filter keeps (n ∷ ns) in
    if_either (λ l. filter keeps l ≡ cond (keeps m) (insert_in_order m kept) kept) (is_due_before m n) (m ∷ n ∷ ns) (n ∷ insert_in_order m ns)
    (λ e. kept_before keeps (keeps m) m (n ∷ ns) (PrecedesAll-first m n ns (precedes-true m n e) h.0))
    (λ e. kept_behind (keeps m) (keeps n) m n (filter keeps ns) (filter keeps (insert_in_order m ns)) e (kept-inserted keeps m ns h.1))

kept_choice : (b : Bool) (m : PlainMessage) (ms : List PlainMessage) → cond b (insert_in_order m (in_order ms)) (in_order ms) ≡ in_order (cond b (m ∷ ms) ms)
kept_choice true m ms = refl
kept_choice false m ms = refl

pub kept_in_order : (keeps : PlainMessage → Bool) (ms : List PlainMessage) → NumbersDiffer ms → filter keeps (in_order ms) ≡ in_order (filter keeps ms)
kept_in_order keeps [] h = refl
kept_in_order keeps (m ∷ ms) h =
    kept-inserted keeps m (in_order ms) (AreInOrder-in_order ms h.1)
    ∙ ap (λ l. cond (keeps m) (insert_in_order m l) l) (kept_in_order keeps ms h.1)
    ∙ kept_choice (keeps m) m (filter keeps ms)

-- ---- sorted

pub AreInOrder-sorted : (ms : List Message) → IsSortedBy is_sooner ms → NumbersDiffer (messages_seen ms) → AreInOrder (messages_seen ms)
AreInOrder-sorted ms up = by_places ms (sorted_far is_sooner sooner_order ms up)
  where
    by_place : (m : Message) (ns : List Message) → ((k : ℕ) (d : Message) → k < length ns → is_sooner (get_or ns k d) m ≡ false) → IsUnused m.number (messages_seen ns) → PrecedesAll (plain_message m) (messages_seen ns)
    by_place m [] h u = tt
    by_place m (n ∷ ns) h u = (precedes-false (plain_message n) (plain_message m) (λ e. u.0 (sym e)) (h 0 n (omega arith)), by_place m ns (λ k d inside. h (suc k) d (omega arith)) u.1)

    by_places : (ms : List Message) → ((i j : ℕ) (d : Message) → i ≤ j → j < length ms → is_sooner (get_or ms j d) (get_or ms i d) ≡ false) → NumbersDiffer (messages_seen ms) → AreInOrder (messages_seen ms)
    by_places [] h u = tt
    by_places (m ∷ ms) h u = (by_place m ms (λ k d inside. h 0 (suc k) d (omega arith) (omega arith)) u.0, by_places ms (λ i j d up inside. h (suc i) (suc j) d (omega arith) (omega arith)) u.1)
