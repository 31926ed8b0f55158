-- What the test of two messages tells, and that it is an order.
use Rattle.std.proofs.Common.{◌≡◌, ◌≤◌, ◌<◌, ◌⊎◌, inl, inr, Bool, true, false, ◌&&◌, ◌||◌, nat_eq, nat_lt, refl, sym, ◌∙◌, arith}
use Rattle.std.proofs.lemmas.Bool.{ltb-true, ltb-false, eqb-true, eqb-false}
use Rattle.std.specs.Cmp.{IsStrictWeakOrder}
use Rattle.world_plain.specs.Messages.{PlainMessage, plain_message}
use Rattle.world_plain.specs.Valid.{Precedes}
use Rattle.world_plain.specs.ValidTest.{is_due_before}
use Rattle.message_queue.specs.Heap.{is_sooner, is_later}

-- ---- what the test tells

precedes-tells : (b c d : Bool) (m n : PlainMessage) → (b ≡ true → m.time < n.time) → (c ≡ true → m.time ≡ n.time) → (d ≡ true → m.number < n.number) → (b || c && d) ≡ true → Precedes m n
precedes-tells true c d m n f g h e = inl (f refl)
precedes-tells false true true m n f g h e = inr (g refl, h refl)
precedes-tells false true false m n f g h e = absurd cc
precedes-tells false false d m n f g h e = absurd cc

pub precedes-true : (m n : PlainMessage) → is_due_before m n ≡ true → Precedes m n
precedes-true m n e = precedes-tells (nat_lt m.time n.time) (nat_eq m.time n.time) (nat_lt m.number n.number) m n (ltb-true m.time n.time) (eqb-true m.time n.time) (ltb-true m.number n.number) e

-- at no higher a time, and at that time of no higher a number
abbrev pub NotAfter : PlainMessage → PlainMessage → Type 0
NotAfter m n = (m.time < n.time) ⊎ ((m.time ≡ n.time) × (m.number ≤ n.number))

follows-tells : (b c d : Bool) (m n : PlainMessage) → (b ≡ false → n.time ≤ m.time) → (c ≡ false → ¬ (m.time ≡ n.time)) → (c ≡ true → m.time ≡ n.time) → (d ≡ false → n.number ≤ m.number) → (b || c && d) ≡ false → NotAfter n m
follows-tells true c d m n f g k h e = absurd cc
follows-tells false true true m n f g k h e = absurd cc
follows-tells false true false m n f g k h e = inr (sym (k refl), h refl)
follows-tells false false d m n f g k h e = let behind : n.time ≤ m.time = f refl in let apart : ¬ (m.time ≡ n.time) = g refl in inl (omega (arith, apart))

pub follows-false : (m n : PlainMessage) → is_due_before m n ≡ false → NotAfter n m
follows-false m n e =
    follows-tells (nat_lt m.time n.time) (nat_eq m.time n.time) (nat_lt m.number n.number) m n (ltb-false m.time n.time) (eqb-false m.time n.time) (eqb-true m.time n.time) (ltb-false m.number n.number) e

pub precedes-false : (m n : PlainMessage) → ¬ (m.number ≡ n.number) → is_due_before m n ≡ false → Precedes n m
precedes-false m n u e = apart (follows-false m n e)
  where
    apart : NotAfter n m → Precedes n m
    apart (inl h) = inl h
    apart (inr h) = inr (h.0, omega (arith, u, h.1))

-- ---- what tells of the test

answer : (b : Bool) (m n : PlainMessage) → is_due_before m n ≡ b → (b ≡ true → ⊥) → is_due_before m n ≡ false
answer true m n e h = absurd (h refl)
answer false m n e h = e

not_both : (m n : PlainMessage) → Precedes m n → NotAfter n m → ⊥
not_both m n (inl h) (inl g) = omega arith
not_both m n (inl h) (inr g) = omega arith
not_both m n (inr h) (inl g) = omega arith
not_both m n (inr h) (inr g) = omega arith

pub not_before : (m n : PlainMessage) → NotAfter n m → is_due_before m n ≡ false
not_before m n h = answer (is_due_before m n) m n refl (λ e. not_both m n (precedes-true m n e) h)

yes : (b : Bool) (m n : PlainMessage) → is_due_before m n ≡ b → (b ≡ false → ⊥) → is_due_before m n ≡ true
yes true m n e h = e
yes false m n e h = absurd (h refl)

pub is_before : (m n : PlainMessage) → Precedes m n → is_due_before m n ≡ true
is_before m n h = yes (is_due_before m n) m n refl (λ e. not_both m n h (follows-false m n e))

-- ---- the order

as_NotAfter : (m n : PlainMessage) → Precedes m n → NotAfter m n
as_NotAfter m n (inl h) = inl h
as_NotAfter m n (inr h) = inr (h.0, omega arith)

pub Precedes-apart : (m n : PlainMessage) → Precedes m n → Precedes n m → ⊥
Precedes-apart m n h g = not_both m n h (as_NotAfter n m g)

pub Precedes-itself : (m : PlainMessage) → Precedes m m → ⊥
Precedes-itself m h = Precedes-apart m m h h

NotAfter-trans : (l m n : PlainMessage) → NotAfter l m → NotAfter m n → NotAfter l n
NotAfter-trans l m n (inl h) (inl g) = inl (omega arith)
NotAfter-trans l m n (inl h) (inr g) = inl (omega arith)
NotAfter-trans l m n (inr h) (inl g) = inl (omega arith)
NotAfter-trans l m n (inr h) (inr g) = inr (h.0 ∙ g.0, omega arith)

pub Precedes-trans : (l m n : PlainMessage) → Precedes l m → Precedes m n → Precedes l n
Precedes-trans l m n (inl h) (inl g) = inl (omega arith)
Precedes-trans l m n (inl h) (inr g) = inl (omega arith)
Precedes-trans l m n (inr h) (inl g) = inl (omega arith)
Precedes-trans l m n (inr h) (inr g) = inr (h.0 ∙ g.0, omega arith)

before_chain : (l m n : PlainMessage) → is_due_before l m ≡ false → is_due_before m n ≡ false → is_due_before l n ≡ false
before_chain l m n h g = not_before l n (NotAfter-trans n m l (follows-false m n g) (follows-false l m h))

one_way : (m n : PlainMessage) → is_due_before m n ≡ true → is_due_before n m ≡ false
one_way m n h = not_before n m (as_NotAfter m n (precedes-true m n h))

pub sooner_order : IsStrictWeakOrder is_sooner
sooner_order = record {
  one_way = λ x y. one_way (plain_message x) (plain_message y);
  chain = λ x y z. before_chain (plain_message x) (plain_message y) (plain_message z);
}

pub later_order : IsStrictWeakOrder is_later
later_order = record {
  one_way = λ x y. one_way (plain_message y) (plain_message x);
  chain = λ x y z h g. before_chain (plain_message z) (plain_message y) (plain_message x) g h;
}
