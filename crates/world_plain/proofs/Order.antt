-- The orders of pending messages and of known names are transitive.
use Rattle.std.proofs.Common.{ℕ, inl, inr, List, [], ◌∷◌, ◌∙◌, arith}
use Rattle.tea_base.specs.Order.{IsBefore}
use Rattle.tea_base.proofs.Order.{IsBefore-trans}
use Rattle.world_plain.specs.Messages.{PlainMessage}
use Rattle.world_plain.specs.Valid.{IsBeforeAll, Precedes, PrecedesAll, AreInOrder}
use Rattle.world_plain.specs.declared.world.Known.{Known}

pub Precedes-trans : (m n p : PlainMessage) → Precedes m n → Precedes n p → Precedes m p
Precedes-trans m n p (inl a) (inl b) = inl (omega arith)
Precedes-trans m n p (inl a) (inr b) = let same = b.0 in inl (omega arith)
Precedes-trans m n p (inr a) (inl b) = let same = a.0 in inl (omega arith)
Precedes-trans m n p (inr a) (inr b) = let first = a.1 in let second = b.1 in inr (a.0 ∙ b.0, omega arith)

pub PrecedesAll-trans : (m n : PlainMessage) (ns : List PlainMessage) → Precedes m n → PrecedesAll n ns → PrecedesAll m ns
PrecedesAll-trans m n [] before all = tt
PrecedesAll-trans m n (p ∷ ps) before all = (Precedes-trans m n p before all.0, PrecedesAll-trans m n ps before all.1)

-- a message before the first of messages in order is before them all
pub AreInOrder-before : (m n : PlainMessage) (ns : List PlainMessage) → Precedes m n → AreInOrder (n ∷ ns) → PrecedesAll m (n ∷ ns)
AreInOrder-before m n ns before order = (before, PrecedesAll-trans m n ns before order.0)

-- and with it they are in order
pub AreInOrder-cons : (m n : PlainMessage) (ns : List PlainMessage) → Precedes m n → AreInOrder (n ∷ ns) → AreInOrder (m ∷ n ∷ ns)
AreInOrder-cons m n ns before order = (AreInOrder-before m n ns before order, order)

pub IsBeforeAll-trans : (x y : List ℕ) (ks : List Known) → IsBefore x y → IsBeforeAll y ks → IsBeforeAll x ks
IsBeforeAll-trans x y [] h g = tt
IsBeforeAll-trans x y (k ∷ ks) h g = (IsBefore-trans x y k.name h g.0, IsBeforeAll-trans x y ks h g.1)
