-- Neighbours tell whether names and messages are in order, since both orders are transitive.
use Rattle.std.proofs.Common.{◌≡◌, ℕ, ◌+◌, ◌-◌, ◌<◌, ◌≤◌, List, [], ◌∷◌, length, get_or, drop, map, sym, ap, ap₂, ◌∙◌, subst, arith}
use Rattle.std.specs.Prelude.{◌↔◌}
use Rattle.std.proofs.lemmas.List.{drop_more, length-drop}
use Rattle.world_plain.specs.Messages.{plain_message}
use Rattle.tea_base.specs.Order.{IsBefore}
use Rattle.world_plain.specs.Valid.{KnownRise, Precedes, AreInOrder}
use Rattle.world_plain.specs.declared.message.Message.{Message}
use Rattle.world_plain.specs.declared.world.Known.{Known}
use Rattle.world_plain.proofs.Order.{IsBeforeAll-trans, AreInOrder-cons}

-- ---- neighbours

-- the two items round a place, and what is behind them
pair_at : {A : Type 0} (xs : List A) (i : ℕ) (a b : A) → 0 < i → i < length xs → a ≡ get_or xs (i - 1) a → b ≡ get_or xs i b → drop (i - 1) xs ≡ a ∷ b ∷ drop (i + 1) xs
pair_at xs i a b positive h first second =
    let next : i - 1 + 1 ≡ i = omega arith in
    drop_more xs (i - 1) a (omega arith) ∙ ap₂ (λ x rest. x ∷ rest) (sym first) (ap (λ n. drop n xs) next ∙ drop_more xs i b h ∙ ap (λ x. x ∷ drop (i + 1) xs) (sym second))

-- what holds of a list where R holds of the first two items, and it holds of the rest
module _ {A : Type 0} (P : List A → Type 0) (R : A → A → Type 0) (parts : (a b : A) (xs : List A) → P (a ∷ b ∷ xs) → R a b × P (b ∷ xs)) (whole : (a b : A) (xs : List A) → R a b → P (b ∷ xs) → P (a ∷ b ∷ xs)) where
  pub goes_on : (xs : List A) (i : ℕ) (a b : A) → 0 < i → i < length xs → a ≡ get_or xs (i - 1) a → b ≡ get_or xs i b → R a b → (P xs ↔ P (drop (i - 1) xs)) → (P xs ↔ P (drop (i + 1 - 1) xs))
  goes_on xs i a b positive h first second holds so_far =
      let pair = pair_at xs i a b positive h first second in
      let back : i + 1 - 1 ≡ i = omega arith in
      let rest : drop (i + 1 - 1) xs ≡ b ∷ drop (i + 1) xs = ap (λ n. drop n xs) back ∙ drop_more xs i b h ∙ ap (λ x. x ∷ drop (i + 1) xs) (sym second) in (
        λ all. subst P (sym rest) (parts a b (drop (i + 1) xs) (subst P pair (so_far.0 all))).1,
        λ left. so_far.1 (subst P (sym pair) (whole a b (drop (i + 1) xs) holds (subst P rest left))),
      )

  -- in a list of at most one item it is what it is of the end
  pub ended : (xs : List A) (i : ℕ) → ((a : A) → P (a ∷ [])) → P [] → 0 < i → length xs ≤ i → (P xs ↔ P (drop (i - 1) xs)) → P xs
  ended xs i one none positive h so_far = so_far.1 (at_most_one (drop (i - 1) xs) (simp length-drop (omega arith)))
    where
      at_most_one : (ys : List A) → length ys ≤ 1 → P ys
      at_most_one [] le = none
      at_most_one (a ∷ []) le = one a
      at_most_one (a ∷ b ∷ ys) le = absurd (omega arith)

-- known names

-- the order of two names is that of what stands at their places
pub before_here : (a b x y : Known) → x ≡ a → y ≡ b → IsBefore a.name b.name → IsBefore x.name y.name
before_here a b x y e f before = subst (λ (v : Known). IsBefore x.name v.name) (sym f) (subst (λ (v : Known). IsBefore v.name b.name) (sym e) before)

pub rise_parts : (k n : Known) (ns : List Known) → KnownRise (k ∷ n ∷ ns) → IsBefore k.name n.name × KnownRise (n ∷ ns)
rise_parts k n ns rise = (rise.0.0, rise.1)

pub rise_whole : (k n : Known) (ns : List Known) → IsBefore k.name n.name → KnownRise (n ∷ ns) → KnownRise (k ∷ n ∷ ns)
rise_whole k n ns before rise = ((before, IsBeforeAll-trans k.name n.name ns before rise.0), rise)

-- messages

pub order_parts : (m n : Message) (ns : List Message) → AreInOrder (map plain_message (m ∷ n ∷ ns)) → Precedes (plain_message m) (plain_message n) × AreInOrder (map plain_message (n ∷ ns))
order_parts m n ns order = (order.0.0, order.1)

pub order_whole : (m n : Message) (ns : List Message) → Precedes (plain_message m) (plain_message n) → AreInOrder (map plain_message (n ∷ ns)) → AreInOrder (map plain_message (m ∷ n ∷ ns))
order_whole m n ns before order = AreInOrder-cons (plain_message m) (plain_message n) (map plain_message ns) before order
