-- Which values are in bounds.
use Rattle.std.proofs.Common.{◌≡◌, ℕ, zero, suc, ◌≤◌, Bool, true, false, not, ℤ, pos, List, [], ◌∷◌, ◌++◌, length, take, Option, Some, None, nat_le, refl, arith, if◌then◌else◌, bytes_eq, neg_ℤ, int_lt, int_le, int_div, int_rem, ◌+ℤ◌, ◌-ℤ◌, ◌*ℤ◌}
use Rattle.std.specs.Ordering.{int_eq}
use Rattle.std.proofs.lemmas.Bool.{leb-true, le-leb, and_parts, and_from, cond-true}
use Rattle.hex.specs.Hex.{encode_lower, lower_digits}
use Rattle.hex.proofs.HexLemmas.{length-encode_with}
use Rattle.model_value.specs.Plain.{PlainValue, bool, int, text, ref, weight, depth, InBounds, most_weight, most_depth, is_in_bounds, AllInBounds}
use Rattle.world_plain.specs.declared.world.Known.{Known}
use Rattle.model_tree.specs.Tree.{Name}
use Rattle.model_tree.specs.declared.tree.UnaryOp.{UnaryOp}
use Rattle.model_tree.specs.declared.tree.UnaryOp.TheVariants as unary_op
use Rattle.model_tree.specs.declared.tree.BinaryOp.{BinaryOp}
use Rattle.model_tree.specs.declared.tree.BinaryOp.TheVariants as op
use Rattle.model_builtin.specs.Builtins.{in_64_bits}
use Rattle.model_builtin.specs.Builtins as without_world
use Rattle.model_builtin.specs.declared.builtin.Pure.{Pure}
use Rattle.world_state.specs.declared.fault.Fault.TheVariants.{Overflow, ZeroDivisor, Size}
use Rattle.world_state.specs.Running.{Running, Gives, Faults, give_in_bounds, PureOutcome, value, fails}
use Rattle.model_eval.specs.Arguments.{one_or_both}
use Rattle.model_eval.specs.Publishing.{sender_value}
use Rattle.model_eval.specs.Operators.{same, int_or_overflow, on_ints, compare_ints, divide, apply_binary, apply_unary}
use Rattle.world_state.specs.Objects.{known_by}
use Rattle.model_eval.specs.Meaning.{Local, local_value, with_local, locals_of, Flow, next, return_with, leave_block, method_result}
use Rattle.model_eval.proofs.FieldBounds.{if_both, nil-in_bounds}
use Rattle.model_eval.proofs.Pending.{if_either, encoded-length}

-- of the value that an operator gives, if it gives one
abbrev pub Replies : (PlainValue → Type 0) → PureOutcome → Type 0
Replies P (value a) = P a
Replies P (fails f) = Unit {0}

-- ---- values

pub fits-true : (v : PlainValue) → is_in_bounds v ≡ true → InBounds v
fits-true v e =
    let parts = and_parts (nat_le (weight v) most_weight) (nat_le (depth v) most_depth) e in
    (leb-true (weight v) most_weight parts.0, leb-true (depth v) most_depth parts.1)

in_bounds-fits : (v : PlainValue) → InBounds v → is_in_bounds v ≡ true
in_bounds-fits v h = and_from (nat_le (weight v) most_weight) (nat_le (depth v) most_depth) (le-leb (weight v) most_weight h.0) (le-leb (depth v) most_depth h.1)

-- what weighs one, and is no list
single : (m n : ℕ) → m ≡ 1 → n ≡ 0 → (m ≤ most_weight) × (n ≤ most_depth)
single m n h g = (omega arith, omega arith)

pub bool-in_bounds : (b : Bool) → InBounds (bool b)
bool-in_bounds b = single 1 0 refl refl

pub int-in_bounds : (n : ℤ) → InBounds (int n)
int-in_bounds n = single 1 0 refl refl

pub ref-in_bounds : (id : ℕ) → InBounds (ref id)
ref-in_bounds id = single 1 0 refl refl

pub sender-in_bounds : (sender : Option ℕ) → InBounds (sender_value sender)
sender-in_bounds None = nil-in_bounds
sender-in_bounds (Some view) = int-in_bounds (pos view)

pub one_or_both-in_bounds : (both : Bool) (first second : PlainValue) → InBounds first → InBounds second → AllInBounds (one_or_both both first second)
one_or_both-in_bounds true first second fit also = (fit, (also, tt))
one_or_both-in_bounds false first second fit also = (fit, tt)

-- the digits of an id of at most 32 bytes
pub digits-in_bounds : (id : List ℕ) → length id ≤ 32 → InBounds (text (encode_lower id))
digits-in_bounds id h = (omega (arith, encoded-length (encode_lower id), length-encode_with lower_digits id), omega arith)

-- so that they are given, as each value in bounds is
pub digits-given : (id : List ℕ) (r : Running) → length id ≤ 32 → give_in_bounds (text (encode_lower id)) r ≡ Gives (text (encode_lower id)) r
digits-given id r h = cond-true (is_in_bounds (text (encode_lower id))) (Gives (text (encode_lower id)) r) (Faults Size r) (in_bounds-fits (text (encode_lower id)) (digits-in_bounds id h))

pub known_by-in_bounds : (x : Name) (ks : List Known) → InBounds (known_by x ks)
known_by-in_bounds x [] = nil-in_bounds
known_by-in_bounds x (k ∷ ks) = if_both InBounds (bytes_eq x k.name) (ref k.object) (known_by x ks) (ref-in_bounds k.object) (known_by-in_bounds x ks)

pub AllInBounds-push : (vs : List PlainValue) (v : PlainValue) → AllInBounds vs → InBounds v → AllInBounds (vs ++ v ∷ [])
AllInBounds-push [] v h g = (g, tt)
AllInBounds-push (w ∷ vs) v h g = (h.0, AllInBounds-push vs v h.1 g)

-- ---- operators

fitting-in_bounds : (n : ℤ) → Replies InBounds (int_or_overflow n)
fitting-in_bounds n = if_both (Replies InBounds) (in_64_bits n) (value (int n)) (fails Overflow) (int-in_bounds n) tt

on_ints-in_bounds : (f : ℤ → ℤ → PureOutcome) → ((m n : ℤ) → Replies InBounds (f m n)) → (v w : PlainValue) → Replies InBounds (on_ints f v w)
on_ints-in_bounds f h (int m) (int n) = h m n
on_ints-in_bounds f h _ _ = tt

compared-in_bounds : (test : ℤ → ℤ → Bool) (v w : PlainValue) → Replies InBounds (compare_ints test v w)
compared-in_bounds test = on_ints-in_bounds (λ m n. value (bool (test m n))) (λ m n. bool-in_bounds (test m n))

divided-in_bounds : (part : ℤ → ℤ → ℤ) (v w : PlainValue) → Replies InBounds (divide part v w)
divided-in_bounds part =
    on_ints-in_bounds (λ m n. if int_eq n (pos 0) then fails ZeroDivisor else (if in_64_bits (int_div m n) then value (int (part m n)) else fails Overflow))
    (λ m n. if_both (Replies InBounds) (int_eq n (pos 0)) (fails ZeroDivisor) (if in_64_bits (int_div m n) then value (int (part m n)) else fails Overflow) tt
    (if_both (Replies InBounds) (in_64_bits (int_div m n)) (value (int (part m n))) (fails Overflow) (int-in_bounds (part m n)) tt))

pub operated-in_bounds : (o : BinaryOp) (v w : PlainValue) → Replies InBounds (apply_binary o v w)
operated-in_bounds op.Or v w = tt
operated-in_bounds op.And v w = tt
operated-in_bounds op.Same v w = bool-in_bounds (same v w)
operated-in_bounds op.Differs v w = bool-in_bounds (not (same v w))
operated-in_bounds op.Less v w = compared-in_bounds int_lt v w
operated-in_bounds op.AtMost v w = compared-in_bounds int_le v w
operated-in_bounds op.Greater v w = compared-in_bounds (λ m n. int_lt n m) v w
operated-in_bounds op.AtLeast v w = compared-in_bounds (λ m n. int_le n m) v w
operated-in_bounds op.Plus v w = on_ints-in_bounds (λ m n. int_or_overflow (m +ℤ n)) (λ m n. fitting-in_bounds (m +ℤ n)) v w
operated-in_bounds op.Minus v w = on_ints-in_bounds (λ m n. int_or_overflow (m -ℤ n)) (λ m n. fitting-in_bounds (m -ℤ n)) v w
operated-in_bounds op.Times v w = on_ints-in_bounds (λ m n. int_or_overflow (m *ℤ n)) (λ m n. fitting-in_bounds (m *ℤ n)) v w
operated-in_bounds op.Divide v w = divided-in_bounds int_div v w
operated-in_bounds op.Rest v w = divided-in_bounds int_rem v w

pub unary_operated-in_bounds : (o : UnaryOp) (v : PlainValue) → Replies InBounds (apply_unary o v)
unary_operated-in_bounds unary_op.Minus (int n) = fitting-in_bounds (neg_ℤ n)
unary_operated-in_bounds unary_op.Minus _ = tt
unary_operated-in_bounds unary_op.Not (bool b) = bool-in_bounds (not b)
unary_operated-in_bounds unary_op.Not _ = tt

-- ---- the builtins that need no world

-- of the value that such a one gives, if it gives one
abbrev pub PureReplies : (PlainValue → Type 0) → without_world.BuiltinReply → Type 0
PureReplies P (without_world.value v) = P v
PureReplies P _ = Unit {0}

sized-in_bounds : (reply : without_world.BuiltinReply) → PureReplies InBounds (without_world.reply_in_bounds reply)
sized-in_bounds (without_world.value v) = if_either (PureReplies InBounds) (is_in_bounds v) (without_world.value v) without_world.too_large (fits-true v) (λ _. tt)
sized-in_bounds without_world.bad_kind = tt
sized-in_bounds without_world.bad_index = tt
sized-in_bounds without_world.too_large = tt

pub applied-in_bounds : (f : Pure) (args : List PlainValue) → PureReplies InBounds (without_world.apply f args)
applied-in_bounds f args = sized-in_bounds (without_world.builtin_gives f args)

-- ---- locals

-- what the names in scope hold is in bounds
abbrev pub LocalsFit : List Local → Type 0
LocalsFit [] = Unit {0}
LocalsFit (l ∷ ls) = InBounds l.value × LocalsFit ls

pub local_value-in_bounds : (x : Name) (ls : List Local) → LocalsFit ls → InBounds (local_value x ls)
local_value-in_bounds x [] h = nil-in_bounds
local_value-in_bounds x (l ∷ ls) h = if_both InBounds (bytes_eq x l.name) l.value (local_value x ls) h.0 (local_value-in_bounds x ls h.1)

pub with_local-fit : (x : Name) (v : PlainValue) (ls : List Local) → InBounds v → LocalsFit ls → LocalsFit (with_local x v ls)
with_local-fit x v [] n h = tt
with_local-fit x v (l ∷ ls) n h = if_both LocalsFit (bytes_eq x l.name) (record l { value = v } ∷ ls) (l ∷ with_local x v ls) (n, h.1) (h.0, with_local-fit x v ls n h.1)

pub declared-fit : (x : Name) (v : PlainValue) (ls : List Local) → InBounds v → LocalsFit ls → LocalsFit (ls ++ record { name = x; value = v } ∷ [])
declared-fit x v [] n h = (n, tt)
declared-fit x v (l ∷ ls) n h = (h.0, declared-fit x v ls n h.1)

pub locals_of-fit : (params : List Name) (args : List PlainValue) → AllInBounds args → LocalsFit (locals_of params args)
locals_of-fit [] args h = tt
locals_of-fit (x ∷ xs) [] h = tt
locals_of-fit (x ∷ xs) (v ∷ vs) h = (h.0, locals_of-fit xs vs h.1)

take-fit : (n : ℕ) (ls : List Local) → LocalsFit ls → LocalsFit (take n ls)
take-fit zero ls h = tt
take-fit (suc n) [] h = tt
take-fit (suc n) (l ∷ ls) h = (h.0, take-fit n ls h.1)

-- the locals behind a statement, or the value that a method ends with
abbrev pub FlowFits : Flow (List Local) → Type 0
FlowFits (next ls) = LocalsFit ls
FlowFits (return_with v) = InBounds v

pub behind-fits : (n : ℕ) (f : Flow (List Local)) → FlowFits f → FlowFits (leave_block n f)
behind-fits n (next ls) h = take-fit n ls h
behind-fits n (return_with v) h = h

pub value_of-fits : (f : Flow (List Local)) → FlowFits f → InBounds (method_result f)
value_of-fits (next ls) h = nil-in_bounds
value_of-fits (return_with v) h = h
