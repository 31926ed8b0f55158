-- What operators give.
use Rattle.std.specs.Prelude.{ℤ, pos, ◌+ℤ◌, ◌-ℤ◌, ◌*ℤ◌, neg_ℤ, int_lt, int_le, int_div, int_rem, Bool, true, false, not, nat_eq, if◌then◌else◌, ◌&&◌, bytes_eq}
use Rattle.std.specs.Ordering.{int_eq}
use Rattle.model_value.specs.Plain.{PlainValue, nil, bool, int, text, ref, list, PlainValues, no_items, item}
use Rattle.model_builtin.specs.Builtins.{in_64_bits}
use Rattle.model_tree.specs.declared.tree.UnaryOp.{UnaryOp}
use Rattle.model_tree.specs.declared.tree.UnaryOp.TheVariants as unary_op
use Rattle.model_tree.specs.declared.tree.BinaryOp.{BinaryOp}
use Rattle.model_tree.specs.declared.tree.BinaryOp.TheVariants as op
use Rattle.world_state.specs.declared.fault.Fault.TheVariants.{Overflow, ZeroDivisor, BadKind}
use Rattle.world_state.specs.Running.{Running, Outcome, Gives, and_then, PureOutcome, value, fails, give_pure, truth, decide}

-- values of different kinds differ
abbrev mutual
  pub same : PlainValue → PlainValue → Bool
  same nil nil = true
  same (bool false) (bool b) = not b
  same (bool true) (bool b) = b
  same (int m) (int n) = int_eq m n
  same (text s) (text t) = bytes_eq s t
  same (ref m) (ref n) = nat_eq m n
  same (list vs) (list ws) = all_same vs ws
  same _ _ = false

  pub all_same : PlainValues → PlainValues → Bool
  all_same no_items no_items = true
  all_same (item v vs) (item w ws) = same v w && all_same vs ws
  all_same _ _ = false

abbrev pub int_or_overflow : ℤ → PureOutcome
int_or_overflow n = if in_64_bits n then value (int n) else fails Overflow

abbrev pub on_ints : (ℤ → ℤ → PureOutcome) → PlainValue → PlainValue → PureOutcome
on_ints f (int m) (int n) = f m n
on_ints f _ _ = fails BadKind

abbrev pub compare_ints : (ℤ → ℤ → Bool) → PlainValue → PlainValue → PureOutcome
compare_ints test = on_ints (λ m n. value (bool (test m n)))

-- the quotient, cut towards zero, has to fit, also where the remainder is asked for, which has the sign of the left
abbrev pub divide : (ℤ → ℤ → ℤ) → PlainValue → PlainValue → PureOutcome
divide part = on_ints (λ m n. if int_eq n (pos 0) then fails ZeroDivisor
    else (if in_64_bits (int_div m n) then value (int (part m n)) else fails Overflow))

-- of two values; `||` and `&&` stand below
abbrev pub apply_binary : BinaryOp → PlainValue → PlainValue → PureOutcome
apply_binary op.Or v w = fails BadKind
apply_binary op.And v w = fails BadKind
apply_binary op.Same v w = value (bool (same v w))
apply_binary op.Differs v w = value (bool (not (same v w)))
apply_binary op.Less v w = compare_ints int_lt v w
apply_binary op.AtMost v w = compare_ints int_le v w
apply_binary op.Greater v w = compare_ints (λ m n. int_lt n m) v w
apply_binary op.AtLeast v w = compare_ints (λ m n. int_le n m) v w
apply_binary op.Plus v w = on_ints (λ m n. int_or_overflow (m +ℤ n)) v w
apply_binary op.Minus v w = on_ints (λ m n. int_or_overflow (m -ℤ n)) v w
apply_binary op.Times v w = on_ints (λ m n. int_or_overflow (m *ℤ n)) v w
apply_binary op.Divide v w = divide int_div v w
apply_binary op.Rest v w = divide int_rem v w

-- the right side of `||` and `&&`, which has to be a truth
abbrev pub truly : (Running → Outcome PlainValue) → Running → Outcome PlainValue
truly right r = and_then (right r) (λ w. decide (truth w) (λ b. Gives (bool b)))

-- of a left value and what the right side means: of `||` and `&&` the right side is evaluated only where the left does not decide
abbrev pub binary_outcome : BinaryOp → PlainValue → (Running → Outcome PlainValue) → Running → Outcome PlainValue
binary_outcome op.Or v right r = decide (truth v) (λ b r1. if b then Gives (bool true) r1 else truly right r1) r
binary_outcome op.And v right r = decide (truth v) (λ b r1. if b then truly right r1 else Gives (bool false) r1) r
binary_outcome o v right r = and_then (right r) (λ w. give_pure (apply_binary o v w))

abbrev pub negate : PlainValue → PureOutcome
negate (int n) = int_or_overflow (neg_ℤ n)
negate _ = fails BadKind

abbrev pub invert : PlainValue → PureOutcome
invert (bool b) = value (bool (not b))
invert _ = fails BadKind

abbrev pub apply_unary : UnaryOp → PlainValue → PureOutcome
apply_unary unary_op.Minus v = negate v
apply_unary unary_op.Not v = invert v
