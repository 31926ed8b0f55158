-- Values that are given are in bounds.
use Rattle.std.proofs.Common.{◌≡◌, ℕ, ◌≤◌, Bool, true, false, cond, List, refl, ap, subst, ◌∙◌, arith}
use Rattle.std.specs.Prelude.{pos, FitsSigned}
use Rattle.std.specs.Int.{w64, cast_signed}
use Rattle.std.proofs.lemmas.Int.{to_z_pos}
use Rattle.model_value.specs.Plain.{PlainValue, InBounds, is_in_bounds}
use Rattle.model_value.proofs.ValueCodec.{InBounds-is_in_bounds}
use Rattle.model_builtin.specs.declared.builtin.Pure.{Pure}
use Rattle.model_builtin.specs.Builtins.{BuiltinReply, value, bad_kind, bad_index, too_large, reply_in_bounds, builtin_gives, apply}

if_value : (b : Bool) (v w : PlainValue) → cond b (value v) too_large ≡ value w → (b ≡ true) × (v ≡ w)
if_value true v w e = (refl, cc)
if_value false v w e = absurd cc

sized-in_bounds : (reply : BuiltinReply) (v : PlainValue) → reply_in_bounds reply ≡ value v → InBounds v
sized-in_bounds (value w) v e = let is = if_value (is_in_bounds w) w v e in subst InBounds is.1 (InBounds-is_in_bounds w is.0)
sized-in_bounds bad_kind v e = absurd cc
sized-in_bounds bad_index v e = absurd cc
sized-in_bounds too_large v e = absurd cc

-- what a builtin gives is in bounds
pub applied-in_bounds : (f : Pure) (args : List PlainValue) (v : PlainValue) → apply f args ≡ value v → InBounds v
applied-in_bounds f args v e = sized-in_bounds (builtin_gives f args) v e

pub small_number : (n m : ℕ) → n ≡ m → m ≤ 65536 → FitsSigned w64 (pos n) × (cast_signed w64 n ≡ pos m)
small_number n m e le = (record { sfits = omega arith }, to_z_pos w64 n (omega arith) ∙ ap pos e)
