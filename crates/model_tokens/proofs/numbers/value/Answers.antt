use Rattle.std.proofs.Common.{◌≡◌, ◌≤◌, ◌+◌, ◌*◌, ◌-◌, ◌^◌, ◌∙◌, arith, get_or}
use Rattle.std.specs.Str.Parse.{digits_value}
use Rattle.model_tokens.proofs.NumberLaws.{digit_high, value_step, value_too_large}
use Rattle.model_tokens.proofs.numbers.value.Goals as goal

pub overflow_sub-digit : goal.overflow_sub-digit
overflow_sub-digit c = digit_high c.args.digits.now c.loop-digit.digit-index c.requires c.loop-digit-test.true

pub loop-digit-preserved : goal.loop-digit-preserved
loop-digit-preserved c =
    let e : c.in_ok-value.value ≡ c.loop-digit.value * 10 + (get_or c.args.digits.now c.loop-digit.digit-index 0 - 48) = omega (arith, c.in_ok-value.ensures) in
    rw e (value_step c.args.digits.now c.loop-digit.digit-index c.loop-digit.value (digits_value 10 c.args.digits.now) c.requires c.loop-digit-test.true c.loop-digit.invariant)

pub returns-in_err-checked_mul : goal.returns-in_err-checked_mul
returns-in_err-checked_mul c =
    let large : 2 ^ 64 ≤ c.loop-digit.value * 10 = omega (arith, c.in_err-checked_mul.ensures) in
    c.from_residual.ensures ∙ value_too_large c.args.digits.now c.loop-digit.digit-index c.loop-digit.value (digits_value 10 c.args.digits.now) c.requires c.loop-digit-test.true c.loop-digit.invariant (omega arith)

pub returns-in_err-value : goal.returns-in_err-value
returns-in_err-value c =
    c.from_residual-in_err-value.ensures ∙ value_too_large c.args.digits.now c.loop-digit.digit-index c.loop-digit.value (digits_value 10 c.args.digits.now) c.requires c.loop-digit-test.true c.loop-digit.invariant (omega (arith, c.in_err-value.ensures))
