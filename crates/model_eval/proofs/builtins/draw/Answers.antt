use Rattle.std.proofs.Common.{◌≡◌, rules, w64}
use Rattle.std.specs.Int.{cast_signed, cast_unsigned}
use Rattle.model_value.specs.Plain.{int}
use Rattle.model_value.specs.View.{plain}
use Rattle.model_value.specs.declared.value.Value.{the_lemmas}
use Rattle.model_eval.proofs.builtins.draw.Goals as goal

pub returns-in-Int : goal.returns-in-Int
returns-in-Int c = λ budget.
    let limit : plain c.args.limit.now ≡ int c.in-Int.limit = rw c.in-Int.is (search (rules, the_lemmas)) in
    let same : cast_signed w64 (cast_unsigned w64 c.in-Int.limit) ≡ c.in-Int.limit = search rules in
    rw limit (rw same at (c.draw_below.ensures budget))
