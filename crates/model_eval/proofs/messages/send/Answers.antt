use Rattle.std.proofs.Common.{◌≡◌, rules, w64}
use Rattle.std.specs.Int.{cast_signed, cast_unsigned}
use Rattle.model_value.specs.Plain.{ref, int}
use Rattle.model_value.specs.View.{plain}
use Rattle.model_value.specs.declared.value.Value.{the_lemmas}
use Rattle.model_eval.proofs.messages.send.Goals as goal

pub returns-in-Ref-Int : goal.returns-in-Ref-Int
returns-in-Ref-Int c = λ budget.
    let object : plain c.args.object.now ≡ ref c.in-Ref-Int.object = rw c.in-Ref-Int.is-0 (search (rules, the_lemmas)) in
    let delay : plain c.args.delay.now ≡ int c.in-Ref-Int.delay = rw c.in-Ref-Int.is-1 (search (rules, the_lemmas)) in
    let same : cast_signed w64 (cast_unsigned w64 c.in-Ref-Int.delay) ≡ c.in-Ref-Int.delay = search rules in
    rw (object, delay) (rw same at (c.send_to.ensures budget))
