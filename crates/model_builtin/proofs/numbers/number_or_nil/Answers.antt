use Rattle.std.proofs.Common.{◌≡◌, ap, sym, ◌∙◌, w64}
use Rattle.std.specs.Fmt.{signed_decimal}
use Rattle.std.proofs.lemmas.Int.{to_z-of_z}
use Rattle.model_value.proofs.Plains.{plain-Nil, plain-Int}
use Rattle.model_value.specs.Plain.{int}
use Rattle.model_builtin.specs.Builtins.{value, int_or_nil}
use Rattle.model_builtin.proofs.Spelled.{number_of-none, number_of-is, parsed, parsed_fits, in_64_bits-FitsSigned}
use Rattle.model_builtin.proofs.numbers.number_or_nil.Goals as goal

pub returns-in_default : goal.returns-in_default
returns-in_default c =
    ap (λ found. value (int_or_nil found)) (number_of-none c.args.text.now (λ n fits is.
    let read = parsed c.characters.result.now c.args.text.now c.parse.result c.characters.utf8 c.characters.ensures c.parse.ensures.value.0 n fits is in
    absurd cc))
    ∙ ap value (sym plain-Nil)

pub returns-then-not-is_text : goal.returns-then-not-is_text
returns-then-not-is_text c =
    let n = c.in-Ok.number in
    let fits = parsed_fits c.characters.result.now n c.parse.result c.in-Ok.is c.parse.ensures.value.0 in
    let spelled : c.in_ok-decimal.field-0 ≡ signed_decimal n = c.in_ok-decimal.ensures ∙ ap signed_decimal (to_z-of_z w64 n fits) in
    ap (λ found. value (int_or_nil found)) (number_of-none c.args.text.now (λ m in_64 is.
    let read = parsed c.characters.result.now c.args.text.now c.parse.result c.characters.utf8 c.characters.ensures c.parse.ensures.value.0 m in_64 is in
    let same : m ≡ n = cc in
    let equal = c.is_text-2.ensures.1 (spelled ∙ ap signed_decimal (sym same) ∙ is) in
    absurd cc))
    ∙ ap value (sym plain-Nil)

pub returns : goal.returns
returns c =
    let n = c.in-Ok.number in
    let fits = parsed_fits c.characters.result.now n c.parse.result c.in-Ok.is c.parse.ensures.value.0 in
    let back = to_z-of_z w64 n fits in
    let spelled : c.in_ok-decimal.field-0 ≡ signed_decimal n = c.in_ok-decimal.ensures ∙ ap signed_decimal back in
    let equal = c.is_text-2.ensures.0 c.if-not-is_text.false in
    ap (λ found. value (int_or_nil found)) (number_of-is c.args.text.now n (in_64_bits-FitsSigned n fits) (sym spelled ∙ equal))
    ∙ ap (λ m. value (int m)) (sym back)
    ∙ ap value (sym (plain-Int _))
