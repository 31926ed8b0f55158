use Rattle.std.proofs.Common.{◌≡◌, ◌∙◌, take, ap}
use Rattle.model_tokens.specs.Bytes.{is_digit}
use Rattle.model_tokens.specs.Reader.{front}
use Rattle.model_tokens.proofs.Lists.{front_all}
use Rattle.model_tokens.proofs.NumberLaws.{digits_from_all}
use Rattle.model_tokens.proofs.numbers.number.Goals as goal

pub value-requires : goal.value-requires
value-requires c =
    let e : c.split_at.result.0.now ≡ front is_digit c.args.text.now = c.split_at.ensures.front ∙ ap (λ n. take n c.args.text.now) c.digits_length.ensures.length in
    rw e (digits_from_all (front is_digit c.args.text.now) (front_all is_digit c.args.text.now))
