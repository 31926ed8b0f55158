use Rattle.std.proofs.Common.{ap, ◌∙◌, w64}
use Rattle.std.specs.Fmt.{signed_decimal}
use Rattle.std.proofs.lemmas.Int.{to_z-of_z}
use Rattle.model_builtin.proofs.Spelled.{chars-signed_decimal, has_characters}
use Rattle.model_builtin.proofs.numbers.decimal.Goals as goal

pub returns : goal.returns
returns c =
    let spelled = c.as_str.ensures.value ∙ c.in_ok-to_string.ensures.ok ∙ ap signed_decimal (to_z-of_z w64 c.args.number c.ranges.number) in
    has_characters c.copy.result c.as_str.result.now (signed_decimal c.args.number) c.copy.ensures.characters (chars-signed_decimal c.args.number c.as_str.result.now c.ranges.number spelled)
