use Rattle.std.proofs.Common.{◌∙◌, ap}
use Rattle.std.specs.Str.{chars}
use Rattle.hex.specs.Hex.{encode_lower}
use Rattle.model_eval.proofs.Texts.{has_characters, digits-characters}
use Rattle.model_eval.proofs.builtins.digits.Goals as goal

pub returns-clause-digits : goal.returns-clause-digits
returns-clause-digits c =
    has_characters c.copy.result c.as_str.result.now (encode_lower c.args.id.now) c.copy.ensures.characters
    (ap chars (c.as_str.ensures.value ∙ c.in_ok-digits.ensures) ∙ digits-characters c.args.id.now)
