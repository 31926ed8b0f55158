use Rattle.std.proofs.Common.{length, ap, ◌∙◌, arith}
use Rattle.model_value.specs.View.{plain}
use Rattle.serde_json.specs.Written.{compact_text, has_float}
use Rattle.persist_json.proofs.Sizes.{length-compact_text, data_of-has_float}
use Rattle.persist_json.proofs.writing.to_json.Goals as goal

pub returns-clause-short : goal.returns-clause-short
returns-clause-short c =
    let v = plain c.args.value.now in
    let none = ap has_float c.in_ok-data.ensures.data ∙ data_of-has_float v in
    let text = c.from_vec.ensures ∙ c.in_ok-text.ensures.text none ∙ ap compact_text c.in_ok-data.ensures.data in
    omega (arith, ap length text, length-compact_text v c.in_ok-data.ensures.value, c.requires.0.0)
