use Rattle.std.proofs.Common.{◌≡◌, ◌∙◌}
use Rattle.model_value.specs.View.{plain}
use Rattle.value_text.specs.ValueText.{value_text}
use Rattle.value_text.proofs.ReadAnswers.{only_want}
use Rattle.value_text.proofs.laws.print_and_read.Goals as goal

pub returns-clause-want : goal.returns-clause-want
returns-clause-want c =
    let printed : c.bytes.result.now ≡ value_text (plain c.args.value.now) = c.bytes.ensures ∙ c.in_ok-text.ensures.text in
    only_want c.read_value.result (λ bad. c.read_value.ensures.bad bad (plain c.args.value.now) (c.in_ok-text.ensures.value) c.requires printed)
