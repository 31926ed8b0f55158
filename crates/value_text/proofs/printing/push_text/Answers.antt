use Rattle.std.proofs.Common.{◌≡◌, ◌++◌, ◌∙◌, ap, string_bytes}
use Rattle.std.specs.Str.{chars}
use Rattle.std.proofs.lemmas.Result.{on_ok_weaker}
use Rattle.std.proofs.lemmas.Str.{chars-encodes}
use Rattle.model_tokens.specs.Spelling.{spelled_text}
use Rattle.value_text.proofs.printing.push_text.Goals as goal

pub returns-clause-literal : goal.returns-clause-literal
returns-clause-literal c =
    let characters : chars c.as_str.result.now ≡ c.args.text.now = ap chars c.as_str.ensures ∙ chars-encodes c.args.text.now c.bytes.ensures.scalars in
    on_ok_weaker c.push_literal.result
    (λ e. e ∙ ap (λ bs. bs ++ spelled_text (chars c.as_str.result.now)) c.reserve.ensures.bytes ∙ ap (λ cs. string_bytes c.args.out.now ++ spelled_text cs) characters)
    c.push_literal.ensures
