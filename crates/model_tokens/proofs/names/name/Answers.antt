use Rattle.std.proofs.Common.{◌≡◌, ◌∙◌, take, ap}
use Rattle.model_tokens.specs.Bytes.{goes_on_name}
use Rattle.model_tokens.specs.Reader.{front}
use Rattle.model_tokens.proofs.NameLaws.{name_is_text}
use Rattle.model_tokens.proofs.names.name.Goals as goal

pub token_of_name-requires : goal.token_of_name-requires
token_of_name-requires c =
    let e : c.split_at.result.0.now ≡ front goes_on_name c.args.text.now = c.split_at.ensures.front ∙ ap (λ n. take n c.args.text.now) c.name_length.ensures.length in
    rw e (name_is_text c.args.text.now)
