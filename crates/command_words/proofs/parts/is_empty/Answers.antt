use Rattle.std.proofs.Common.{◌∙◌, ap, length, ◌==◌, List, ℕ}
use Rattle.command_words.proofs.WordLaws.{length-encode_is_empty}
use Rattle.command_words.proofs.parts.is_empty.Goals as goal

pub returns : goal.returns
returns c = c.is_empty.ensures ∙ ap (λ (bytes : List ℕ). length bytes == 0) c.bytes.ensures.bytes ∙ length-encode_is_empty c.args.word.now
