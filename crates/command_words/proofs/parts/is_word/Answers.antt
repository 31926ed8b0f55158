use Rattle.std.proofs.Common.{◌∙◌, ap, List, ℕ}
use Rattle.std.specs.Str.{bytes_eq}
use Rattle.command_words.proofs.WordLaws.{spelled_as}
use Rattle.command_words.proofs.parts.is_word.Goals as goal

pub returns : goal.returns
returns c =
    c.eq.ensures ∙ ap (λ (bytes : List ℕ). bytes_eq bytes c.args.name.now) c.as_str.ensures ∙ spelled_as c.args.word.now c.args.name.now c.requires
