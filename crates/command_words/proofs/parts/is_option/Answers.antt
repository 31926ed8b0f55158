use Rattle.std.proofs.Common.{◌∙◌, ap}
use Rattle.command_words.specs.Parts.{is_option}
use Rattle.command_words.proofs.WordLaws.{is_option-encode}
use Rattle.command_words.proofs.parts.is_option.Goals as goal

pub returns : goal.returns
returns c = c.begins_with_dash.ensures ∙ ap is_option c.bytes.ensures.bytes ∙ is_option-encode c.args.word.now
