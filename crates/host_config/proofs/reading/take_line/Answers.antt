use Rattle.std.proofs.Common.{◌∙◌, ◌≡◌, sym}
use Rattle.host_config.proofs.ConfigText.{taken_line}
use Rattle.host_config.proofs.reading.take_line.Goals as goal

pub returns-clause-read : goal.returns-clause-read
returns-clause-read c =
    taken_line c.take_words.result _ _ c.args.line.now _ (sym (rw c.as_bytes.ensures.value at c.is_skipped.ensures) ∙ c.if-is_skipped.false) (rw (← c.deref.ensures.value) at c.in_ok-words.ensures) c.take_words.ensures.read
