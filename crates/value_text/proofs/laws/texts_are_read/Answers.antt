use Rattle.value_text.proofs.TextLaws.{text_again, text_only}
use Rattle.value_text.proofs.laws.texts_are_read.Goals as goal

pub returns-clause-again : goal.returns-clause-again
returns-clause-again c = text_again

pub returns-clause-only : goal.returns-clause-only
returns-clause-only c = text_only
