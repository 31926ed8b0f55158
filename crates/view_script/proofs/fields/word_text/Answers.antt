use Rattle.std.proofs.Common.{Err, ap}
use Rattle.view_script.proofs.ScriptLaws.{text_of_word-not_text, text_of_word-text}
use Rattle.view_script.proofs.fields.word_text.Goals as goal

pub returns-in-Ok : goal.returns-in-Ok
returns-in-Ok c = text_of_word-text c.args.word.now c.in-Ok.text c.in-Ok.ensures.utf8 c.in-Ok.ensures.characters

pub returns-in-Err-NotUtf8 : goal.returns-in-Err-NotUtf8
returns-in-Err-NotUtf8 c bad = text_of_word-not_text c.args.word.now (c.in-Err-NotUtf8.ensures.not_utf8 (ap Err c.in-Err-NotUtf8.field-0-is))
