use Rattle.std.proofs.Common.{rules}
use Rattle.model_tokens.proofs.LiteralLaws.{not_utf8, of_utf8}
use Rattle.model_tokens.proofs.literals.text_of.Goals as goal

pub returns-in-Ok : goal.returns-in-Ok
returns-in-Ok c = (of_utf8 c.args.bytes.now c.in-Ok.ensures.utf8, c.in-Ok.ensures.characters)

pub returns-in-Err-NotUtf8 : goal.returns-in-Err-NotUtf8
returns-in-Err-NotUtf8 c = not_utf8 c.args.bytes.now (c.in-Err-NotUtf8.ensures.not_utf8 (search rules))
