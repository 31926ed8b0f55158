use Rattle.std.proofs.Common.{rules}
use Rattle.std.proofs.lemmas.Slice.Eq.{text_from_reads}
use Rattle.model_tokens.specs.Spelling.{spelled_word}
use Rattle.model_tokens.specs.declared.token.Word.TheVariants as word
use Rattle.model_tokens.proofs.NameLaws.{among_is}
use Rattle.world_lines.proofs.names.reserved_word.Goals as goal

pub returns-in-return : goal.returns-in-return
returns-in-return c = among_is word.Return c.args.bytes.now (text_from_reads c.args.bytes.now (spelled_word word.Return) (search rules) (search rules))

pub returns-in-create : goal.returns-in-create
returns-in-create c = among_is word.Create c.args.bytes.now (text_from_reads c.args.bytes.now (spelled_word word.Create) (search rules) (search rules))

pub returns-in-future : goal.returns-in-future
returns-in-future c = among_is word.Future c.args.bytes.now (text_from_reads c.args.bytes.now (spelled_word word.Future) (search rules) (search rules))
