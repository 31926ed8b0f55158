use Rattle.std.proofs.Common.{sym, ◌∙◌}
use Rattle.command_inspect.proofs.QueryLaws.{queries_of-text, queries_of-not_text}
use Rattle.command_inspect.proofs.queries.parse_queries.Goals as goal

pub returns-in_ok-read_text-in-Ok : goal.returns-in_ok-read_text-in-Ok
returns-in_ok-read_text-in-Ok c =
    sym (queries_of-text c.args.bytes.now c.in-Ok.text.now c.in-Ok.ensures.cases.1 c.in-Ok.ensures.cases.0) ∙ c.in_ok-read_text-in-Ok.ensures.read

pub returns-in-Err : goal.returns-in-Err
returns-in-Err c = queries_of-not_text c.args.bytes.now c.in-Err.ensures.cases.0
