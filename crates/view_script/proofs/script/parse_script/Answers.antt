use Rattle.std.proofs.Common.{sym, ◌∙◌}
use Rattle.view_script.proofs.ScriptLaws.{view_script_of-text, view_script_of-not_text}
use Rattle.view_script.proofs.script.parse_script.Goals as goal

pub returns-in_ok-read_text-in-Ok : goal.returns-in_ok-read_text-in-Ok
returns-in_ok-read_text-in-Ok c =
    sym (view_script_of-text c.args.bytes.now c.in-Ok.text.now c.in-Ok.ensures.cases.1 c.in-Ok.ensures.cases.0) ∙ c.in_ok-read_text-in-Ok.ensures.read

pub returns-in-Err : goal.returns-in-Err
returns-in-Err c = view_script_of-not_text c.args.bytes.now c.in-Err.ensures.cases.0
