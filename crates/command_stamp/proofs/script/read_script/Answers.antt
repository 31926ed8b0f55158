use Rattle.command_stamp.proofs.ScriptLaws.{script_of-text, script_of-not_text}
use Rattle.command_stamp.proofs.script.read_script.Goals as goal

pub returns-in-Ok : goal.returns-in-Ok
returns-in-Ok c =
    rw (← script_of-text c.args.bytes.now c.in-Ok.text.now c.in-Ok.ensures.cases.1 c.in-Ok.ensures.cases.0) c.read_lines.ensures

pub returns-in-Err : goal.returns-in-Err
returns-in-Err c = script_of-not_text c.args.bytes.now c.in-Err.ensures.cases.0
