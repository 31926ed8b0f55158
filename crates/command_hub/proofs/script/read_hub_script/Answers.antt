use Rattle.command_hub.proofs.ScriptText.{script_of-text, script_of-not_text}
use Rattle.command_hub.proofs.script.read_hub_script.Goals as goal

pub returns-in-Ok-clause-read : goal.returns-in-Ok-clause-read
returns-in-Ok-clause-read c =
    rw (← script_of-text c.args.bytes.now c.in-Ok.text.now c.in-Ok.ensures.cases.1 c.in-Ok.ensures.cases.0) c.read_lines.ensures.read

pub returns-in-Err-clause-read : goal.returns-in-Err-clause-read
returns-in-Err-clause-read c = script_of-not_text c.args.bytes.now c.in-Err.ensures.cases.0
