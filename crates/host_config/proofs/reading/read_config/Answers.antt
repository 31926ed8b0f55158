use Rattle.host_config.proofs.ConfigText.{config_of-text, config_of-not_text}
use Rattle.host_config.proofs.reading.read_config.Goals as goal

pub returns-in-Ok-clause-read : goal.returns-in-Ok-clause-read
returns-in-Ok-clause-read c =
    rw (← config_of-text c.args.bytes.now c.in-Ok.text.now c.in-Ok.ensures.cases.1 c.in-Ok.ensures.cases.0) c.read_text.ensures.read

pub returns-in-Err-clause-read : goal.returns-in-Err-clause-read
returns-in-Err-clause-read c = config_of-not_text c.args.bytes.now c.in-Err.ensures.cases.0
