use Rattle.view_script.proofs.WordLaws.{time-not_text}
use Rattle.view_script.proofs.fields.time_in.Goals as goal

pub returns-in-Err-clause-read : goal.returns-in-Err-clause-read
returns-in-Err-clause-read c = time-not_text c.args.word.now c.in-Err.ensures.cases.0
