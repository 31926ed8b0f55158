use Rattle.view_script.proofs.WordLaws.{number-not_text}
use Rattle.view_script.specs.ViewScript.{last_entry}
use Rattle.view_script.proofs.fields.entry_in.Goals as goal

pub returns-in-Err : goal.returns-in-Err
returns-in-Err c = number-not_text 1 last_entry c.args.word.now c.in-Err.ensures.cases.0
