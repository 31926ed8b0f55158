use Rattle.std.proofs.Common.{◌++◌, List, ℕ, ap, ◌∙◌}
use Rattle.std.proofs.lemmas.List.{take_rest}
use Rattle.session_journal.specs.Journal.{record_check}
use Rattle.session_journal.proofs.HeadLaws.{body_is}
use Rattle.session_journal.proofs.founding.put_record.Goals as goal

pub returns-clause-check : goal.returns-clause-check
returns-clause-check c = λ change spelled.
    c.check_of-check.ensures.check ∙ ap (λ (front : List ℕ). record_check c.args.before.now (front ++ c.args.payload.now)) (take_rest c.args.head.now 4)
    ∙ ap (record_check c.args.before.now) (body_is c.args.head.now c.args.payload.now change c.requires spelled)
