use Rattle.std.proofs.Common.{rules, codes, true, false, Some, ap}
use Rattle.std.proofs.lemmas.Slice.Eq.{text_from_reads}
use Rattle.model_value.proofs.Plains.{plain-Nil, plain-Bool}
use Rattle.value_text.proofs.reading.value_of_word.Goals as goal

pub returns-in-nil : goal.returns-in-nil
returns-in-nil c = rw (text_from_reads c.args.word.now (codes "nil") (search rules) (search rules)) (ap (λ v. Some v) plain-Nil)

pub returns-in-false : goal.returns-in-false
returns-in-false c = rw (text_from_reads c.args.word.now (codes "false") (search rules) (search rules)) (ap (λ v. Some v) (plain-Bool false))

pub returns-in-true : goal.returns-in-true
returns-in-true c = rw (text_from_reads c.args.word.now (codes "true") (search rules) (search rules)) (ap (λ v. Some v) (plain-Bool true))
