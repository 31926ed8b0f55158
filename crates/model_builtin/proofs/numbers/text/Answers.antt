use Rattle.std.proofs.Common.{◌≡◌, true, false}
use Rattle.model_builtin.proofs.Words.{nil_given, true_given, false_given}
use Rattle.model_builtin.proofs.numbers.text.Goals as goal

pub returns-in_ok-copy-in-Nil : goal.returns-in_ok-copy-in-Nil
returns-in_ok-copy-in-Nil c = nil_given c.args.x.now c.in_ok-copy-in-Nil.field-0 c.in-Nil.is c.in_ok-copy-in-Nil.ensures.characters

pub returns-in_ok-copy-in-Bool-true : goal.returns-in_ok-copy-in-Bool-true
returns-in_ok-copy-in-Bool-true c =
    let flag : c.in-Bool-true.field-0 ≡ true = cc (c.in-Bool-true.field-0-is, c.in-Bool-true.field-0-test) in
    true_given c.args.x.now c.in-Bool-true.field-0 c.in_ok-copy-in-Bool-true.field-0 c.in-Bool-true.is flag c.in_ok-copy-in-Bool-true.ensures.characters

pub returns-in_ok-copy-in-Bool-false : goal.returns-in_ok-copy-in-Bool-false
returns-in_ok-copy-in-Bool-false c =
    let flag : c.in-Bool-false.field-0 ≡ false = cc (c.in-Bool-false.field-0-is, c.in-Bool-false.field-0-test) in
    false_given c.args.x.now c.in-Bool-false.field-0 c.in_ok-copy-in-Bool-false.field-0 c.in-Bool-false.is flag c.in_ok-copy-in-Bool-false.ensures.characters
