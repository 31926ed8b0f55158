use Rattle.std.proofs.Common.{◌∙◌, Option, ap}
use Rattle.std.specs.Prelude.{is_some, nat_eq}
use Rattle.std.specs.Borrow.{Bor}
use Rattle.model_value.specs.Plain.{PlainValue, nil}
use Rattle.model_value.specs.View.{plain_values}
use Rattle.model_solved.specs.declared.solved.Solved.{Solved}
use Rattle.model_solved.specs.Founding.{founding_of}
use Rattle.model_eval.specs.Arguments.{one_or_both}
use Rattle.world.proofs.FirstMessages.{first-none, first-some}
use Rattle.world.proofs.Texts.{init-chars}
use Rattle.world.proofs.opening.first_message.Goals as goal

pub returns-in_default : goal.returns-in_default
returns-in_default c =
    first-none (founding_of c.args.program.now) c.root-class.result c.root-class.ensures c.program-program.ensures.faultless c.in_ok-init.init (c.in_ok-init.ensures.characters ∙ init-chars)
    c.method.result c.method.ensures (ap (λ (found : Option (Bor Solved)). is_some found) c.in_default.is)

pub returns : goal.returns
returns c =
    first-some (founding_of c.args.program.now) c.root-class.result c.root-class.ensures c.program-program.ensures.faultless c.in_ok-init.init (c.in_ok-init.ensures.characters ∙ init-chars)
    c.in-Some.method (plain_values c.in_ok-args.args) (rw c.in-Some.is at c.method.ensures)
    (c.in_ok-args.ensures ∙ ap (λ (v : PlainValue). one_or_both (nat_eq c.in-Some.method.now.params 2) nil v) c.persisted.ensures.value)
