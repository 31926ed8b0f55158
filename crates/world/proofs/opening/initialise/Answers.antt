use Rattle.std.proofs.Common.{◌∙◌, Option, Some, ap}
use Rattle.model_value.specs.Plain.{PlainValue, nil}
use Rattle.model_value.specs.View.{plain_values}
use Rattle.std.specs.Prelude.{is_some, nat_eq}
use Rattle.std.specs.Borrow.{Bor}
use Rattle.model_solved.specs.declared.solved.Solved.{Solved}
use Rattle.model_solved.specs.Founding.{founding_of}
use Rattle.model_eval.specs.Arguments.{one_or_both}
use Rattle.world.specs.View.{scene}
use Rattle.world.proofs.Initial.{without-init, with-init}
use Rattle.world.proofs.Texts.{init-chars}
use Rattle.world.proofs.opening.initialise.Goals as goal

pub returns-in_default : goal.returns-in_default
returns-in_default c = λ root e.
    without-init c.method.result (founding_of c.args.program.now) c.args.class c.in_ok-init.init root (scene c.args.state.now) c.method.ensures e (ap (λ (found : Option (Bor Solved)). is_some found) c.in_default.is)
    (c.in_ok-init.ensures.characters ∙ init-chars)

pub returns : goal.returns
returns c = λ root e.
    let given = c.in_ok-args.ensures ∙ ap (λ (v : PlainValue). one_or_both (nat_eq c.in-Some.method.now.params 2) nil v) c.persisted.ensures.value in
    with-init c.run.result c.in-Some.method (founding_of c.args.program.now) c.args.class c.in_ok-init.init root (plain_values c.in_ok-args.args) (scene c.args.state.now) (scene c.run.new.state) (rw c.in-Some.is at c.method.ensures) e
    (c.in_ok-init.ensures.characters ∙ init-chars) given c.run.ensures
