use Rattle.std.proofs.Common.{◌∙◌, ap}
use Rattle.std.specs.Prelude.{is_some}
use Rattle.model_solved.specs.Founding.{checked_tree}
use Rattle.model_eval.proofs.InitLaws.{init-known}
use Rattle.model_eval.proofs.methods.init_of.Goals as goal

pub returns-in-None : goal.returns-in-None
returns-in-None c = λ k e.
    init-known c.method.result (checked_tree c.args.program.now) c.args.class c.in_ok-init.init k c.in_ok-init.ensures c.method.ensures e ∙ ap (λ found. is_some found) c.in-None.is

pub returns-in-Some : goal.returns-in-Some
returns-in-Some c = λ k e.
    (c.in_ok-init.ensures, init-known c.method.result (checked_tree c.args.program.now) c.args.class c.in_ok-init.init k c.in_ok-init.ensures c.method.ensures e ∙ ap (λ found. is_some found) c.in-Some.is)
