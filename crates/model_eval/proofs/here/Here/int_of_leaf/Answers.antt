use Rattle.std.proofs.Common.{◌≡◌, sym, subst, ◌∙◌, rules}
use Rattle.std.specs.Prelude.{IfSome}
use Rattle.std.proofs.lemmas.Option.{IfSome_then}
use Rattle.model_solved.specs.declared.solved.SolvedExpr.{the_lemmas}
use Rattle.model_solved.specs.SolvedTree.{SolvedExpression, field}
use Rattle.model_solved.specs.SolvedView.{solved_expression}
use Rattle.model_value.specs.View.{plain_values}
use Rattle.model_eval.specs.Answer.{GivesInt}
use Rattle.model_eval.proofs.Leaves.{field_gives}
use Rattle.model_eval.proofs.here.Here.int_of_leaf.Goals as goal

pub returns-in-Field : goal.returns-in-Field
returns-in-Field c =
    let leaf : solved_expression c.args.leaf.now ≡ field c.in-Field.slot = rw c.in-Field.is (search (rules, the_lemmas)) in
    let locals = plain_values c.args.locals.now in
    subst (λ (e : SolvedExpression). IfSome c.held_int-in-Field.result (λ n. GivesInt c.args.state.now c.args.self.now.object e locals n)) (sym leaf)
    (IfSome_then c.held_int-in-Field.result c.held_int-in-Field.ensures (λ n is. field_gives c.args.state.now c.args.self.now.object c.in-Field.slot locals n (sym c.field.ensures.value ∙ is)))
