use Rattle.std.proofs.Common.{rules, ◌≡◌, ◌∙◌, []}
use Rattle.std.specs.Prelude.{Err}
use Rattle.std.specs.Arc.{arc_value}
use Rattle.croquet_page.proofs.Openings.{founded_from, refuses_program}
use Rattle.croquet_page.proofs.opening.program_to_share.Goals as goal

pub returns-in-Ok-clause-ok : goal.returns-in-Ok-clause-ok
returns-in-Ok-clause-ok c =
    founded_from c.args.text.now c.in_ok-checked.checked (arc_value c.in-Ok.shared) (c.in-Ok.ensures.ok ∙ c.without_value-founded.ensures) (c.in_ok-checked.ensures [] 0)

pub returns-in_err-checked-clause-err : goal.returns-in_err-checked-clause-err
returns-in_err-checked-clause-err c name view =
    let is : c.from_residual.result ≡ Err c.in_err-checked.field-0.0 = search rules in
    refuses_program c.from_residual.result c.in_err-checked.field-0.0 c.args.text.now name view is (c.in_err-checked.ensures name view)
