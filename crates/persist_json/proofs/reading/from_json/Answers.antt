use Rattle.std.proofs.Common.{◌≡◌, false, sym, subst, rules, arith}
use Rattle.std.proofs.lemmas.Grind.{common_steps}
use Rattle.serde_json.specs.View.{view}
use Rattle.model_value.specs.Plain.{InBounds}
use Rattle.model_value.specs.View.{plain}
use Rattle.persist_json.specs.ReadAs.{has_value}
use Rattle.persist_json.proofs.Readings.{read-one, read-none}
use Rattle.persist_json.proofs.reading.from_json.Goals as goal

pub returns-in_err-value-clause-bad : goal.returns-in_err-value-clause-bad
returns-in_err-value-clause-bad c = λ e value of_it.
    let none : has_value (view c.in_ok-data.data) ≡ false = first_of (search rules, grind (arith, common_steps)) in
    read-none c.args.text.now (view c.in_ok-data.data) value c.in_ok-data.ensures.read none of_it

pub returns-then-not-in_bounds-clause-bad : goal.returns-then-not-in_bounds-clause-bad
returns-then-not-in_bounds-clause-bad c = λ e value of_it.
    let read = plain c.in_ok-value.value in
    let is = read-one c.args.text.now (view c.in_ok-data.data) read value c.in_ok-data.ensures.read c.in_ok-value.ensures.read of_it in
    let fits : InBounds read = subst InBounds (sym is) of_it.fit.0 in
    let held = c.in_bounds.ensures.1 fits in
    grind (arith, common_steps, held)

pub returns-clause-only : goal.returns-clause-only
returns-clause-only c = λ value of_it.
    read-one c.args.text.now (view c.in_ok-data.data) (plain c.in_ok-value.value) value c.in_ok-data.ensures.read c.in_ok-value.ensures.read of_it
