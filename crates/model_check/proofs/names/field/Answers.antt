use Rattle.model_solved.specs.declared.fault.CheckFault.TheVariants.{NoField}
use Rattle.model_check.proofs.Places.{place_found, place_missing_told}
use Rattle.model_check.proofs.names.field.Goals as goal

pub returns-in-Some : goal.returns-in-Some
returns-in-Some c = place_found c.args.fields.now c.args.name.now (NoField c.args.name.now) c.in-Some.slot c.in-Some.ensures.first

pub returns-in_ok-try_clone-in-None : goal.returns-in_ok-try_clone-in-None
returns-in_ok-try_clone-in-None c = λ _. place_missing_told c.args.fields.now c.args.name.now c.in_ok-try_clone-in-None.field-0 (λ x. NoField x) c.in-None.ensures.first c.in_ok-try_clone-in-None.ensures
