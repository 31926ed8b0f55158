use Rattle.std.proofs.Common.{map}
use Rattle.model_tree.specs.declared.tree.Class.{Class}
use Rattle.model_solved.specs.declared.fault.CheckFault.TheVariants.{NoClass}
use Rattle.model_check.proofs.Places.{place_found, place_missing_told}
use Rattle.model_check.proofs.names.class_number.Goals as goal

pub returns-in-Some : goal.returns-in-Some
returns-in-Some c = place_found (map (λ (k : Class). k.name) c.args.classes.now) c.args.name.now (NoClass c.args.name.now) c.in-Some.number c.in-Some.ensures

pub returns-in_ok-try_clone-in-None : goal.returns-in_ok-try_clone-in-None
returns-in_ok-try_clone-in-None c = λ _. place_missing_told (map (λ (k : Class). k.name) c.args.classes.now) c.args.name.now c.in_ok-try_clone-in-None.field-0 (λ x. NoClass x) c.in-None.ensures c.in_ok-try_clone-in-None.ensures
