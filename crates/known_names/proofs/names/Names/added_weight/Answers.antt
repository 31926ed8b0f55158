use Rattle.std.proofs.Common.{subst, ◌∙◌, arith}
use Rattle.std.specs.Prelude.{Ok, Err}
use Rattle.known_names.specs.Places.{IsPlaceOf}
use Rattle.known_names.proofs.KnownWeights.{weight-known, weight-new}
use Rattle.known_names.proofs.names.Names.added_weight.Goals as goal

pub returns-in-Ok : goal.returns-in-Ok
returns-in-Ok c = λ object.
    let is = c.deref.ensures.value ∙ c.self.view_is in
    let at : IsPlaceOf (Ok c.in-Ok.field-0) c.args.name.now c.args.self.now = subst (IsPlaceOf (Ok c.in-Ok.field-0) c.args.name.now) is c.in-Ok.ensures in
    omega (arith, weight-known c.args.name.now object c.args.self.now c.in-Ok.field-0 at)

pub returns-in-Err : goal.returns-in-Err
returns-in-Err c = λ object.
    let is = c.deref.ensures.value ∙ c.self.view_is in
    let at : IsPlaceOf (Err c.in-Err.field-0) c.args.name.now c.args.self.now = subst (IsPlaceOf (Err c.in-Err.field-0) c.args.name.now) is c.in-Err.ensures in
    omega (arith, weight-new c.args.name.now object c.args.self.now c.in-Err.field-0 at, c.name_weight.ensures)
