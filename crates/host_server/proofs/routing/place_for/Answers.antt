use Rattle.std.proofs.Common.{Some, None, sym, ap, ◌∙◌, subst, ◌<◌, length, ℕ}
use Rattle.std.specs.Prelude.{unwrap_or}
use Rattle.host_server.proofs.Naming.{goes_named, within_named}
use Rattle.host_server.proofs.routing.place_for.Goals as goal

pub returns-in-None-clause-place : goal.returns-in-None-clause-place
returns-in-None-clause-place c = goes_named c.args.ids.now c.args.first.now None c.in-None.ensures

pub returns-in-Some-clause-place : goal.returns-in-Some-clause-place
returns-in-Some-clause-place c =
    c.unwrap_or.ensures ∙ (ap (λ o. unwrap_or o 0) c.place_in.ensures ∙ goes_named c.args.ids.now c.args.first.now (Some c.in-Some.id) c.in-Some.ensures)

pub returns-in-Some-clause-within : goal.returns-in-Some-clause-within
returns-in-Some-clause-within c =
    let is = c.unwrap_or.ensures ∙ (ap (λ o. unwrap_or o 0) c.place_in.ensures ∙ goes_named c.args.ids.now c.args.first.now (Some c.in-Some.id) c.in-Some.ensures) in
    subst (λ (n : ℕ). n < length c.args.ids.now) (sym is) (within_named c.args.ids.now c.args.first.now c.requires)
