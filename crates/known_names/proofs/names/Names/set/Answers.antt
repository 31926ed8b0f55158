use Rattle.std.proofs.Common.{◌≤◌, List, sym, subst, ◌∙◌, arith}
use Rattle.std.specs.Prelude.{Ok, Err}
use Rattle.world_plain.specs.World.{known_weight, total_weight, most_world_weight}
use Rattle.world_plain.specs.declared.world.Known.{Known}
use Rattle.known_names.specs.Names.{with_known}
use Rattle.known_names.specs.Places.{IsPlaceOf}
use Rattle.known_names.proofs.KnownWeights.{weight-known, weight-new}
use Rattle.known_names.proofs.Held.{with_one}
use Rattle.known_names.proofs.names.Names.set.Goals as goal

pub invariant_of-self : goal.invariant_of-self
invariant_of-self c =
    let x = c.args.known.name in
    let object = c.args.known.object in
    let ks = c.self.inside.names.items in
    let at : IsPlaceOf (Ok c.in-Ok.place) x ks = subst (IsPlaceOf (Ok c.in-Ok.place) x) c.deref.ensures.value c.in-Ok.ensures in
    let light : total_weight known_weight (with_known x object ks) ≤ most_world_weight = subst (λ (l : List Known). total_weight known_weight (with_known x object l) ≤ most_world_weight) (sym c.self.view_is) c.requires in
    with_one x object ks _ c.self.inside.weight c.self.inside.weight c.self.invariant light (sym (at.1 object)) (c.self.invariant.weight ∙ sym (weight-known x object ks c.in-Ok.place at))

pub overflow_add-self : goal.overflow_add-self
overflow_add-self c =
    let x = c.args.known.name in
    let object = c.args.known.object in
    let ks = c.self.inside.names.items in
    let at : IsPlaceOf (Err c.in-Err.place) x ks = subst (IsPlaceOf (Err c.in-Err.place) x) c.deref.ensures.value c.in-Err.ensures in
    let light : total_weight known_weight (with_known x object ks) ≤ most_world_weight = subst (λ (l : List Known). total_weight known_weight (with_known x object l) ≤ most_world_weight) (sym c.self.view_is) c.requires in
    omega (arith, light, weight-new x object ks c.in-Err.place at, c.self.invariant.weight, c.name_weight-added.ensures)

pub invariant_of-self-in-Err : goal.invariant_of-self-in-Err
invariant_of-self-in-Err c =
    let x = c.args.known.name in
    let object = c.args.known.object in
    let ks = c.self.inside.names.items in
    let at : IsPlaceOf (Err c.in-Err.place) x ks = subst (IsPlaceOf (Err c.in-Err.place) x) c.deref.ensures.value c.in-Err.ensures in
    let light : total_weight known_weight (with_known x object ks) ≤ most_world_weight = subst (λ (l : List Known). total_weight known_weight (with_known x object l) ≤ most_world_weight) (sym c.self.view_is) c.requires in
    with_one x object ks c.insert.new.self.items c.self.inside.weight _ c.self.invariant light (c.in_ok-insert-in-Err.ensures.items ∙ sym (at.2 object)) (omega (arith, weight-new x object ks c.in-Err.place at, c.self.invariant.weight, c.name_weight-added.ensures))
