use Rattle.std.proofs.Common.{◌<◌, length, refl, sym, ap, ◌∙◌, Some, rules}
use Rattle.object_store.specs.declared.object.Object.{Object}
use Rattle.object_store.specs.View.{object_seen}
use Rattle.object_store.proofs.Objects.{is_at, nowhere}
use Rattle.object_store.proofs.object.find.Goals as goal

pub returns-in_err-place : goal.returns-in_err-place
returns-in_err-place c =
    let none = nowhere c.args.id c.args.objects.now c.args.objects.now c.in_err-place.ensures refl in
    search (rules, none)

pub bounds-objects-place : goal.bounds-objects-place
bounds-objects-place c =
    (is_at c.args.id c.in_ok-place.place c.args.objects.now c.args.objects.now c.in_ok-place.ensures refl).inside

pub offset_bounds-objects-place : goal.offset_bounds-objects-place
offset_bounds-objects-place c =
    let inside : c.in_ok-place.place < length c.args.objects.now = bounds-objects-place c in
    search rules

pub returns : goal.returns
returns c =
    let at = is_at c.args.id c.in_ok-place.place c.args.objects.now c.args.objects.now c.in_ok-place.ensures refl in
    ap (λ (o : Object). Some (object_seen o)) c.index-objects-place.is ∙ sym (at.found c.index-objects-place.result)
