use Rattle.std.proofs.Common.{◌+◌, List, set, sym, ap, subst, ◌∙◌, arith}
use Rattle.std.specs.Prelude.{⊤}
use Rattle.std.proofs.lemmas.Bool.{leb-true}
use Rattle.model_value.specs.Plain.{PlainValue, weight}
use Rattle.model_value.specs.View.{plain}
use Rattle.world_plain.specs.Valid.{object_at}
use Rattle.world_plain.specs.World.{ObjectRecord, world_weight, most_world_weight}
use Rattle.object_store.specs.Store.{StoreRecord}
use Rattle.world_state.specs.Running.{Outcome, Gives}
use Rattle.world_state.specs.Objects.{with_objects, with_fields}
use Rattle.world_state.specs.Answer.{Did, running, world_of}
use Rattle.world_state.proofs.Fields.{with_fields-absent, with_fields-kept, weight-with_fields, field-weight, with_field-is, is_there, has_field, put-as, put-heavy, put-light, le-beside}
use Rattle.world_state.proofs.objects.set_slot.Goals as goal

pub returns-in-None : goal.returns-in-None
returns-in-None c = λ budget.
    let r = running c.args.state.now budget in
    let os = r.world.objects in
    let absent = with_fields-absent os c.args.object c.args.slot (plain c.args.value) (sym c.in-None.ensures.value) in
    let same = put-as (object_at os c.args.object) c.args.object (λ (fields : List PlainValue). fields) (λ (fields : List PlainValue). set fields c.args.slot (plain c.args.value)) r (with_fields-kept os c.args.object ∙ sym absent) in
    subst (λ (meant : Outcome ⊤). Did c.keep_fields.result c.args.state.now budget meant) same (c.keep_fields.ensures budget)

pub returns-then-not-has_room_in_place : goal.returns-then-not-has_room_in_place
returns-then-not-has_room_in_place c = λ budget.
    let r = running c.args.state.now budget in
    let os = r.world.objects in
    let held = plain c.in-Some.held.now in
    let weighs = weight-with_fields os c.args.object c.args.slot held (plain c.args.value) (sym c.in-Some.ensures.value) in
    let told = le-beside (world_weight (with_objects r (with_fields c.args.object (λ fields. set fields c.args.slot (plain c.args.value)) os)).world) most_world_weight (world_weight (world_of c.args.state.now) + weight (plain c.args.value)) (weight held) (omega (arith, weighs)) in
    put-heavy (object_at os c.args.object) c.args.object (λ (fields : List PlainValue). set fields c.args.slot (plain c.args.value)) r
    (is_there _ _ _ (sym c.in-Some.ensures.value)) (told ∙ sym c.has_room_in_place.ensures ∙ c.if-not-has_room_in_place.true)

pub set-requires-clause-field : goal.set-requires-clause-field
set-requires-clause-field c = has_field (object_at c.args.state.now.objects.objects c.args.object) c.args.slot (plain c.in-Some.held.now) (sym c.in-Some.ensures.value)

pub set-requires-clause-light : goal.set-requires-clause-light
set-requires-clause-light c =
    let os = c.args.state.now.objects.objects in
    let before = field-weight os c.args.object c.args.slot (plain c.in-Some.held.now) (sym c.in-Some.ensures.value) in
    omega (arith, before, leb-true _ _ (sym c.has_room_in_place.ensures ∙ c.if-not-has_room_in_place.false))

pub returns-else-not-has_room_in_place : goal.returns-else-not-has_room_in_place
returns-else-not-has_room_in_place c = λ budget.
    let r = running c.args.state.now budget in
    let os = r.world.objects in
    let held = plain c.in-Some.held.now in
    let weighs = weight-with_fields os c.args.object c.args.slot held (plain c.args.value) (sym c.in-Some.ensures.value) in
    let told = le-beside (world_weight (with_objects r (with_fields c.args.object (λ fields. set fields c.args.slot (plain c.args.value)) os)).world) most_world_weight (world_weight (world_of c.args.state.now) + weight (plain c.args.value)) (weight held) (omega (arith, weighs)) in
    put-light (object_at os c.args.object) c.args.object (λ (fields : List PlainValue). set fields c.args.slot (plain c.args.value)) r
    (is_there _ _ _ (sym c.in-Some.ensures.value)) (told ∙ sym c.has_room_in_place.ensures ∙ c.if-not-has_room_in_place.false)
    ∙ ap (λ (os : List ObjectRecord). Gives tt (with_objects r os)) (sym (with_field-is os c.args.object c.args.slot (plain c.args.value)))
    ∙ ap (λ (s : StoreRecord). Gives tt (running (record (c.args.state.now) { objects = s }) budget)) (sym c.set.ensures)
