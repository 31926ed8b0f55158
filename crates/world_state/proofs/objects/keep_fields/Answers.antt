use Rattle.std.proofs.Common.{◌≡◌, List, sym, ap, ◌∙◌}
use Rattle.std.specs.Prelude.{nat_le, is_some}
use Rattle.model_value.specs.Plain.{PlainValue}
use Rattle.world_plain.specs.Valid.{object_at}
use Rattle.world_plain.specs.World.{ObjectRecord, world_weight, most_world_weight}
use Rattle.world_state.specs.Running.{Gives}
use Rattle.world_state.specs.Objects.{with_objects}
use Rattle.world_state.specs.Answer.{running, world_of}
use Rattle.world_state.proofs.Fields.{with_fields-kept, put-heavy, put-light, room-tells}
use Rattle.world_state.proofs.objects.keep_fields.Goals as goal

pub returns-then-is_none : goal.returns-then-is_none
returns-then-is_none c = λ budget.
    let r = running c.args.state.now budget in
    let kept = ap (λ (os : List ObjectRecord). nat_le (world_weight (with_objects r os).world) most_world_weight) (with_fields-kept r.world.objects c.args.object) in
    let told : is_some c.room.result ≡ nat_le (world_weight (world_of c.args.state.now)) most_world_weight = room-tells c.room.result most_world_weight (world_weight (world_of c.args.state.now)) c.room.ensures in
    put-heavy (object_at r.world.objects c.args.object) c.args.object (λ (fields : List PlainValue). fields) r (sym c.holds.ensures ∙ c.if-not-holds.false) (kept ∙ sym told ∙ c.if-is_none.ensures)

pub returns : goal.returns
returns c = λ budget.
    let r = running c.args.state.now budget in
    let kept = with_fields-kept r.world.objects c.args.object in
    let light = ap (λ (os : List ObjectRecord). nat_le (world_weight (with_objects r os).world) most_world_weight) kept in
    let told : is_some c.room.result ≡ nat_le (world_weight (world_of c.args.state.now)) most_world_weight = room-tells c.room.result most_world_weight (world_weight (world_of c.args.state.now)) c.room.ensures in
    put-light (object_at r.world.objects c.args.object) c.args.object (λ (fields : List PlainValue). fields) r (sym c.holds.ensures ∙ c.if-not-holds.false) (light ∙ sym told ∙ c.if-is_none.ensures)
    ∙ ap (λ (os : List ObjectRecord). Gives tt (with_objects r os)) kept
