use Rattle.std.proofs.Common.{◌≡◌, ◌≤◌, ℕ, true, false, List, sym, ap₂, subst, refl, ◌∙◌, arith}
use Rattle.std.specs.Prelude.{nat_le}
use Rattle.std.proofs.lemmas.Bool.{leb-true}
use Rattle.model_value.specs.Plain.{PlainValue, nil}
use Rattle.world_plain.specs.World.{known_weight, total_weight, world_weight, most_world_weight}
use Rattle.world_plain.specs.declared.world.Known.{Known}
use Rattle.known_names.specs.Names.{with_known}
use Rattle.model_tree.specs.Tree.{Name}
use Rattle.world_state.specs.Running.{Running, Gives, Faults, with_world}
use Rattle.world_state.specs.Objects.{is_held, make_known}
use Rattle.world_state.specs.declared.fault.Fault.TheVariants.{Full}
use Rattle.world_state.specs.Answer.{running}
use Rattle.world_state.proofs.PlainLaws.{plain-Nil}
use Rattle.world_state.proofs.known.be_known.Goals as goal

-- a world that would become too heavy by the name, and one that would not, where a copy of the name is kept
heavy : (object : ℕ) (x : Name) (r : Running) → is_held object r.world ≡ true → nat_le (world_weight (record (r.world) { known = with_known x object r.world.known })) most_world_weight ≡ false → make_known object x r ≡ Faults Full r
heavy object x r held over = rw (held, over) refl

light : (object : ℕ) (x copy : Name) (r : Running) → copy ≡ x → is_held object r.world ≡ true → nat_le (world_weight (record (r.world) { known = with_known x object r.world.known })) most_world_weight ≡ true
    → make_known object x r ≡ Gives nil (with_world r (record (r.world) { known = with_known copy object r.world.known }))
light object x copy r is held fits =
    subst (λ (y : Name). make_known object x r ≡ Gives nil (with_world r (record (r.world) { known = with_known y object r.world.known }))) (sym is) (rw (held, fits) refl)

pub returns-then-not-has_room_for_name : goal.returns-then-not-has_room_for_name
returns-then-not-has_room_for_name c = λ budget.
    heavy c.args.object c.args.name.now (running c.args.state.now budget) (sym c.is_held.ensures ∙ c.if-not-is_held.false) (sym (c.has_room_for_name.ensures c.args.object) ∙ c.if-not-has_room_for_name.true)

pub set-requires : goal.set-requires
set-requires c =
    let object = c.args.object in
    let names = c.args.state.now.known in
    let fits : total_weight known_weight (with_known c.args.name.now object names) ≤ most_world_weight = omega (arith, leb-true _ _ (sym (c.has_room_for_name.ensures object) ∙ c.if-not-has_room_for_name.false)) in
    subst (λ (y : Name). total_weight known_weight (with_known y object names) ≤ most_world_weight) (sym c.in_ok-try_clone.ensures) fits

pub returns : goal.returns
returns c = λ budget.
    let r = running c.args.state.now budget in
    light c.args.object c.args.name.now c.in_ok-try_clone.field-0 r c.in_ok-try_clone.ensures (sym c.is_held.ensures ∙ c.if-not-is_held.false) (sym (c.has_room_for_name.ensures c.args.object) ∙ c.if-not-has_room_for_name.false)
    ∙ ap₂ (λ (v : PlainValue) (ks : List Known). Gives v (with_world r (record (r.world) { known = ks }))) (sym plain-Nil) (sym c.in_ok-set.ensures.ok)
