-- Objects: their fields, how one is made and taken away, and the names by which they are known; and the saved value.
use Rattle.std.specs.Prelude.{ℕ, ◌+◌, Bool, not, nat_eq, nat_lt, nat_le, if◌then◌else◌, ◌&&◌, List, [], ◌∷◌, ◌++◌, length, replicate, bytes_eq, Option, Some, None, is_some, slice_index_or, slice_set, ⊤}
use Rattle.std.specs.List.{filter}
use Rattle.model_value.specs.Plain.{PlainValue, nil, ref}
use Rattle.world_plain.specs.World.{ObjectRecord, WorldRecord, object_weight, world_weight, most_world_weight}
use Rattle.world_plain.specs.Valid.{object_at, most_objects}
use Rattle.world_plain.specs.ValidTest.{can_be_saved}
use Rattle.world_plain.specs.declared.world.Known.{Known}
use Rattle.object_store.specs.Store.{last_object_id}
use Rattle.known_names.specs.Names.{with_known}
use Rattle.model_tree.specs.Tree.{Name}
use Rattle.world_state.specs.declared.fault.Fault.TheVariants.{BadKind, NoObject, Full}
use Rattle.world_state.specs.Running.{Running, with_world, Outcome, Gives, Faults, PureOutcome, value, fails, give_pure}

-- ---- fields

-- the value beside a name
abbrev pub value_named : Name → List Name → List PlainValue → PlainValue
value_named x (y ∷ ys) (v ∷ vs) = if bytes_eq x y then v else value_named x ys vs
value_named x _ _ = nil

-- the values with another one beside a name
abbrev pub with_named : Name → PlainValue → List Name → List PlainValue → List PlainValue
with_named x new (y ∷ ys) (v ∷ vs) = if bytes_eq x y then new ∷ vs else v ∷ with_named x new ys vs
with_named x new _ vs = vs

abbrev pub get_named : Option ObjectRecord → Name → List Name → Running → Outcome PlainValue
get_named None x names r = Faults NoObject r
get_named (Some o) x names r = Gives (value_named x names o.fields) r

-- the objects with other fields in the one of this number
abbrev pub with_fields : ℕ → (List PlainValue → List PlainValue) → List ObjectRecord → List ObjectRecord
with_fields id change [] = []
with_fields id change (o ∷ os) =
    if nat_eq o.id id then record o { fields = change o.fields } ∷ os else o ∷ with_fields id change os

abbrev pub with_objects : Running → List ObjectRecord → Running
with_objects r objects = with_world r (record (r.world) { objects = objects })

-- unless the world becomes too heavy
abbrev pub if_light : {A : Type 0} → A → Running → Running → Outcome A
if_light a r changed = if nat_le (world_weight changed.world) most_world_weight then Gives a changed else Faults Full r

abbrev pub put_fields : Option ObjectRecord → ℕ → (List PlainValue → List PlainValue) → Running → Outcome ⊤
put_fields None id change r = Faults NoObject r
put_fields (Some o) id change r = if_light tt r (with_objects r (with_fields id change r.world.objects))

-- ---- fields by their places

-- what the field at a place holds, nil where the object has no such field
abbrev pub slot_value : Option ObjectRecord → ℕ → PureOutcome
slot_value None slot = fails NoObject
slot_value (Some o) slot = value (slice_index_or o.fields slot nil)

abbrev pub get_slot : ℕ → ℕ → Running → Outcome PlainValue
get_slot object slot r = give_pure (slot_value (object_at r.world.objects object) slot) r

-- the same object with another value there, where it has such a field
abbrev pub set_slot : ℕ → ℕ → PlainValue → Running → Outcome ⊤
set_slot object slot v r = put_fields (object_at r.world.objects object) object (λ fields. slice_set fields slot v) r

-- ---- making one

-- an object of a class of this number, with so many fields
abbrev pub new_object : ℕ → ℕ → WorldRecord → ObjectRecord
new_object class fields w = record { id = w.next_object; class = class; fields = replicate fields nil }

abbrev pub has_room_for : WorldRecord → ObjectRecord → Bool
has_room_for w o = nat_lt (length w.objects) most_objects && nat_lt w.next_object last_object_id
    && nat_le (world_weight w + object_weight o) most_world_weight

abbrev pub with_object : WorldRecord → ObjectRecord → WorldRecord
with_object w o = record w { objects = w.objects ++ o ∷ []; next_object = w.next_object + 1 }

-- the id of a new object, which is held from then on
abbrev pub make_object : ℕ → ℕ → Running → Outcome ℕ
make_object class fields r =
    let o = new_object class fields r.world in
    if has_room_for r.world o then Gives o.id (with_world r (with_object r.world o)) else Faults Full r

-- ---- taking one away

-- the world without an object, its subscriptions, its pending messages and its known names
abbrev pub without_object : ℕ → WorldRecord → WorldRecord
without_object id w = record w {
  objects = filter (λ o. not (nat_eq o.id id)) w.objects;
  known = filter (λ k. not (nat_eq k.object id)) w.known;
  subscriptions = filter (λ s. not (nat_eq s.object id)) w.subscriptions;
  pending = filter (λ m. not (nat_eq m.object id)) w.pending;
}

abbrev pub is_held : ℕ → WorldRecord → Bool
is_held id w = is_some (object_at w.objects id)

abbrev pub destroy : ℕ → Running → Outcome PlainValue
destroy id r = if is_held id r.world then Gives nil (with_world r (without_object id r.world)) else Faults NoObject r

-- ---- known names

-- the object that is known by a name, or nil
abbrev pub known_by : Name → List Known → PlainValue
known_by x [] = nil
known_by x (k ∷ ks) = if bytes_eq x k.name then ref k.object else known_by x ks

abbrev pub make_known : ℕ → Name → Running → Outcome PlainValue
make_known object x r =
    if is_held object r.world then if_light nil r
    (with_world r (record (r.world) { known = with_known x object r.world.known }))
    else Faults NoObject r

-- ---- the saved value

-- a value that can be saved becomes the saved one, in place of any other, if the world stays light; a value of a program is in bounds, so one
-- that cannot be saved holds an object
abbrev pub persist : PlainValue → Running → Outcome PlainValue
persist v r = if can_be_saved v then if_light nil r (with_world r (record (r.world) { saved = v }))
    else Faults BadKind r
