-- Fields of objects, and what objects weigh with one of theirs changed.
use Rattle.std.proofs.Common.{◌≡◌, ℕ, zero, suc, ◌+◌, ◌<◌, ◌≤◌, Bool, true, false, List, [], ◌∷◌, set, Option, Some, None, refl, sym, ap, ◌∙◌, ⊎_elim, arith}
use Rattle.std.specs.Prelude.{nat_eq, nat_le, is_some, slice_get, slice_index_or, Result, Ok, Err, if◌then◌else◌}
use Rattle.std.proofs.lemmas.Bool.{false≢true, lt-leb, le-leb, cases_lt}
use Rattle.std.proofs.lemmas.Option.{none-some, same_Some, slice_get_within}
use Rattle.model_value.specs.Plain.{PlainValue, nil, weight, values_weight}
use Rattle.model_value.specs.Room.{IsRoomBehind}
use Rattle.world_plain.specs.Valid.{object_at, if_same}
use Rattle.world_plain.specs.World.{ObjectRecord, object_weight, total_weight, world_weight, most_world_weight}
use Rattle.object_store.specs.Store.{with_field, field_of, class_of, HasField}
use Rattle.model_value.specs.declared.value.Value.{Value}
use Rattle.world_state.specs.declared.fault.Fault.TheVariants.{Full}
use Rattle.world_state.specs.Running.{Running, Gives, Faults, value, fails}
use Rattle.world_state.specs.declared.fault.EvalStop.{EvalStop}
use Rattle.world_state.specs.declared.fault.EvalStop.TheVariants.{Fault, WantOfMemory}
use Rattle.world_state.specs.Answer.{MissesField, Replies}
use Rattle.world_state.specs.Objects.{slot_value, with_fields, with_objects, if_light, put_fields}

-- ---- a field of an object

set_absent : (vs : List PlainValue) (k : ℕ) (v : PlainValue) → slice_get vs k ≡ None → set vs k v ≡ vs
set_absent [] k v e = refl
set_absent (w ∷ vs) zero v e = absurd (none-some w (sym e))
set_absent (w ∷ vs) (suc k) v e = ap (λ (rest : List PlainValue). w ∷ rest) (set_absent vs k v e)

absent_if : (same : Bool) (k : ℕ) (v : PlainValue) (o : ObjectRecord) (os changed : List ObjectRecord) (found : Option ObjectRecord) → field_of (if_same same o found) k ≡ None → (field_of found k ≡ None → changed ≡ os)
    → (if same then record o { fields = set o.fields k v } ∷ os else o ∷ changed) ≡ o ∷ os
absent_if true k v o os changed found e later = ap (λ (fields : List PlainValue). record { id = o.id; class = o.class; fields = fields } ∷ os) (set_absent o.fields k v e)
absent_if false k v o os changed found e later = ap (λ (rest : List ObjectRecord). o ∷ rest) (later e)

-- one that is not there
pub with_fields-absent : (os : List ObjectRecord) (id k : ℕ) (v : PlainValue) → field_of (object_at os id) k ≡ None → with_fields id (λ fields. set fields k v) os ≡ os
with_fields-absent [] id k v e = refl
with_fields-absent (o ∷ os) id k v e =
    absent_if (nat_eq o.id id) k v o os (with_fields id (λ fields. set fields k v) os) (object_at os id) e (with_fields-absent os id k v)

kept_if : (same : Bool) (o : ObjectRecord) (os changed : List ObjectRecord) → changed ≡ os → (if same then o ∷ os else o ∷ changed) ≡ o ∷ os
kept_if true o os changed e = refl
kept_if false o os changed e = ap (λ (rest : List ObjectRecord). o ∷ rest) e

-- fields that stay
pub with_fields-kept : (os : List ObjectRecord) (id : ℕ) → with_fields id (λ fields. fields) os ≡ os
with_fields-kept [] id = refl
with_fields-kept (o ∷ os) id = kept_if (nat_eq o.id id) o os (with_fields id (λ fields. fields) os) (with_fields-kept os id)

-- one that is set
pub with_field-is : (os : List ObjectRecord) (id k : ℕ) (v : PlainValue) → with_field id k v os ≡ with_fields id (λ fields. set fields k v) os
with_field-is [] id k v = refl
with_field-is (o ∷ os) id k v =
    ap (λ (rest : List ObjectRecord). if nat_eq o.id id then record o { fields = set o.fields k v } ∷ os else o ∷ rest) (with_field-is os id k v)

weight-set : (vs : List PlainValue) (k : ℕ) (old v : PlainValue) → slice_get vs k ≡ Some old → values_weight (set vs k v) + weight old ≡ values_weight vs + weight v
weight-set [] k old v e = absurd (none-some old e)
weight-set (w ∷ vs) zero old v e = omega (arith, ap weight (same_Some w old e))
weight-set (w ∷ vs) (suc k) old v e = omega (arith, weight-set vs k old v e)

weight_if : (same : Bool) (k : ℕ) (old v : PlainValue) (o : ObjectRecord) (os changed : List ObjectRecord) (found : Option ObjectRecord) → field_of (if_same same o found) k ≡ Some old
    → (field_of found k ≡ Some old → total_weight object_weight changed + weight old ≡ total_weight object_weight os + weight v)
    → total_weight object_weight (if same then record o { fields = set o.fields k v } ∷ os else o ∷ changed) + weight old ≡ total_weight object_weight (o ∷ os) + weight v
weight_if true k old v o os changed found e later = omega (arith, weight-set o.fields k old v e)
weight_if false k old v o os changed found e later = omega (arith, later e)

-- it weighs in place of what it held
pub weight-with_fields : (os : List ObjectRecord) (id k : ℕ) (old v : PlainValue) → field_of (object_at os id) k ≡ Some old
    → total_weight object_weight (with_fields id (λ fields. set fields k v) os) + weight old ≡ total_weight object_weight os + weight v
weight-with_fields [] id k old v e = absurd (none-some old e)
weight-with_fields (o ∷ os) id k old v e =
    weight_if (nat_eq o.id id) k old v o os (with_fields id (λ fields. set fields k v) os) (object_at os id) e (weight-with_fields os id k old v)

weight_held : (vs : List PlainValue) (k : ℕ) (v : PlainValue) → slice_get vs k ≡ Some v → weight v ≤ values_weight vs
weight_held [] k v e = absurd (none-some v e)
weight_held (w ∷ vs) zero v e = omega (arith, ap weight (same_Some w v e))
weight_held (w ∷ vs) (suc k) v e = omega (arith, weight_held vs k v e)

held_if : (same : Bool) (k : ℕ) (v : PlainValue) (o : ObjectRecord) (os : List ObjectRecord) (found : Option ObjectRecord) → field_of (if_same same o found) k ≡ Some v → (field_of found k ≡ Some v → weight v ≤ total_weight object_weight os)
    → weight v ≤ total_weight object_weight (o ∷ os)
held_if true k v o os found e later = omega (arith, weight_held o.fields k v e)
held_if false k v o os found e later = omega (arith, later e)

-- what a field holds is no heavier than all objects
pub field-weight : (os : List ObjectRecord) (id k : ℕ) (v : PlainValue) → field_of (object_at os id) k ≡ Some v → weight v ≤ total_weight object_weight os
field-weight [] id k v e = absurd (none-some v e)
field-weight (o ∷ os) id k v e = held_if (nat_eq o.id id) k v o os (object_at os id) e (field-weight os id k v)

absent_index : (vs : List PlainValue) (k : ℕ) → slice_get vs k ≡ None → slice_index_or vs k nil ≡ nil
absent_index [] k e = refl
absent_index (w ∷ vs) zero e = absurd (none-some w (sym e))
absent_index (w ∷ vs) (suc k) e = absent_index vs k e

-- what is told of a field that is not there is what it holds
pub absent-replies : (result : Result Value EvalStop) (found : Option ObjectRecord) (k : ℕ) → field_of found k ≡ None → MissesField result found → Replies result (slot_value found k)
absent-replies (Ok v) None k e h = absurd (false≢true h.1)
absent-replies (Ok v) (Some o) k e h = ap value (absent_index o.fields k e ∙ sym h.0)
absent-replies (Err (Fault f)) found k e h = ap (λ (o : Option ObjectRecord). slot_value o k) h.1 ∙ ap fails (sym h.0)
absent-replies (Err WantOfMemory) found k e h = absurd h

pub has_field : (found : Option ObjectRecord) (k : ℕ) (v : PlainValue) → field_of found k ≡ Some v → HasField found k
has_field None k v e = none-some v e
has_field (Some o) k v e = slice_get_within o.fields k v e

pub is_there : (found : Option ObjectRecord) (k : ℕ) (v : PlainValue) → field_of found k ≡ Some v → is_some found ≡ true
is_there None k v e = absurd (none-some v e)
is_there (Some o) k v e = refl

-- the class of an object that is there
pub class_of-is : (found : Option ObjectRecord) (class : ℕ) → class_of found ≡ Some class → (o : ObjectRecord) × (found ≡ Some o) × (o.class ≡ class)
class_of-is None class e = absurd (none-some class e)
class_of-is (Some o) class e = (o, refl, same_Some o.class class e)

-- ---- weights

pub heavy : (left : Option ℕ) (most weight : ℕ) → is_some left ≡ false → IsRoomBehind left most weight → most < weight
heavy None most weight is h = h
heavy (Some x) most weight is h = absurd (false≢true (sym is))

-- a field of an object that is there is put, if the world stays light
pub put-heavy : (found : Option ObjectRecord) (id : ℕ) (change : List PlainValue → List PlainValue) (r : Running) → is_some found ≡ true
    → nat_le (world_weight (with_objects r (with_fields id change r.world.objects)).world) most_world_weight ≡ false → put_fields found id change r ≡ Faults Full r
put-heavy None id change r there heavy = absurd (false≢true there)
put-heavy (Some o) id change r there heavy = rw heavy refl

pub put-light : (found : Option ObjectRecord) (id : ℕ) (change : List PlainValue → List PlainValue) (r : Running) → is_some found ≡ true
    → nat_le (world_weight (with_objects r (with_fields id change r.world.objects)).world) most_world_weight ≡ true → put_fields found id change r ≡ Gives tt (with_objects r (with_fields id change r.world.objects))
put-light None id change r there light = absurd (false≢true there)
put-light (Some o) id change r there light = rw light refl

-- changes that come to the same objects are put alike
pub put-as : (found : Option ObjectRecord) (id : ℕ) (f g : List PlainValue → List PlainValue) (r : Running) → with_fields id f r.world.objects ≡ with_fields id g r.world.objects → put_fields found id f r ≡ put_fields found id g r
put-as None id f g r e = refl
put-as (Some o) id f g r e = ap (λ (os : List ObjectRecord). if_light tt r (with_objects r os)) e

pub room-tells : (left : Option ℕ) (most weight : ℕ) → IsRoomBehind left most weight → is_some left ≡ nat_le weight most
room-tells None most weight h = sym (lt-leb weight most h)
room-tells (Some x) most weight h = sym (le-leb weight most (omega (arith, h)))

-- a test of a sum, as one with a further weight on each side
pub le-beside : (p q m n : ℕ) → p + n ≡ m → nat_le p q ≡ nat_le m (q + n)
le-beside p q m n e =
    ⊎_elim (λ over. lt-leb p q over ∙ sym (lt-leb m (q + n) (omega (arith, over, e)))) (λ fits. le-leb p q fits ∙ sym (le-leb m (q + n) (omega (arith, fits, e)))) (cases_lt q p)
