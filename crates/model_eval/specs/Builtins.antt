-- What the builtins answer, by the object whose method calls them.
use Rattle.std.specs.Prelude.{ℕ, ◌/◌, ℤ, pos, negsuc, Bool, true, false, nat_eq, if◌then◌else◌, List, [], ◌∷◌, Option, Some, None}
use Rattle.hex.specs.Hex.{encode_lower}
use Rattle.model_value.specs.Plain.{PlainValue, bool, int, text, ref, weight}
use Rattle.model_solved.specs.declared.builtin.Builtin.{Builtin}
use Rattle.model_solved.specs.declared.builtin.Builtin.TheVariants as builtin
use Rattle.model_builtin.specs.declared.builtin.Pure.{Pure}
use Rattle.model_builtin.specs.declared.builtin.Pure.TheVariants as pure
use Rattle.model_builtin.specs.Builtins.{apply}
use Rattle.model_builtin.specs.Builtins as without_world
use Rattle.seeded_random.specs.Draw.{word_of, state_after, number_below}
use Rattle.world_state.specs.declared.fault.Fault.TheVariants.{BadKind, BadIndex, Size}
use Rattle.world_state.specs.Running.{Running, with_world, Outcome, Gives, Faults, spend, give_in_bounds, Start}
use Rattle.model_tree.specs.Tree.{ProgramTree}
use Rattle.world_state.specs.Objects.{is_held, destroy, known_by, make_known, persist}
use Rattle.model_eval.specs.Publishing.{publish, subscribe, unsubscribe, cancel, count_views, tell_views}

-- a number below this one; a word is drawn from the world's source
abbrev pub draw : ℤ → Running → Outcome PlainValue
draw (pos n) r =
    if nat_eq n 0 then Faults BadIndex r
    else Gives (int (pos (number_below n (word_of r.world.random))))
    (with_world r (record (r.world) { random = state_after r.world.random }))
draw (negsuc n) r = Faults BadIndex r

-- the builtins that need no world
abbrev pub pure_of : Builtin → Option Pure
pure_of builtin.Length = Some pure.Length
pure_of builtin.At = Some pure.At
pure_of builtin.Put = Some pure.Put
pure_of builtin.Push = Some pure.Push
pure_of builtin.Slice = Some pure.Slice
pure_of builtin.Concat = Some pure.Concat
pure_of builtin.Text = Some pure.Text
pure_of builtin.Number = Some pure.Number
pure_of builtin.Compare = Some pure.Compare
pure_of _ = None

-- those of them that take steps by the weight of their result
abbrev pub takes_steps : Pure → Bool
takes_steps pure.Put = true
takes_steps pure.Push = true
takes_steps pure.Slice = true
takes_steps pure.Concat = true
takes_steps pure.Text = true
takes_steps _ = false

-- what such a one gives
abbrev pub builtin_outcome : Bool → without_world.BuiltinReply → Running → Outcome PlainValue
builtin_outcome true (without_world.value v) r = spend (weight v) r (Gives v)
builtin_outcome false (without_world.value v) r = Gives v r
builtin_outcome costs without_world.bad_kind r = Faults BadKind r
builtin_outcome costs without_world.bad_index r = Faults BadIndex r
builtin_outcome costs without_world.too_large r = Faults Size r

abbrev pub pure_outcome : Option Pure → List PlainValue → Running → Outcome PlainValue
pure_outcome None args r = Faults BadKind r
pure_outcome (Some f) args r = builtin_outcome (takes_steps f) (apply f args) r

-- the arguments that a builtin takes: none, any one, one Int, one Text, three Texts, two Texts and a value, or one Ref
abbrev pub on_none : (Running → Outcome PlainValue) → List PlainValue → Running → Outcome PlainValue
on_none f [] r = f r
on_none f _ r = Faults BadKind r

abbrev pub on_any : (PlainValue → Running → Outcome PlainValue) → List PlainValue → Running → Outcome PlainValue
on_any f (v ∷ []) r = f v r
on_any f _ r = Faults BadKind r

abbrev pub on_int : (ℤ → Running → Outcome PlainValue) → List PlainValue → Running → Outcome PlainValue
on_int f (int n ∷ []) r = f n r
on_int f _ r = Faults BadKind r

abbrev pub on_text : (List ℕ → Running → Outcome PlainValue) → List PlainValue → Running → Outcome PlainValue
on_text f (text x ∷ []) r = f x r
on_text f _ r = Faults BadKind r

abbrev pub on_texts : (List ℕ → List ℕ → List ℕ → Running → Outcome PlainValue) → List PlainValue → Running
    → Outcome PlainValue
on_texts f (text x ∷ text y ∷ text z ∷ []) r = f x y z r
on_texts f _ r = Faults BadKind r

abbrev pub on_event : (List ℕ → List ℕ → PlainValue → Running → Outcome PlainValue) → List PlainValue → Running
    → Outcome PlainValue
on_event f (text x ∷ text y ∷ v ∷ []) r = f x y v r
on_event f _ r = Faults BadKind r

abbrev pub on_ref : (ℕ → Running → Outcome PlainValue) → List PlainValue → Running → Outcome PlainValue
on_ref f (ref id ∷ []) r = f id r
on_ref f _ r = Faults BadKind r

abbrev pub tell_time : Running → Outcome PlainValue
tell_time r = Gives (int (pos (r.world.time / 1000))) r

abbrev pub tell_id : Running → Outcome PlainValue
tell_id r = give_in_bounds (text (encode_lower r.world.id)) r

abbrev pub tell_known : List ℕ → Running → Outcome PlainValue
tell_known x r = Gives (known_by x r.world.known) r

abbrev pub tell_held : ℕ → Running → Outcome PlainValue
tell_held id r = Gives (bool (is_held id r.world)) r

-- what a builtin answers that starts no method, where a method of this object calls it
abbrev pub run_builtin_alone : Builtin → ℕ → List PlainValue → Running → Outcome PlainValue
run_builtin_alone builtin.Now object = on_none tell_time
run_builtin_alone builtin.Random object = on_int draw
run_builtin_alone builtin.ViewCount object = on_none count_views
run_builtin_alone builtin.Views object = on_none tell_views
run_builtin_alone builtin.SessionId object = on_none tell_id
run_builtin_alone builtin.Known object = on_text tell_known
run_builtin_alone builtin.BeKnown object = on_text (make_known object)
run_builtin_alone builtin.Exists object = on_ref tell_held
run_builtin_alone builtin.Destroy object = on_ref destroy
run_builtin_alone builtin.Subscribe object = on_texts (subscribe object)
run_builtin_alone builtin.Unsubscribe object = on_texts (unsubscribe object)
run_builtin_alone builtin.Cancel object = on_text (cancel object)
run_builtin_alone builtin.Persist object = on_any persist
run_builtin_alone f object = pure_outcome (pure_of f)

-- what a builtin answers; publishing alone starts methods
abbrev pub run_builtin : ProgramTree → Start → Builtin → ℕ → List PlainValue → Running → Outcome PlainValue
run_builtin program start builtin.Publish object = on_event (publish program start)
run_builtin program start f object = run_builtin_alone f object

abbrev pub run_if_builtin : ProgramTree → Start → Option Builtin → ℕ → List PlainValue → Running → Outcome PlainValue
run_if_builtin program start None object args r = Faults BadKind r
run_if_builtin program start (Some f) object args r = run_builtin program start f object args r
