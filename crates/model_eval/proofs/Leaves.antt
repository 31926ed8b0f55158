-- What leaves give that hold Ints.
use Rattle.std.proofs.Common.{◌≡◌, ℕ, List, Option, Some, None, ap}
use Rattle.std.specs.Prelude.{ℤ}
use Rattle.std.proofs.lemmas.Option.{none-some, get_or_from_slice_get}
use Rattle.model_value.specs.Plain.{PlainValue, nil, int}
use Rattle.world_plain.specs.World.{ObjectRecord}
use Rattle.world_plain.specs.Valid.{object_at}
use Rattle.object_store.specs.Store.{field_of}
use Rattle.model_solved.specs.SolvedTree.{field}
use Rattle.world_state.specs.declared.state.State.{State}
use Rattle.world_state.specs.Running.{PureOutcome, value, give_pure}
use Rattle.world_state.specs.Objects.{slot_value}
use Rattle.model_eval.specs.Answer.{GivesInt}
use Rattle.world_state.specs.Answer.{running}

slot_holds : (found : Option ObjectRecord) (k : ℕ) (n : ℤ) → field_of found k ≡ Some (int n) → slot_value found k ≡ value (int n)
slot_holds None k n e = absurd (none-some (int n) e)
slot_holds (Some o) k n e = ap value (get_or_from_slice_get o.fields k (int n) nil e)

pub field_gives : (state : State) (object slot : ℕ) (locals : List PlainValue) (n : ℤ) → field_of (object_at state.objects.objects object) slot ≡ Some (int n) → GivesInt state object (field slot) locals n
field_gives state object slot locals n e = λ program ev start budget.
    ap (λ (o : PureOutcome). give_pure o (running state budget)) (slot_holds (object_at state.objects.objects object) slot n e)
