-- What a call on the state of a world answers, beside what it means.
use Rattle.std.specs.Prelude.{◌≡◌, ℕ, map, Option, None, is_some, true, Result, Ok, Err, ⊤}
use Rattle.model_value.specs.Plain.{PlainValue, nil}
use Rattle.model_value.specs.View.{plain}
use Rattle.world_plain.specs.Messages.{plain_outgoing}
use Rattle.world_plain.specs.World.{ObjectRecord, WorldRecord}
use Rattle.model_value.specs.declared.value.Value.{Value}
use Rattle.model_builtin.specs.declared.fault.BuiltinStop.{BuiltinStop}
use Rattle.model_builtin.specs.declared.fault.BuiltinStop.TheVariants as builtin_stop
use Rattle.world_plain.specs.declared.refusal.StoreRefusal.{StoreRefusal}
use Rattle.world_plain.specs.declared.refusal.StoreRefusal.TheVariants as refusal
use Rattle.world_state.specs.declared.fault.Fault.TheVariants.{BadKind, BadIndex, NoObject, Size, Full}
use Rattle.world_state.specs.declared.fault.EvalStop.{EvalStop}
use Rattle.world_state.specs.declared.fault.EvalStop.TheVariants as stop
use Rattle.world_state.specs.declared.state.State.{State}
use Rattle.world_state.specs.declared.state.Budget.{Budget}
use Rattle.world_state.specs.Running.{Running, Outcome, Gives, Faults, PureOutcome, value, fails}

-- the world that a state holds
abbrev pub world_of : State → WorldRecord
world_of s = record {
  id = s.id.0;
  time = s.time;
  next_object = s.objects.next;
  next_number = s.pending.next;
  random = s.random;
  turns = s.turns;
  faults = s.faults;
  views = s.views;
  objects = s.objects.objects;
  known = s.known;
  subscriptions = s.topics;
  pending = s.pending.messages;
  saved = s.saved;
}

-- what a contract sees of what runs
abbrev pub running : State → Budget → Running
running state budget = record {
  fuel = budget.fuel;
  world = world_of state;
  published = map plain_outgoing state.published;
}

-- a fault of what needs no world
abbrev pub stop_of : BuiltinStop → EvalStop
stop_of builtin_stop.BadKind = stop.Fault BadKind
stop_of builtin_stop.BadIndex = stop.Fault BadIndex
stop_of builtin_stop.Size = stop.Fault Size
stop_of builtin_stop.WantOfMemory = stop.WantOfMemory

-- what a world holds no more of
abbrev pub stop_of_refusal : StoreRefusal → EvalStop
stop_of_refusal (refusal.Full count) = stop.Fault Full
stop_of_refusal refusal.Spent = stop.Fault Full
stop_of_refusal refusal.WantOfMemory = stop.WantOfMemory

-- the answer, and what runs after it, are what was meant, unless memory ran out
abbrev pub Answers : Result Value EvalStop → State → Budget → Outcome PlainValue → Type 0
Answers (Ok v) state budget meant = meant ≡ Gives (plain v) (running state budget)
Answers (Err (stop.Fault f)) state budget meant = meant ≡ Faults f (running state budget)
Answers (Err stop.WantOfMemory) state budget meant = Unit {0}

-- the same of what gives nothing
abbrev pub Did : Result ⊤ EvalStop → State → Budget → Outcome ⊤ → Type 0
Did (Ok u) state budget meant = meant ≡ Gives tt (running state budget)
Did (Err (stop.Fault f)) state budget meant = meant ≡ Faults f (running state budget)
Did (Err stop.WantOfMemory) state budget meant = Unit {0}

-- the same of what gives a number
abbrev pub Numbers : Result ℕ EvalStop → State → Budget → Outcome ℕ → Type 0
Numbers (Ok n) state budget meant = meant ≡ Gives n (running state budget)
Numbers (Err (stop.Fault f)) state budget meant = meant ≡ Faults f (running state budget)
Numbers (Err stop.WantOfMemory) state budget meant = Unit {0}

-- the same of what changes nothing
abbrev pub Replies : Result Value EvalStop → PureOutcome → Type 0
Replies (Ok v) meant = meant ≡ value (plain v)
Replies (Err (stop.Fault f)) meant = meant ≡ fails f
Replies (Err stop.WantOfMemory) meant = Unit {0}

-- a field that is not there: the object has no such field, or it is gone
abbrev pub MissesField : Result Value EvalStop → Option ObjectRecord → Type 0
MissesField (Ok v) found = (plain v ≡ nil) × (is_some found ≡ true)
MissesField (Err (stop.Fault f)) found = (f ≡ NoObject) × (found ≡ None)
MissesField (Err stop.WantOfMemory) found = ⊥
