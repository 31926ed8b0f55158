-- What the evaluator answers, beside what a program means.
use Rattle.std.specs.Prelude.{◌≡◌, ◌-◌, ℕ, nat_eq, ℤ, List, Bool, Option, Some, None, is_some, true, false, Result, Ok, Err, ⊤}
use Rattle.model_value.specs.Plain.{PlainValue, int}
use Rattle.model_value.specs.View.{plain, plain_values}
use Rattle.model_value.specs.declared.value.Value.{Value}
use Rattle.world_state.specs.declared.fault.Fault.TheVariants.{BadKind, Fuel}
use Rattle.world_state.specs.declared.fault.EvalStop.{EvalStop}
use Rattle.world_state.specs.declared.fault.EvalStop.TheVariants as stop
use Rattle.model_eval.specs.declared.evaluator.Flow.{Flow as Held}
use Rattle.model_eval.specs.declared.evaluator.Flow.TheVariants as held
use Rattle.model_eval.specs.declared.locals.Frame.{Frame}
use Rattle.world_state.specs.declared.state.State.{State}
use Rattle.world_state.specs.declared.state.Budget.{Budget}
use Rattle.world_state.specs.Running.{Running, Outcome, Gives, Faults, and_then, PureOutcome, fails, give_pure, Start}
use Rattle.world_state.specs.Answer.{running}
use Rattle.model_eval.specs.Operators.{on_ints, apply_binary, binary_outcome}
use Rattle.model_tree.specs.declared.tree.BinaryOp.{BinaryOp}
use Rattle.model_tree.specs.Tree.{Name, ClassTree, ProgramTree}
use Rattle.model_solved.specs.Methods.{method_named}
use Rattle.model_solved.specs.Founding.{checked_tree}
use Rattle.model_eval.specs.Meaning.{Flow, next, return_with, init, starts}
use Rattle.model_solved.specs.SolvedTree.{SolvedExpression}
use Rattle.model_eval.specs.Slots.{Evaluate, Execute, evaluate, execute, expression_row}
use Rattle.model_eval.specs.Publishing.{Notice}
use Rattle.model_eval.specs.declared.calls.Event.{Event}
use Rattle.model_eval.specs.declared.here.Starter.{Starter}

-- what the handlers of an event get
abbrev pub notice_of : Event → Notice
notice_of e = record { value = plain e.value.now; sender = e.sender }

-- how methods start, and what expressions and statements mean
abbrev pub starts_by : Starter → Start
starts_by s = starts (checked_tree s.program.now) s.room

abbrev pub evaluates_by : Starter → Evaluate
evaluates_by s = evaluate (checked_tree s.program.now) s.room

abbrev pub executes_by : Starter → Execute
executes_by s = execute (checked_tree s.program.now) s.room

-- what an operator gives of its two sides
abbrev pub operates_by : Starter → ℕ → BinaryOp → SolvedExpression → SolvedExpression → List PlainValue → Running
    → Outcome PlainValue
operates_by s object op left right locals r =
    and_then (evaluates_by s object left locals r) (λ v. binary_outcome op v (evaluates_by s object right locals))

-- the same of a list of values
abbrev pub AnswersAll : Result (List Value) EvalStop → State → Budget → Outcome (List PlainValue) → Type 0
AnswersAll (Ok vs) state budget meant = meant ≡ Gives (plain_values vs) (running state budget)
AnswersAll (Err (stop.Fault f)) state budget meant = meant ≡ Faults f (running state budget)
AnswersAll (Err stop.WantOfMemory) state budget meant = Unit {0}

-- the same of statements: the next one follows, with the locals of the frame, or the method ends with the value that it holds
abbrev pub Proceeds : Result Held EvalStop → Frame → State → Budget → Outcome (Flow (List PlainValue)) → Type 0
Proceeds (Ok held.Next) frame state budget meant =
    meant ≡ Gives (next (plain_values frame.locals.items)) (running state budget)
Proceeds (Ok held.Return) frame state budget meant =
    meant ≡ Gives (return_with (plain frame.returned)) (running state budget)
Proceeds (Err (stop.Fault f)) frame state budget meant = meant ≡ Faults f (running state budget)
Proceeds (Err stop.WantOfMemory) frame state budget meant = Unit {0}

-- a leaf that gives this Int in a state, whatever program runs and may still be open
abbrev pub GivesInt : State → ℕ → SolvedExpression → List PlainValue → ℤ → Type 0
GivesInt state object e locals n =
    (program : ProgramTree) (ev : Evaluate) (start : Start) (budget : Budget)
    → expression_row program ev start object e locals (running state budget) ≡ Gives (int n) (running state budget)

-- an operator that evaluates both its sides, whatever the left one gives
abbrev pub EvaluatesBoth : BinaryOp → Type 0
EvaluatesBoth op = (v : PlainValue) (right : Running → Outcome PlainValue) (r : Running)
    → binary_outcome op v right r ≡ and_then (right r) (λ w. give_pure (apply_binary op v w))

-- the same of what leaves the state alone, whichever that is
abbrev pub Enters : Result ℕ EvalStop → Budget → (State → Outcome ℕ) → Type 0
Enters (Ok room) budget meant = (state : State) → meant state ≡ Gives room (running state budget)
Enters (Err (stop.Fault f)) budget meant = (state : State) → meant state ≡ Faults f (running state budget)
Enters (Err stop.WantOfMemory) budget meant = ⊥

-- a step is taken, or there was none
abbrev pub TakesStep : Result ⊤ EvalStop → Budget → Budget → Type 0
TakesStep (Ok u) old new = (nat_eq old.fuel 0 ≡ false) × (new ≡ record old { fuel = old.fuel - 1 })
TakesStep (Err (stop.Fault f)) old new = (f ≡ Fuel) × (nat_eq old.fuel 0 ≡ true) × (new ≡ old)
TakesStep (Err stop.WantOfMemory) old new = ⊥

-- the same of what takes steps alone
abbrev pub Spends : Result Value EvalStop → Budget → (State → Outcome PlainValue) → Type 0
Spends (Ok v) budget meant = (state : State) → meant state ≡ Gives (plain v) (running state budget)
Spends (Err (stop.Fault f)) budget meant = (state : State) → meant state ≡ Faults f (running state budget)
Spends (Err stop.WantOfMemory) budget meant = Unit {0}

-- two values are Ints, or what needs two Ints fails
abbrev pub AreInts : Result (ℤ × ℤ) EvalStop → PlainValue → PlainValue → Type 0
AreInts (Ok ints) v w = (v ≡ int ints.0) × (w ≡ int ints.1)
AreInts (Err (stop.Fault f)) v w = (f ≡ BadKind) × ((row : ℤ → ℤ → PureOutcome) → on_ints row v w ≡ fails BadKind)
AreInts (Err stop.WantOfMemory) v w = Unit {0}

abbrev pub Decides : Result Bool EvalStop → Option Bool → Type 0
Decides (Ok b) meant = meant ≡ Some b
Decides (Err (stop.Fault f)) meant = (meant ≡ None) × (f ≡ BadKind)
Decides (Err stop.WantOfMemory) meant = Unit {0}

-- whether a class has `init`, and its name where it has
abbrev pub HasInit : Option Name → ClassTree → Type 0
HasInit None c = is_some (method_named init c.methods) ≡ false
HasInit (Some x) c = (x ≡ init) × (is_some (method_named init c.methods) ≡ true)
