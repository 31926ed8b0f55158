-- What a program means: a row for each form.
use Rattle.std.specs.Prelude.{ℕ, zero, suc, nat_eq, if◌then◌else◌, List, [], ◌∷◌, ◌++◌, length, take, bytes_eq, codes, Option, Some, None, is_some, slice_get, ⊤}
use Rattle.std.specs.List.{position_from}
use Rattle.model_value.specs.Plain.{PlainValue, nil, bool, int, text, ref, list}
use Rattle.model_value.specs.View.{plains_of}
use Rattle.world_plain.specs.World.{ObjectRecord}
use Rattle.world_plain.specs.Valid.{object_at}
use Rattle.model_tree.specs.Tree.{Name, Expression, this, local, field, unary, binary, builtin, call, future, create, Expressions, no_expressions, expression, Statement, declare, assign, set_field, when, while, give, do_, Statements, no_statements, statement, Otherwise, no_else, else_block, MethodTree, ClassTree, ProgramTree}
use Rattle.model_tree.specs.Tree as tree
use Rattle.model_solved.specs.Builtins.{builtin_named}
use Rattle.model_solved.specs.Faults.{class_names}
use Rattle.model_solved.specs.Methods.{method_named}
use Rattle.world_state.specs.declared.fault.Fault.TheVariants.{BadKind, NoObject, NoMethod, Arity, Fuel, Depth}
pub use Rattle.world_state.specs.Running.{Start}
use Rattle.world_state.specs.Running.{Running, Outcome, Gives, Faults, and_then, spend_step, give_in_bounds, give_by_weight, give_pure, truth, decide}
use Rattle.model_eval.specs.Operators.{binary_outcome, apply_unary}
use Rattle.world_state.specs.Objects.{get_named, put_fields, with_named, make_object}
use Rattle.model_eval.specs.Futures.{send}
use Rattle.model_eval.specs.Builtins.{run_if_builtin}

-- the class whose method runs, and the object on which it runs
pub record Here : Type 0 where
  pub class : ClassTree
  pub object : ℕ

-- a name that is in scope, and what it holds
pub record Local : Type 0 where
  pub name : Name
  pub value : PlainValue

-- ---- locals

abbrev pub local_value : Name → List Local → PlainValue
local_value x [] = nil
local_value x (l ∷ ls) = if bytes_eq x l.name then l.value else local_value x ls

abbrev pub with_local : Name → PlainValue → List Local → List Local
with_local x v [] = []
with_local x v (l ∷ ls) = if bytes_eq x l.name then record l { value = v } ∷ ls else l ∷ with_local x v ls

-- the parameters of a method hold its arguments
abbrev pub locals_of : List Name → List PlainValue → List Local
locals_of (x ∷ xs) (v ∷ vs) = record { name = x; value = v } ∷ locals_of xs vs
locals_of _ _ = []

-- ---- statements

-- behind a statement the next one follows, with these locals, or the method ends with a value
pub data Flow (L : Type 0) : Type 0 where
  next : L → Flow L
  return_with : PlainValue → Flow L

abbrev pub follow : {L : Type 0} → (L → Running → Outcome (Flow L)) → Flow L → Running → Outcome (Flow L)
follow go (next locals) r = go locals r
follow go (return_with v) r = Gives (return_with v) r

-- the locals that were there before a block are those that are there behind it
abbrev pub leave_block : {A : Type 0} → ℕ → Flow (List A) → Flow (List A)
leave_block before (next locals) = next (take before locals)
leave_block before (return_with v) = return_with v

-- the value of a method is nil at the end of its body
abbrev pub method_result : {L : Type 0} → Flow L → PlainValue
method_result (next locals) = nil
method_result (return_with v) = v

-- ---- fields

abbrev pub get_field : Here → Name → Running → Outcome PlainValue
get_field here x r = get_named (object_at r.world.objects here.object) x here.class.fields r

abbrev pub put_field : Here → Name → PlainValue → Running → Outcome ⊤
put_field here x v r = put_fields (object_at r.world.objects here.object) here.object
    (with_named x v here.class.fields) r

-- ---- the table

abbrev pub Evaluate : Type 0
Evaluate = Here → Expression → List Local → Running → Outcome PlainValue

abbrev pub Execute : Type 0
Execute = Here → Statement → List Local → Running → Outcome (Flow (List Local))

-- a list of parts, left to right, behind the values so far
abbrev pub evaluate_all : Evaluate → Here → Expressions → List Local → List PlainValue → Running
    → Outcome (List PlainValue)
evaluate_all ev here no_expressions locals values r = Gives values r
evaluate_all ev here (expression e es) locals values r =
    and_then (ev here e locals r) (λ v. evaluate_all ev here es locals (values ++ v ∷ []))

-- one statement after another
abbrev pub in_turn : Execute → Here → Statements → List Local → Running → Outcome (Flow (List Local))
in_turn ex here no_statements locals r = Gives (next locals) r
in_turn ex here (statement s ss) locals r = and_then (ex here s locals r) (follow (in_turn ex here ss))

abbrev pub block : Execute → Here → Statements → List Local → Running → Outcome (Flow (List Local))
block ex here ss locals r = and_then (in_turn ex here ss locals r) (λ f. Gives (leave_block (length locals) f))

abbrev pub otherwise : Execute → Here → Otherwise → List Local → Running → Outcome (Flow (List Local))
otherwise ex here no_else locals r = Gives (next locals) r
otherwise ex here (else_block ss) locals r = block ex here ss locals r

-- The test, and while it is true the block. Each test takes a step of fuel, so more turns than steps are never made.
abbrev pub loop_turns : ℕ → Evaluate → Execute → Here → Expression → Statements → List Local → Running
    → Outcome (Flow (List Local))
loop_turns zero ev ex here test body locals r = Faults Fuel r
loop_turns (suc turns) ev ex here test body locals r =
    and_then (ev here test locals r) (λ v. decide (truth v) (λ b r1.
    if b then and_then (block ex here body locals r1) (follow (loop_turns turns ev ex here test body))
    else Gives (next locals) r1))

-- the same by the fuel that is left behind the block
abbrev pub goes_round : Evaluate → Execute → Here → Expression → Statements → List Local → Running
    → Outcome (Flow (List Local))
goes_round ev ex here test body locals r =
    and_then (ev here test locals r) (λ v. decide (truth v) (λ b r1.
    if b then and_then (block ex here body locals r1) (follow (λ ls s. loop_turns s.fuel ev ex here test body ls s))
    else Gives (next locals) r1))

abbrev pub call_on : Start → PlainValue → Name → List PlainValue → Running → Outcome PlainValue
call_on start (ref object) x args r = start object x args r
call_on start _ x args r = Faults BadKind r

abbrev pub init : Name
init = codes "init"

-- the method `init` of a new object starts with the one argument, where its class has one
abbrev pub run_init : Start → ClassTree → PlainValue → ℕ → Running → Outcome PlainValue
run_init start c v id r =
    if is_some (method_named init c.methods) then and_then (start id init (v ∷ []) r) (λ _. Gives (ref id))
    else Gives (ref id) r

-- an object of the class of this number. A checked program has the class
abbrev pub create_object : Start → ℕ → Option ClassTree → PlainValue → Running → Outcome PlainValue
create_object start n None v r = Faults BadKind r
create_object start n (Some c) v r = and_then (make_object n (length c.fields) r) (run_init start c v)

abbrev pub create_if_class : ProgramTree → Start → Option ℕ → PlainValue → Running → Outcome PlainValue
create_if_class program start None v r = Faults BadKind r
create_if_class program start (Some n) v r = create_object start n (slice_get program n) v r

-- the number of a class
abbrev pub number_of_class : Name → ProgramTree → Option ℕ
number_of_class x program = position_from (bytes_eq x) 0 (class_names program)

-- what an expression means, once what its parts mean is known
abbrev pub expression_row : ProgramTree → Evaluate → Start → Here → Expression → List Local → Running
    → Outcome PlainValue
expression_row program ev start here tree.nil locals r = Gives nil r
expression_row program ev start here (tree.bool b) locals r = Gives (bool b) r
expression_row program ev start here (tree.int n) locals r = Gives (int n) r
expression_row program ev start here (tree.text s) locals r = give_in_bounds (text s) r
expression_row program ev start here this locals r = Gives (ref here.object) r
expression_row program ev start here (local x) locals r = Gives (local_value x locals) r
expression_row program ev start here (field x) locals r = get_field here x r
expression_row program ev start here (tree.list items) locals r =
    and_then (evaluate_all ev here items locals [] r) (λ vs. give_by_weight (list (plains_of vs)))
expression_row program ev start here (unary o e) locals r =
    and_then (ev here e locals r) (λ v. give_pure (apply_unary o v))
expression_row program ev start here (binary o a b) locals r =
    and_then (ev here a locals r) (λ v. binary_outcome o v (ev here b locals))
expression_row program ev start here (builtin x args) locals r =
    and_then (evaluate_all ev here args locals [] r) (run_if_builtin program start (builtin_named x) here.object)
expression_row program ev start here (call object x args) locals r =
    and_then (ev here object locals r) (λ o r1. and_then (evaluate_all ev here args locals [] r1) (call_on start o x))
expression_row program ev start here (future object delay x args) locals r =
    and_then (ev here object locals r) (λ o r1.
    and_then (ev here delay locals r1) (λ d r2. and_then (evaluate_all ev here args locals [] r2) (send o d x)))
expression_row program ev start here (create x options) locals r =
    and_then (ev here options locals r) (create_if_class program start (number_of_class x program))

-- what a statement does
abbrev pub statement_row : Evaluate → Execute → Here → Statement → List Local → Running → Outcome (Flow (List Local))
statement_row ev ex here (declare x e) locals r =
    and_then (ev here e locals r) (λ v. Gives (next (locals ++ record { name = x; value = v } ∷ [])))
statement_row ev ex here (assign x e) locals r =
    and_then (ev here e locals r) (λ v. Gives (next (with_local x v locals)))
statement_row ev ex here (set_field x e) locals r =
    and_then (ev here e locals r) (λ v r1. and_then (put_field here x v r1) (λ _. Gives (next locals)))
statement_row ev ex here (when test body other) locals r =
    and_then (ev here test locals r) (λ v.
    decide (truth v) (λ b r1. if b then block ex here body locals r1 else otherwise ex here other locals r1))
statement_row ev ex here (while test body) locals r = loop_turns r.fuel ev ex here test body locals r
statement_row ev ex here (give e) locals r = and_then (ev here e locals r) (λ v. Gives (return_with v))
statement_row ev ex here (do_ e) locals r = and_then (ev here e locals r) (λ _. Gives (next locals))

-- ---- methods

abbrev pub perform : Execute → Here → Option MethodTree → List PlainValue → Running → Outcome PlainValue
perform ex here None args r = Faults NoMethod r
perform ex here (Some m) args r =
    if nat_eq (length args) (length m.params) then and_then (in_turn ex here m.body (locals_of m.params args) r) (λ f.
    Gives (method_result f))
    else Faults Arity r

abbrev pub starts_in : Execute → Option ClassTree → Start
starts_in ex None object x args r = Faults NoMethod r
starts_in ex (Some c) object x args r =
    perform ex (record { class = c; object = object }) (method_named x c.methods) args r

abbrev pub starts_on : ProgramTree → Execute → Option ObjectRecord → Start
starts_on program ex None object x args r = Faults NoObject r
starts_on program ex (Some o) object x args r = starts_in ex (slice_get program o.class) object x args r

abbrev pub start_by : ProgramTree → Execute → Start
start_by program ex object x args r = starts_on program ex (object_at r.world.objects object) object x args r

-- What the forms mean where so many more may be open: entering one takes a step of fuel, and then room.
abbrev mutual
  pub evaluate : ProgramTree → ℕ → Evaluate
  evaluate program zero here e locals r = spend_step r (Faults Depth)
  evaluate program (suc room) here e locals r =
      spend_step r (expression_row program (evaluate program room)
      (start_by program (execute program room)) here e locals)

  pub execute : ProgramTree → ℕ → Execute
  execute program zero here s locals r = spend_step r (Faults Depth)
  execute program (suc room) here s locals r =
      spend_step r (statement_row (evaluate program room) (execute program room) here s locals)

-- a method starts on an object, where so many statements and expressions may be open
abbrev pub starts : ProgramTree → ℕ → Start
starts program room = start_by program (execute program room)
