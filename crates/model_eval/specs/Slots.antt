-- The same meaning over resolved trees, which the evaluator follows. No public clause names it: that it is the meaning of
-- the tree with its names is proved apart. The locals are values, by their slots.
use Rattle.std.specs.Prelude.{ℕ, zero, suc, nat_eq, if◌then◌else◌, List, [], ◌∷◌, ◌++◌, length, take, slice_get, slice_index_or, slice_set, ⊤}
use Rattle.model_value.specs.Plain.{PlainValue, nil, bool, int, text, ref, list}
use Rattle.model_value.specs.View.{plains_of}
use Rattle.model_tree.specs.Tree.{ProgramTree}
use Rattle.model_solved.specs.SolvedTree.{SolvedExpression, this, local, field, unary, binary, builtin, call, future, create, SolvedExpressions, no_expressions, expression, SolvedStatement, declare, assign, set_field, when, while, give, do_, SolvedStatements, no_statements, statement, SolvedOtherwise, no_else, else_block, SolvedMethod}
use Rattle.model_solved.specs.SolvedTree as solved
use Rattle.world_state.specs.declared.fault.Fault.TheVariants.{Fuel, Depth, Arity}
use Rattle.world_state.specs.Running.{Running, Outcome, Gives, Faults, and_then, spend_step, give_in_bounds, give_by_weight, give_pure, truth, decide, Start}
use Rattle.model_eval.specs.Operators.{binary_outcome, apply_unary}
use Rattle.world_state.specs.Objects.{get_slot, set_slot}
use Rattle.model_eval.specs.Futures.{send}
use Rattle.model_eval.specs.Builtins.{run_builtin}
use Rattle.model_eval.specs.Meaning.{Flow, next, return_with, follow, leave_block, method_result, call_on, create_object, starts}

abbrev pub Evaluate : Type 0
Evaluate = ℕ → SolvedExpression → List PlainValue → Running → Outcome PlainValue

abbrev pub Execute : Type 0
Execute = ℕ → SolvedStatement → List PlainValue → Running → Outcome (Flow (List PlainValue))

abbrev pub evaluate_all : Evaluate → ℕ → SolvedExpressions → List PlainValue → List PlainValue → Running
    → Outcome (List PlainValue)
evaluate_all ev object no_expressions locals values r = Gives values r
evaluate_all ev object (expression e es) locals values r =
    and_then (ev object e locals r) (λ v. evaluate_all ev object es locals (values ++ v ∷ []))

abbrev pub in_turn : Execute → ℕ → SolvedStatements → List PlainValue → Running → Outcome (Flow (List PlainValue))
in_turn ex object no_statements locals r = Gives (next locals) r
in_turn ex object (statement s ss) locals r = and_then (ex object s locals r) (follow (in_turn ex object ss))

abbrev pub block : Execute → ℕ → SolvedStatements → List PlainValue → Running → Outcome (Flow (List PlainValue))
block ex object ss locals r = and_then (in_turn ex object ss locals r) (λ f. Gives (leave_block (length locals) f))

abbrev pub otherwise : Execute → ℕ → SolvedOtherwise → List PlainValue → Running → Outcome (Flow (List PlainValue))
otherwise ex object no_else locals r = Gives (next locals) r
otherwise ex object (else_block ss) locals r = block ex object ss locals r

-- what follows a test of a loop: its block, and then the rest of the loop
abbrev pub after_test : Execute → ℕ → SolvedStatements → (List PlainValue → Running → Outcome (Flow (List PlainValue)))
    → PlainValue → List PlainValue → Running → Outcome (Flow (List PlainValue))
after_test ex object body again v locals =
    decide (truth v) (λ b r1. if b then and_then (block ex object body locals r1) (follow again)
    else Gives (next locals) r1)

abbrev pub loop_turns : ℕ → Evaluate → Execute → ℕ → SolvedExpression → SolvedStatements → List PlainValue → Running
    → Outcome (Flow (List PlainValue))
loop_turns zero ev ex object test body locals r = Faults Fuel r
loop_turns (suc turns) ev ex object test body locals r =
    and_then (ev object test locals r) (λ v.
    after_test ex object body (loop_turns turns ev ex object test body) v locals)

abbrev pub expression_row : ProgramTree → Evaluate → Start → ℕ → SolvedExpression → List PlainValue → Running
    → Outcome PlainValue
expression_row program ev start object solved.nil locals r = Gives nil r
expression_row program ev start object (solved.bool b) locals r = Gives (bool b) r
expression_row program ev start object (solved.int n) locals r = Gives (int n) r
expression_row program ev start object (solved.text s) locals r = give_in_bounds (text s) r
expression_row program ev start object this locals r = Gives (ref object) r
expression_row program ev start object (local slot) locals r = Gives (slice_index_or locals slot nil) r
expression_row program ev start object (field slot) locals r = get_slot object slot r
expression_row program ev start object (solved.list items) locals r =
    and_then (evaluate_all ev object items locals [] r) (λ vs. give_by_weight (list (plains_of vs)))
expression_row program ev start object (unary o e) locals r =
    and_then (ev object e locals r) (λ v. give_pure (apply_unary o v))
expression_row program ev start object (binary o a b) locals r =
    and_then (ev object a locals r) (λ v. binary_outcome o v (ev object b locals))
expression_row program ev start object (builtin f args) locals r =
    and_then (evaluate_all ev object args locals [] r) (run_builtin program start f object)
expression_row program ev start object (call target x args) locals r =
    and_then (ev object target locals r) (λ o r1.
    and_then (evaluate_all ev object args locals [] r1) (call_on start o x))
expression_row program ev start object (future target delay x args) locals r =
    and_then (ev object target locals r) (λ o r1.
    and_then (ev object delay locals r1) (λ d r2. and_then (evaluate_all ev object args locals [] r2) (send o d x)))
expression_row program ev start object (create n options) locals r =
    and_then (ev object options locals r) (create_object start n (slice_get program n))

-- a `let` holds the slot behind those of the names in scope
abbrev pub statement_row : Evaluate → Execute → ℕ → SolvedStatement → List PlainValue → Running
    → Outcome (Flow (List PlainValue))
statement_row ev ex object (declare slot e) locals r =
    and_then (ev object e locals r) (λ v. Gives (next (take slot locals ++ v ∷ [])))
statement_row ev ex object (assign slot e) locals r =
    and_then (ev object e locals r) (λ v. Gives (next (slice_set locals slot v)))
statement_row ev ex object (set_field slot e) locals r =
    and_then (ev object e locals r) (λ v r1. and_then (set_slot object slot v r1) (λ _. Gives (next locals)))
statement_row ev ex object (when test body other) locals r =
    and_then (ev object test locals r) (λ v.
    decide (truth v) (λ b r1. if b then block ex object body locals r1 else otherwise ex object other locals r1))
statement_row ev ex object (while test body) locals r = loop_turns r.fuel ev ex object test body locals r
statement_row ev ex object (give e) locals r = and_then (ev object e locals r) (λ v. Gives (return_with v))
statement_row ev ex object (do_ e) locals r = and_then (ev object e locals r) (λ _. Gives (next locals))

-- how many more may be open inside, where so many may be open
abbrev pub room_inside : ℕ → Running → Outcome ℕ
room_inside zero r = spend_step r (Faults Depth)
room_inside (suc room) r = spend_step r (Gives room)

-- a method is started by its name, whatever it is resolved to
abbrev mutual
  pub evaluate : ProgramTree → ℕ → Evaluate
  evaluate program zero object e locals r = spend_step r (Faults Depth)
  evaluate program (suc room) object e locals r =
      spend_step r (expression_row program (evaluate program room) (starts program room) object e locals)

  pub execute : ProgramTree → ℕ → Execute
  execute program zero object s locals r = spend_step r (Faults Depth)
  execute program (suc room) object s locals r =
      spend_step r (statement_row (evaluate program room) (execute program room) object s locals)

-- the body of a method on an object
abbrev pub perform : ProgramTree → ℕ → ℕ → SolvedMethod → List PlainValue → Running → Outcome PlainValue
perform program room object m args r =
    if nat_eq (length args) m.params then and_then (in_turn (execute program room) object m.body args r) (λ f.
    Gives (method_result f)) else Faults Arity r
