-- What the meaning is once a part is entered, and of a loop once a turn is made.
use Rattle.std.proofs.Common.{◌≡◌, ℕ, zero, suc, ◌+◌, ◌-◌, ◌<◌, Bool, true, false, ◌≤◌, List, length, set, if◌then◌else◌, refl, sym, append_assoc, arith}
use Rattle.std.specs.Prelude.{nat_eq}
use Rattle.std.proofs.lemmas.List.{map-append, take-map, length-map, map-set, set_past}
use Rattle.model_value.specs.Plain.{PlainValue}
use Rattle.model_value.specs.View.{plain, plain_values}
use Rattle.model_value.specs.declared.value.Value.{Value}
use Rattle.model_tree.specs.Tree.{ProgramTree}
use Rattle.model_solved.specs.SolvedTree.{SolvedExpression, SolvedStatement, SolvedStatements}
use Rattle.world_state.specs.Running.{Running, Outcome, Gives, Faults, and_then, spend_step}
use Rattle.model_eval.specs.Meaning.{starts}
use Rattle.world_state.specs.declared.fault.Fault.TheVariants.{Fuel, Depth}
use Rattle.model_eval.specs.Slots.{Evaluate, Execute, room_inside, evaluate, execute, expression_row, statement_row, loop_turns, after_test}

then_if : {A B : Type 0} (b : Bool) (x y : Outcome A) (next : A → Running → Outcome B) → and_then (if b then x else y) next ≡ (if b then and_then x next else and_then y next)
then_if true x y next = refl
then_if false x y next = refl

then-entering : {A B : Type 0} (r : Running) (f : Running → Outcome A) (next : A → Running → Outcome B) → and_then (spend_step r f) next ≡ spend_step r (λ r1. and_then (f r1) next)
then-entering r f next = then_if (nat_eq r.fuel 0) (Faults Fuel r) (f (record r { fuel = r.fuel - 1 })) next

pub evaluate-entered : (program : ProgramTree) (room object : ℕ) (e : SolvedExpression) (locals : List PlainValue) (r : Running) → evaluate program room object e locals r ≡ and_then (room_inside room r) (λ inside. expression_row program (evaluate program inside) (starts program inside) object e locals)
evaluate-entered program zero object e locals r = sym (then-entering r (Faults Depth) (λ inside. expression_row program (evaluate program inside) (starts program inside) object e locals))
evaluate-entered program (suc room) object e locals r = sym (then-entering r (Gives room) (λ inside. expression_row program (evaluate program inside) (starts program inside) object e locals))

pub execute-entered : (program : ProgramTree) (room object : ℕ) (s : SolvedStatement) (locals : List PlainValue) (r : Running) → execute program room object s locals r ≡ and_then (room_inside room r) (λ inside. statement_row (evaluate program inside) (execute program inside) object s locals)
execute-entered program zero object s locals r = sym (then-entering r (Faults Depth) (λ inside. statement_row (evaluate program inside) (execute program inside) object s locals))
execute-entered program (suc room) object s locals r = sym (then-entering r (Gives room) (λ inside. statement_row (evaluate program inside) (execute program inside) object s locals))

pub ruleset by_room = (evaluate-entered, execute-entered)

pub looped-turn : (turns i : ℕ) (ev : Evaluate) (ex : Execute) (object : ℕ) (test : SolvedExpression) (body : SolvedStatements) (locals : List PlainValue) (r : Running) → i < turns → loop_turns (turns - i) ev ex object test body locals r ≡ and_then (ev object test locals r) (λ v. after_test ex object body (loop_turns (turns - (i + 1)) ev ex object test body) v locals)
looped-turn turns i ev ex object test body locals r h =
    let e : turns - i ≡ suc (turns - (i + 1)) = omega arith in
    rw e refl

pub ruleset by_turn = (looped-turn)

pub ruleset by_place = (map-append, append_assoc)

pub ruleset by_local = (map-append, take-map, length-map)

pub unset : (vs : List Value) (i : ℕ) (v : PlainValue) → length vs ≤ i → set (plain_values vs) i v ≡ plain_values vs
unset vs i v h = set_past (plain_values vs) i v (omega (arith, length-map vs plain))

pub ruleset by_assignment = (map-set, unset)
