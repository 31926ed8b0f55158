use Rattle.std.proofs.Common.{◌≡◌, ◌+◌, ◌-◌, ◌*◌, [], drop}
use Rattle.model_value.specs.View.{plain_values}
use Rattle.model_solved.specs.Founding.{checked_tree}
use Rattle.model_solved.specs.SolvedView.{solved_expression, solved_expressions, solved_statements}
use Rattle.model_eval.specs.Publishing.{run_handlers}
use Rattle.model_eval.specs.Slots.{evaluate_all, in_turn, loop_turns}
use Rattle.model_eval.specs.Answer.{evaluates_by, executes_by, notice_of, starts_by}
use Rattle.world_state.specs.Answer.{running}
use Rattle.model_eval.proofs.here.+evaluate.Given as goal

-- entering an expression or a statement leaves less room, and within one level each function calls only those of a lower rank
abbrev pub decreases-Here::evaluate : goal.decreases-Here::evaluate
decreases-Here::evaluate l = 16 * l.self.now.starter.room

abbrev pub decreases-Here::execute : goal.decreases-Here::execute
decreases-Here::execute l = 16 * l.self.now.starter.room

abbrev pub decreases-Here::evaluate_all : goal.decreases-Here::evaluate_all
decreases-Here::evaluate_all l = 16 * l.self.now.starter.room + 1

abbrev pub decreases-Here::evaluate_truth : goal.decreases-Here::evaluate_truth
decreases-Here::evaluate_truth l = 16 * l.self.now.starter.room + 1

abbrev pub decreases-Here::run_in_turn : goal.decreases-Here::run_in_turn
decreases-Here::run_in_turn l = 16 * l.self.now.starter.room + 1

abbrev pub decreases-Here::evaluate_or : goal.decreases-Here::evaluate_or
decreases-Here::evaluate_or l = 16 * l.self.now.starter.room + 2

abbrev pub decreases-Here::evaluate_and : goal.decreases-Here::evaluate_and
decreases-Here::evaluate_and l = 16 * l.self.now.starter.room + 2

abbrev pub decreases-Here::evaluate_binary : goal.decreases-Here::evaluate_binary
decreases-Here::evaluate_binary l = 16 * l.self.now.starter.room + 3

abbrev pub decreases-Starter::perform : goal.decreases-Starter::perform
decreases-Starter::perform l = 16 * l.self.now.room + 2

abbrev pub decreases-Here::run_block : goal.decreases-Here::run_block
decreases-Here::run_block l = 16 * l.self.now.starter.room + 2

abbrev pub decreases-Starter::start : goal.decreases-Starter::start
decreases-Starter::start l = 16 * l.self.now.room + 3

abbrev pub decreases-Here::run_loop : goal.decreases-Here::run_loop
decreases-Here::run_loop l = 16 * l.self.now.starter.room + 3

abbrev pub decreases-Starter::call : goal.decreases-Starter::call
decreases-Starter::call l = 16 * l.self.now.room + 4

abbrev pub decreases-Starter::initialise : goal.decreases-Starter::initialise
decreases-Starter::initialise l = 16 * l.self.now.room + 5

abbrev pub decreases-Starter::start_init : goal.decreases-Starter::start_init
decreases-Starter::start_init l = 16 * l.self.now.room + 4

abbrev pub decreases-Starter::create : goal.decreases-Starter::create
decreases-Starter::create l = 16 * l.self.now.room + 6

abbrev pub decreases-Starter::tell_one : goal.decreases-Starter::tell_one
decreases-Starter::tell_one l = 16 * l.self.now.room + 4

abbrev pub decreases-Starter::tell_all : goal.decreases-Starter::tell_all
decreases-Starter::tell_all l = 16 * l.self.now.room + 5

abbrev pub decreases-Starter::tell : goal.decreases-Starter::tell
decreases-Starter::tell l = 16 * l.self.now.room + 6

abbrev pub decreases-Starter::publish_event : goal.decreases-Starter::publish_event
decreases-Starter::publish_event l = 16 * l.self.now.room + 7

abbrev pub decreases-Starter::publish_to : goal.decreases-Starter::publish_to
decreases-Starter::publish_to l = 16 * l.self.now.room + 8

abbrev pub decreases-Starter::publish : goal.decreases-Starter::publish
decreases-Starter::publish l = 16 * l.self.now.room + 9

abbrev pub decreases-Here::call_builtin : goal.decreases-Here::call_builtin
decreases-Here::call_builtin l = 16 * l.self.now.starter.room + 10

abbrev pub decreases-Here::expression_row : goal.decreases-Here::expression_row
decreases-Here::expression_row l = 16 * l.self.now.starter.room + 11

abbrev pub decreases-Here::evaluate_inside : goal.decreases-Here::evaluate_inside
decreases-Here::evaluate_inside l = 16 * l.room + 12

abbrev pub decreases-Here::evaluate_sides : goal.decreases-Here::evaluate_sides
decreases-Here::evaluate_sides l = 16 * l.room + 4

abbrev pub decreases-Here::evaluate_operation : goal.decreases-Here::evaluate_operation
decreases-Here::evaluate_operation l = 16 * l.room + 5

abbrev pub decreases-Here::statement_row : goal.decreases-Here::statement_row
decreases-Here::statement_row l = 16 * l.self.now.starter.room + 11

abbrev pub invariant-Here::evaluate_all-loop-expr : goal.invariant-Here::evaluate_all-loop-expr
invariant-Here::evaluate_all-loop-expr l =
    let ev = evaluates_by l.self.starter in
    evaluate_all ev l.self.object (solved_expressions (drop l.expr-index l.exprs)) (plain_values l.locals) (plain_values l.values) (running l.state l.budget) ≡ evaluate_all ev l.self.object (solved_expressions l.exprs) (plain_values l.locals) [] (running l.fn.state l.fn.budget)

abbrev pub invariant-Here::run_in_turn-loop-stmt : goal.invariant-Here::run_in_turn-loop-stmt
invariant-Here::run_in_turn-loop-stmt l =
    let ex = executes_by l.self.starter in
    in_turn ex l.self.object (solved_statements (drop l.stmt-index l.stmts)) (plain_values l.frame.locals.items) (running l.state l.budget) ≡ in_turn ex l.self.object (solved_statements l.stmts) (plain_values l.fn.frame.locals.items) (running l.fn.state l.fn.budget)

abbrev pub invariant-Here::run_loop-loop-turn : goal.invariant-Here::run_loop-loop-turn
invariant-Here::run_loop-loop-turn l =
    let ev = evaluates_by l.self.starter in
    let ex = executes_by l.self.starter in
    loop_turns (l.turns - l._turn) ev ex l.self.object (solved_expression l.test) (solved_statements l.body) (plain_values l.frame.locals.items) (running l.state l.budget) ≡ loop_turns l.turns ev ex l.self.object (solved_expression l.test) (solved_statements l.body) (plain_values l.fn.frame.locals.items) (running l.fn.state l.fn.budget)

abbrev pub invariant-Starter::tell_all-loop-handler : goal.invariant-Starter::tell_all-loop-handler
invariant-Starter::tell_all-loop-handler l =
    let program = checked_tree l.self.program.now in
    let start = starts_by l.self in
    let notice = notice_of l.event in
    run_handlers program start notice (drop l.handler-index l.handlers) (running l.state l.budget) ≡ run_handlers program start notice l.handlers (running l.fn.state l.fn.budget)
