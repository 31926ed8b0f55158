use Rattle.std.proofs.Common.{◌≡◌, ℕ, Option, Some, Err, sym, subst}
use Rattle.model_value.specs.Plain.{PlainValue}
use Rattle.model_value.specs.View.{plain, plain_values}
use Rattle.world_plain.specs.Valid.{object_at}
use Rattle.model_solved.specs.Founding.{checked_tree}
use Rattle.model_solved.specs.Methods.{FindsMethod}
use Rattle.world_state.specs.Running.{Outcome, Gives}
use Rattle.model_tree.specs.Tree.{Name}
use Rattle.world_state.specs.Answer.{Answers, Did, running}
use Rattle.model_eval.specs.Publishing.{Notice, tell_handlers}
use Rattle.model_eval.specs.Answer.{HasInit, starts_by}
use Rattle.model_eval.proofs.InitLaws.{without-init, with-init}
use Rattle.model_eval.proofs.Published.{answered-alone, told_of_model, published-gives, published-stops}
use Rattle.model_eval.proofs.Resolving.{started}
use Rattle.world_state.proofs.Fields.{class_of-is}
use Rattle.model_eval.proofs.here.+evaluate.Goals as goal

pub Starter::start-returns-in-Some-method : goal.Starter::start-returns-in-Some-method
Starter::start-returns-in-Some-method t c =
    let tree = checked_tree c.args.self.now.program.now in
    let r = running c.args.state.now c.args.budget.now in
    let found = class_of-is (object_at r.world.objects c.args.object) c.in-Some.class (sym c.in-Some.ensures) in
    let finds = subst (λ (class : ℕ). FindsMethod (Some c.in-Some-method.solved) tree class c.args.method.now) (sym found.2) c.in-Some-method.ensures in
    let same = started tree c.args.self.now.room c.args.object c.args.method.now (plain_values c.args.args) r found.0 c.in-Some-method.solved found.1 finds in
    rw same at c.perform.ensures

pub Here::call_builtin-returns-in_default : goal.Here::call_builtin-returns-in_default
Here::call_builtin-returns-in_default t c =
    let here = c.args.self.now in
    let same = answered-alone (checked_tree here.starter.program.now) (starts_by here.starter) c.args.builtin here.object (plain_values c.args.args.now) (running c.args.state.now c.args.budget.now) c.in_default.not-Publish in
    subst (λ (meant : Outcome PlainValue). Answers c.answer.result c.answer.new.state c.answer.new.budget meant) (sym same) c.answer.ensures

pub Starter::initialise-returns-in-None : goal.Starter::initialise-returns-in-None
Starter::initialise-returns-in-None t c = λ k e.
    let r = running c.args.state.now c.args.budget.now in
    without-init (starts_by c.args.self.now) k (plain c.args.options) c.args.id r (subst (λ (found : Option Name). HasInit found k) c.in-None.is (c.in_ok-init_of.ensures k e))

pub Starter::initialise-returns-in-Some : goal.Starter::initialise-returns-in-Some
Starter::initialise-returns-in-Some t c = λ k e.
    let r = running c.args.state.now c.args.budget.now in
    let has = subst (λ (found : Option Name). HasInit found k) c.in-Some.is (c.in_ok-init_of.ensures k e) in
    let same = with-init (starts_by c.args.self.now) k (plain c.args.options) c.args.id r c.in-Some.init has.0 has.1 in
    subst (λ (meant : Outcome PlainValue). Answers c.start_init.result c.start_init.new.state c.start_init.new.budget meant) (sym same) c.start_init.ensures

pub Starter::publish_event-returns-in_err-tell : goal.Starter::publish_event-returns-in_err-tell
Starter::publish_event-returns-in_err-tell t c =
    let event = c.args.event.now in
    let tree = checked_tree c.args.self.now.program.now in
    let start = starts_by c.args.self.now in
    let told = running c.announce.new.state c.args.budget.now in
    let stops : Notice → Type 0 = λ notice. Did (Err c.in_err-tell.field-0.0) c.tell.new.state c.tell.new.budget (tell_handlers tree start event.scope.now event.name.now notice told) in
    published-stops c.from_residual-in_err-tell.result c.in_err-tell.field-0.0 c.tell.new.state c.tell.new.budget tree start event.scope.now event.name.now (plain event.value.now)
    (running c.args.state.now c.args.budget.now) told c.from_residual-in_err-tell.ensures.1 (c.in_ok-announce.ensures c.args.budget.now) (told_of_model event c.requires stops c.in_err-tell.ensures)

pub Starter::publish_event-returns : goal.Starter::publish_event-returns
Starter::publish_event-returns t c =
    let event = c.args.event.now in
    let tree = checked_tree c.args.self.now.program.now in
    let start = starts_by c.args.self.now in
    let told = running c.announce.new.state c.args.budget.now in
    let gives : Notice → Type 0 = λ notice. tell_handlers tree start event.scope.now event.name.now notice told ≡ Gives tt (running c.tell.new.state c.tell.new.budget) in
    published-gives tree start event.scope.now event.name.now (plain event.value.now) (running c.args.state.now c.args.budget.now) told
    (running c.tell.new.state c.tell.new.budget) (c.in_ok-announce.ensures c.args.budget.now) (told_of_model event c.requires gives c.in_ok-tell.ensures)
