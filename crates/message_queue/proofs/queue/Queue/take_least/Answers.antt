use Rattle.std.proofs.Common.{length, subst, sym, ap, ◌∙◌, arith}
use Rattle.message_queue.specs.Heap.{CountsFew}
use Rattle.message_queue.specs.Queue.{QueueRecord}
use Rattle.message_queue.proofs.Held.{length-seen, first_light, first_weighs, held_without_first, seen_first}
use Rattle.message_queue.proofs.queue.Queue.take_least.Goals as goal

pub message_weight_of-requires : goal.message_weight_of-requires
message_weight_of-requires g c =
    first_light c.self.inside.messages.items c.take_first.new.messages.items c.in_ok-first.first c.self.inside.next c.self.inside.weight c.self.invariant c.in_ok-first.ensures.held c.in_ok-first.ensures.first

pub overflow_sub-self : goal.overflow_sub-self
overflow_sub-self g c =
    omega (arith, c.message_weight_of.ensures, first_weighs c.self.inside.messages.items c.take_first.new.messages.items c.in_ok-first.first c.self.inside.next c.self.inside.weight c.self.invariant c.in_ok-first.ensures.held c.in_ok-first.ensures.first)

pub invariant_of-self-2 : goal.invariant_of-self-2
invariant_of-self-2 g c =
    held_without_first c.self.inside.messages.items c.take_first.new.messages.items c.in_ok-first.first c.self.inside.next c.self.inside.weight c.message_weight_of.result c.self.invariant c.in_ok-first.ensures.held c.in_ok-first.ensures.first c.take_first.ensures.heap c.message_weight_of.ensures

pub returns-clause-taken : goal.returns-clause-taken
returns-clause-taken g c = (
  sym (ap (λ (q : QueueRecord). q.messages) c.self.view_is) ∙ seen_first c.self.inside.messages.items c.take_first.new.messages.items c.in_ok-first.first c.self.inside.next c.self.inside.weight c.self.invariant c.in_ok-first.ensures.held c.in_ok-first.ensures.first,
  ap (λ (q : QueueRecord). q.next) c.self.view_is,
)

pub returns-clause-count : goal.returns-clause-count
returns-clause-count g c =
    subst (λ n. CountsFew n c.args.steps.now c.take_first.new.steps) (sym (length-seen c.self.inside.messages.items) ∙ ap (λ (q : QueueRecord). length q.messages) c.self.view_is) c.take_first.ensures.count
