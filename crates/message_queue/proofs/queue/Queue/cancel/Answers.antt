use Rattle.std.proofs.Common.{not, arith}
use Rattle.std.proofs.lemmas.List.Sorted.{IsPermutation-refl}
use Rattle.world_plain.specs.Messages.{PlainMessage}
use Rattle.message_queue.specs.Queue.{calls}
use Rattle.message_queue.proofs.Held.{few_held, kept_light, held_left, queue_left, number_left}
use Rattle.message_queue.proofs.queue.Queue.cancel.Goals as goal

pub rebuild-requires-clause-left : goal.rebuild-requires-clause-left
rebuild-requires-clause-left c = omega (arith, c.len-before.ensures, c.remove_calls.ensures.fewer)

pub rebuild-requires-clause-few : goal.rebuild-requires-clause-few
rebuild-requires-clause-few c = omega (arith, c.len-before.ensures, few_held c.self.inside.messages.items c.self.inside.next c.self.inside.weight c.self.invariant)

pub rebuild-requires-clause-light : goal.rebuild-requires-clause-light
rebuild-requires-clause-light c =
    let left = c.remove_calls.new.messages.items in
    kept_light (λ (m : PlainMessage). not (calls c.args.object c.args.method.now m)) c.self.inside.messages.items left left c.self.inside.next c.self.inside.weight c.self.invariant c.remove_calls.ensures.kept (IsPermutation-refl left)

pub invariant_of-self : goal.invariant_of-self
invariant_of-self c =
    held_left (λ (m : PlainMessage). not (calls c.args.object c.args.method.now m)) c.self.inside.messages.items c.remove_calls.new.messages.items c.rebuild.new.messages.items c.self.inside.next c.self.inside.weight c.rebuild.new.weight c.len-before.result c.self.invariant c.remove_calls.ensures.kept c.rebuild.ensures.held (omega (arith, c.len-before.ensures))
    (omega (arith, c.len-before.ensures, c.remove_calls.ensures.fewer)) c.rebuild.ensures.fewer c.rebuild.ensures.all

pub returns-clause-number : goal.returns-clause-number
returns-clause-number c =
    number_left c.args.self.now c.self.inside.messages.items c.rebuild.new.messages.items c.self.inside.next c.len-before.result c.rebuild.result c.self.view_is (omega (arith, c.len-before.ensures)) c.rebuild.ensures.number

pub returns-clause-queue : goal.returns-clause-queue
returns-clause-queue c =
    queue_left (λ (m : PlainMessage). not (calls c.args.object c.args.method.now m)) c.args.self.now c.self.inside.messages.items c.remove_calls.new.messages.items c.rebuild.new.messages.items c.self.inside.next c.self.inside.weight c.self.invariant c.remove_calls.ensures.kept c.rebuild.ensures.held c.self.view_is
