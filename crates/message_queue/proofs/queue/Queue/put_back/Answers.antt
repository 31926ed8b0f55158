use Rattle.std.proofs.Common.{◌<◌, length, subst, sym, ap, ◌∙◌, arith}
use Rattle.world_plain.specs.Messages.{plain_message}
use Rattle.world_plain.specs.Valid.{IsUnused, most_messages}
use Rattle.message_queue.specs.Queue.{QueueRecord, queue_with}
use Rattle.message_queue.proofs.Held.{length-seen, weight_bound, held_with_one, seen_with_one}
use Rattle.message_queue.proofs.queue.Queue.put_back.Goals as goal

pub overflow_add-self : goal.overflow_add-self
overflow_add-self c =
    omega (arith, weight_bound c.self.inside.messages.items c.self.inside.next c.self.inside.weight c.self.invariant, c.message_weight_of-weight.ensures, c.requires.light)

pub invariant_of-self-2 : goal.invariant_of-self-2
invariant_of-self-2 c =
    let ms = c.self.inside.messages.items in
    let m = c.args.m in
    let next = c.self.inside.next in
    let unused = subst (λ (q : QueueRecord). IsUnused (plain_message m).number q.messages) (sym c.self.view_is) c.requires.unused in
    let below : (plain_message m).number < next = omega (arith, c.requires.below, ap (λ (q : QueueRecord). q.next) c.self.view_is) in
    let few : length ms < most_messages = omega (arith, c.requires.few, length-seen ms, ap (λ (q : QueueRecord). length q.messages) c.self.view_is) in
    held_with_one ms c.insert.new.messages.items m next next c.self.inside.weight c.message_weight_of-weight.result c.self.invariant c.in_ok-insert.ensures.held c.in_ok-insert.ensures.heap unused below (omega arith) few c.requires.light c.message_weight_of-weight.ensures

pub returns-clause-ok : goal.returns-clause-ok
returns-clause-ok c =
    let ms = c.self.inside.messages.items in
    let m = c.args.m in
    let unused = subst (λ (q : QueueRecord). IsUnused (plain_message m).number q.messages) (sym c.self.view_is) c.requires.unused in
    ap (λ l. record { messages = l; next = c.self.inside.next }) (seen_with_one ms c.insert.new.messages.items m c.in_ok-insert.ensures.held unused c.self.invariant.queue.differ)
    ∙ ap (queue_with (plain_message m)) c.self.view_is
