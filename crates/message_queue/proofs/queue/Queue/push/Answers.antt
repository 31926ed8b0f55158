use Rattle.std.proofs.Common.{◌≡◌, ◌+◌, ◌<◌, length, refl, sym, ap, ◌∙◌, arith, rules}
use Rattle.model_value.specs.View.{plain_values}
use Rattle.world_plain.specs.Valid.{IsUnused, most_messages}
use Rattle.world_plain.specs.declared.message.Message.{Message}
use Rattle.message_queue.specs.Queue.{QueueRecord, last_message_number, queue_after_push}
use Rattle.message_queue.specs.View.{in_order, messages_seen, queue_seen}
use Rattle.message_queue.proofs.Held.{few_held, length-seen, weight_bound, held_with_one, seen_with_one}
use Rattle.message_queue.proofs.Order.{next-unused}
use Rattle.message_queue.proofs.queue.Queue.push.Goals as goal

pub returns-then-len-eq-MOST_MESSAGES : goal.returns-then-len-eq-MOST_MESSAGES
returns-then-len-eq-MOST_MESSAGES c =
    let full : length c.args.self.now.messages ≡ most_messages = omega (arith, c.if-len-eq-MOST_MESSAGES.true, c.len.ensures, length-seen c.self.inside.messages.items, ap (λ (q : QueueRecord). length q.messages) c.self.view_is) in
    (full, sym full, refl)

pub returns-then-self : goal.returns-then-self
returns-then-self c =
    let ms = c.self.inside.messages.items in
    let few : length c.args.self.now.messages < most_messages = omega (arith, c.if-len-eq-MOST_MESSAGES.false, c.len.ensures, few_held ms c.self.inside.next c.self.inside.weight c.self.invariant, length-seen ms, ap (λ (q : QueueRecord). length q.messages) c.self.view_is) in
    let spent : c.args.self.now.next ≡ last_message_number = omega (arith, c.if-self.true, ap (λ (q : QueueRecord). q.next) c.self.view_is) in
    (few, spent, refl)

pub returns-in_err-insert : goal.returns-in_err-insert
returns-in_err-insert c =
    let ms = c.self.inside.messages.items in
    let few : length c.args.self.now.messages < most_messages = omega (arith, c.if-len-eq-MOST_MESSAGES.false, c.len.ensures, few_held ms c.self.inside.next c.self.inside.weight c.self.invariant, length-seen ms, ap (λ (q : QueueRecord). length q.messages) c.self.view_is) in
    let unspent : c.args.self.now.next < last_message_number = omega (arith, c.if-self.false, c.self.ranges, ap (λ (q : QueueRecord). q.next) c.self.view_is) in
    let same : queue_seen c.insert.new.messages.items c.self.inside.next ≡ c.args.self.now = ap (λ l. queue_seen l c.self.inside.next) c.in_err-insert.ensures.err ∙ c.self.view_is in
    search rules

pub overflow_add-self : goal.overflow_add-self
overflow_add-self c =
    omega (arith, weight_bound c.self.inside.messages.items c.self.inside.next c.self.inside.weight c.self.invariant, c.message_weight_of-weight.ensures, c.requires)

pub invariant_of-self-2 : goal.invariant_of-self-2
invariant_of-self-2 c =
    let ms = c.self.inside.messages.items in
    let next = c.self.inside.next in
    let m : Message = record { time = c.args.time; number = next; object = c.args.object; method = c.args.method; args = c.args.args } in
    let few : length ms < most_messages = omega (arith, c.if-len-eq-MOST_MESSAGES.false, c.len.ensures, few_held ms next c.self.inside.weight c.self.invariant) in
    let unused : IsUnused next (in_order (messages_seen ms)) = next-unused next (in_order (messages_seen ms)) c.self.invariant.queue.next in
    held_with_one ms c.insert.new.messages.items m next (next + 1) c.self.inside.weight c.message_weight_of-weight.result c.self.invariant c.in_ok-insert.ensures.held c.in_ok-insert.ensures.heap unused (omega arith) (omega arith) few c.requires c.message_weight_of-weight.ensures

pub returns : goal.returns
returns c =
    let ms = c.self.inside.messages.items in
    let next = c.self.inside.next in
    let m : Message = record { time = c.args.time; number = next; object = c.args.object; method = c.args.method; args = c.args.args } in
    let few : length c.args.self.now.messages < most_messages = omega (arith, c.if-len-eq-MOST_MESSAGES.false, c.len.ensures, few_held ms next c.self.inside.weight c.self.invariant, length-seen ms, ap (λ (q : QueueRecord). length q.messages) c.self.view_is) in
    let unspent : c.args.self.now.next < last_message_number = omega (arith, c.if-self.false, c.self.ranges, ap (λ (q : QueueRecord). q.next) c.self.view_is) in
    let unused : IsUnused next (in_order (messages_seen ms)) = next-unused next (in_order (messages_seen ms)) c.self.invariant.queue.next in (
      (few, unspent),
      ap (λ (q : QueueRecord). q.next) c.self.view_is,
      ap (λ l. record { messages = l; next = next + 1 }) (seen_with_one ms c.insert.new.messages.items m c.in_ok-insert.ensures.held unused c.self.invariant.queue.differ)
          ∙ ap (queue_after_push c.args.time c.args.object c.args.method (plain_values c.args.args)) c.self.view_is,
    )
