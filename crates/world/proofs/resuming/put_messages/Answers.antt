use Rattle.std.proofs.Common.{◌+◌, ◌∙◌, map, drop, ap}
use Rattle.world_plain.specs.Messages.{plain_message}
use Rattle.world_plain.specs.World.{world_record}
use Rattle.message_queue.specs.Queue.{QueueRecord}
use Rattle.world.proofs.PutBack.{next-message, put-next}
use Rattle.world.proofs.resuming.put_messages.Goals as goal

pub put_back-requires-clause-below : goal.put_back-requires-clause-below
put_back-requires-clause-below c =
    rw (c.loop-message.invariant.next) (next-message (world_record c.args.plain.now) c.loop-message.queue.messages c.as_slice-message-items.result.now c.loop-message.message-index c.message-item.result (plain_message c.in_ok-copy_message.field-0) c.requires c.loop-message-test.true c.message-item.is c.in_ok-copy_message.ensures c.loop-message.invariant.messages).below

pub put_back-requires-clause-unused : goal.put_back-requires-clause-unused
put_back-requires-clause-unused c =
    (next-message (world_record c.args.plain.now) c.loop-message.queue.messages c.as_slice-message-items.result.now c.loop-message.message-index c.message-item.result (plain_message c.in_ok-copy_message.field-0) c.requires c.loop-message-test.true c.message-item.is c.in_ok-copy_message.ensures c.loop-message.invariant.messages).unused

pub put_back-requires-clause-few : goal.put_back-requires-clause-few
put_back-requires-clause-few c =
    (next-message (world_record c.args.plain.now) c.loop-message.queue.messages c.as_slice-message-items.result.now c.loop-message.message-index c.message-item.result (plain_message c.in_ok-copy_message.field-0) c.requires c.loop-message-test.true c.message-item.is c.in_ok-copy_message.ensures c.loop-message.invariant.messages).few

pub put_back-requires-clause-light : goal.put_back-requires-clause-light
put_back-requires-clause-light c =
    (next-message (world_record c.args.plain.now) c.loop-message.queue.messages c.as_slice-message-items.result.now c.loop-message.message-index c.message-item.result (plain_message c.in_ok-copy_message.field-0) c.requires c.loop-message-test.true c.message-item.is c.in_ok-copy_message.ensures c.loop-message.invariant.messages).light

pub loop-message-preserved : goal.loop-message-preserved
loop-message-preserved c =
    let one = next-message (world_record c.args.plain.now) c.loop-message.queue.messages c.as_slice-message-items.result.now c.loop-message.message-index c.message-item.result (plain_message c.in_ok-copy_message.field-0) c.requires c.loop-message-test.true c.message-item.is c.in_ok-copy_message.ensures c.loop-message.invariant.messages in
    record {
      messages = put-next c.loop-message.queue.messages c.put_back.new.self.messages (map plain_message (drop (c.loop-message.message-index + 1) c.as_slice-message-items.result.now)) (world_record c.args.plain.now).pending (plain_message c.in_ok-copy_message.field-0) one.whole (ap (λ (q : QueueRecord). q.messages) c.in_ok-put_back.ensures.ok ∙ one.last);
      next = ap (λ (q : QueueRecord). q.next) c.in_ok-put_back.ensures.ok ∙ c.loop-message.invariant.next;
    }
