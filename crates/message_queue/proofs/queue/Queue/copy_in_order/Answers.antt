use Rattle.std.proofs.Common.{◌≡◌, subst, sym, ap, ◌∙◌}
use Rattle.world_plain.specs.Valid.{NumbersDiffer}
use Rattle.message_queue.specs.Queue.{QueueRecord}
use Rattle.message_queue.specs.View.{messages_seen, in_order}
use Rattle.message_queue.proofs.Held.{seen_sorted}
use Rattle.message_queue.proofs.InOrder.{differ_before}
use Rattle.message_queue.proofs.queue.Queue.copy_in_order.Goals as goal

pub returns : goal.returns
returns c =
    let held = c.self.inside.messages.items in
    let old = c.into_vec-copies.result.items in
    let new = c.put_in_order.new.messages.items in
    let same : messages_seen old ≡ messages_seen held = ap messages_seen c.into_vec-copies.ensures ∙ c.in_ok-copy_messages.ensures ∙ ap messages_seen c.deref.ensures.value in
    let differ : NumbersDiffer (messages_seen old) = subst NumbersDiffer (sym same) (differ_before (messages_seen held) c.self.invariant.queue.differ) in
    ap messages_seen c.from_vec.ensures
    ∙ seen_sorted old new c.put_in_order.ensures.held c.put_in_order.ensures.sorted differ
    ∙ ap in_order same
    ∙ ap (λ (q : QueueRecord). q.messages) c.self.view_is
