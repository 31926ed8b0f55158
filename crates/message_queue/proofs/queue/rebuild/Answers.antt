use Rattle.std.proofs.Common.{◌∙◌, sym, ap, arith}
use Rattle.std.proofs.lemmas.List.Sorted.{length_permutation}
use Rattle.world_plain.specs.World.{message_weight, total_weight}
use Rattle.message_queue.specs.View.{messages_seen}
use Rattle.message_queue.proofs.Held.{total-permuted}
use Rattle.message_queue.proofs.queue.rebuild.Goals as goal

pub returns-clause-number : goal.returns-clause-number
returns-clause-number c =
    omega (arith, c.len.ensures, c.requires.left, length_permutation c.args.messages.now.items c.make_heap.new.messages.items c.make_heap.ensures.held)

pub returns-clause-fewer : goal.returns-clause-fewer
returns-clause-fewer c = λ less. (
  c.make_heap.ensures.heap,
  c.weight_of.ensures
      ∙ ap (λ l. total_weight message_weight (messages_seen l)) c.deref.ensures.value
      ∙ sym (total-permuted c.args.messages.now.items c.make_heap.new.messages.items c.make_heap.ensures.held),
)
