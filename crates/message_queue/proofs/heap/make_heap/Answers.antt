use Rattle.std.proofs.Common.{◌≡◌, List, length, subst, sym, arith}
use Rattle.std.specs.List.Sorted.{IsPermutation}
use Rattle.world_plain.specs.declared.message.Message.{Message}
use Rattle.message_queue.specs.Heap.{IsHeap}
use Rattle.message_queue.proofs.Sifts.{written_back}
use Rattle.message_queue.proofs.heap.make_heap.Goals as goal

pub returns-clause-held : goal.returns-clause-held
returns-clause-held c =
    let old = c.args.messages.now in
    let new = c.sink_all.new.messages in
    let long : length new ≡ old.len = omega (arith, c.sink_all.auto.messages, c.as_mut_slice.ensures.len) in
    let held : IsPermutation old.items new = subst (λ (l : List Message). IsPermutation l new) c.as_mut_slice.ensures.value c.sink_all.ensures.held in
    subst (IsPermutation old.items) (sym (written_back new old.items old.len long)) held

pub returns-clause-heap : goal.returns-clause-heap
returns-clause-heap c =
    let old = c.args.messages.now in
    let new = c.sink_all.new.messages in
    let long : length new ≡ old.len = omega (arith, c.sink_all.auto.messages, c.as_mut_slice.ensures.len) in
    subst IsHeap (sym (written_back new old.items old.len long)) c.sink_all.ensures.heap
