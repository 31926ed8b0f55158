use Rattle.std.proofs.Common.{rules}
use Rattle.std.proofs.lemmas.List.Sorted.{answers_always}
use Rattle.message_queue.specs.Heap.{is_sooner}
use Rattle.message_queue.proofs.Before.{sooner_order}
use Rattle.message_queue.proofs.heap.put_in_order.Goals as goal

pub returns-clause-sorted : goal.returns-clause-sorted
returns-clause-sorted c = c.sort_unstable_by.ensures.sorted is_sooner sooner_order (answers_always _ _ _ (λ f a r h k. search rules))
