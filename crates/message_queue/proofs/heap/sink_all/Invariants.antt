use Rattle.std.proofs.Common.{◌≤◌, length}
use Rattle.std.specs.List.Sorted.{IsPermutation}
use Rattle.std.specs.Slice.Heapsort.{IsHeapWithin}
use Rattle.message_queue.specs.Heap.{is_later}
use Rattle.message_queue.proofs.heap.sink_all.Given as goal

abbrev pub invariant-loop-at : goal.invariant-loop-at
invariant-loop-at g l = record {
  within : l.at ≤ length l.messages;
  held : IsPermutation l.initial.messages l.messages;
  heap : IsHeapWithin is_later l.messages l.at (length l.messages);
}

abbrev pub decreases-loop-at : goal.decreases-loop-at
decreases-loop-at g l = l.at
