use Rattle.std.proofs.Common.{◌≡◌, ◌-◌, ◌≤◌, length}
use Rattle.std.specs.List.Sorted.{IsPermutation}
use Rattle.message_queue.specs.Heap.{is_later}
use Rattle.message_queue.proofs.Sifts.{Rises}
use Rattle.message_queue.proofs.heap.rise.Given as goal

abbrev pub invariant-loop-at : goal.invariant-loop-at
invariant-loop-at l = record {
  within : l.at ≤ length l.messages - 1;
  long : length l.messages ≡ length l.initial.messages;
  held : IsPermutation l.initial.messages l.messages;
  rises : Rises is_later l.messages l.at (length l.messages);
}

abbrev pub decreases-loop-at : goal.decreases-loop-at
decreases-loop-at l = l.at
