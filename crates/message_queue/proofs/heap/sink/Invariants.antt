use Rattle.std.proofs.Common.{◌≡◌, ◌-◌, ◌≤◌, length}
use Rattle.std.specs.List.Sorted.{IsPermutation}
use Rattle.std.proofs.slice.Heaps.{Hole}
use Rattle.message_queue.specs.Heap.{is_later}
use Rattle.message_queue.proofs.Sifts.{Counted}
use Rattle.message_queue.proofs.heap.sink.Given as goal

abbrev pub invariant-loop-at : goal.invariant-loop-at
invariant-loop-at g l = record {
  behind : l.place ≤ l.at;
  within : l.at ≤ length l.messages;
  long : length l.messages ≡ length l.initial.messages;
  held : IsPermutation l.initial.messages l.messages;
  sinks : Hole is_later l.messages l.place l.at (length l.messages);
  counted : Counted l.at l.initial.steps l.steps;
}

abbrev pub decreases-loop-at : goal.decreases-loop-at
decreases-loop-at g l = length l.messages - l.at
