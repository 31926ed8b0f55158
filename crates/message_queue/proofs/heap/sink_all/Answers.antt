use Rattle.std.proofs.Common.{◌≡◌, ◌+◌, ◌-◌, length, subst, arith}
use Rattle.std.proofs.lemmas.List.Sorted.{IsPermutation-refl, IsPermutation-trans}
use Rattle.std.proofs.slice.Heaps.{leaves}
use Rattle.std.specs.Slice.Heapsort.{IsHeapWithin}
use Rattle.message_queue.specs.Heap.{is_later}
use Rattle.message_queue.proofs.heap.sink_all.Goals as goal

pub loop-at-init : goal.loop-at-init
loop-at-init g c =
    let ms = c.args.messages.now in
    record { within = omega arith; held = IsPermutation-refl ms; heap = leaves is_later ms _ _ (omega arith) }

pub sink-requires-clause-behind : goal.sink-requires-clause-behind
sink-requires-clause-behind g c =
    let l = c.loop-at in
    let some = c.loop-at-test.true in
    let next : l.at ≡ l.at - 1 + 1 = omega arith in
    subst (λ low. IsHeapWithin is_later l.messages low (length l.messages)) next l.invariant.heap

pub loop-at-preserved : goal.loop-at-preserved
loop-at-preserved g c =
    let l = c.loop-at in
    record {
      within = omega (arith, c.sink.auto.messages, l.invariant.within);
      held = IsPermutation-trans c.args.messages.now l.messages c.sink.new.messages l.invariant.held c.sink.ensures.held;
      heap = c.sink.ensures.heap;
    }

pub returns : goal.returns
returns g c =
    let l = c.loop-at in
    let none = c.loop-at-test.false in
    let first : l.at ≡ 0 = omega arith in
    record { held = l.invariant.held; heap = subst (λ low. IsHeapWithin is_later l.messages low (length l.messages)) first l.invariant.heap }
