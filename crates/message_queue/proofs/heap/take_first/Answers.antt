use Rattle.std.proofs.Common.{◌≡◌, ◌<◌, ◌∷◌, List, length, subst, sym, ◌∙◌, arith, rules}
use Rattle.std.specs.List.{swap_remove}
use Rattle.std.specs.List.Sorted.{IsPermutation}
use Rattle.std.proofs.lemmas.List.Sorted.{IsPermutation-cons, IsPermutation-swap_remove, IsPermutation-trans}
use Rattle.world_plain.specs.declared.message.Message.{Message}
use Rattle.message_queue.specs.Heap.{IsHeap}
use Rattle.message_queue.proofs.Sifts.{written_back}
use Rattle.message_queue.proofs.heap.take_first.Goals as goal

pub returns-clause-held : goal.returns-clause-held
returns-clause-held g c =
    let old = c.args.messages.now.items in
    let first = c.swap_remove-first.result in
    let rest = c.swap_remove-first.new.self in
    let new = c.sink.new.messages in
    let long : length new ≡ rest.len = omega (arith, c.sink.auto.messages, c.as_mut_slice.ensures.len) in
    let some : 0 < length old = search rules in
    let taken : c.as_mut_slice.result.now ≡ swap_remove old 0 first = c.as_mut_slice.ensures.value ∙ c.swap_remove-first.ensures.items in
    let held : IsPermutation (swap_remove old 0 first) new = subst (λ (l : List Message). IsPermutation l new) taken c.sink.ensures.held in
    subst (λ (l : List Message). IsPermutation old (first ∷ l)) (sym (written_back new rest.items rest.len long))
    (IsPermutation-trans old (first ∷ swap_remove old 0 first) (first ∷ new) (IsPermutation-swap_remove old 0 first some c.swap_remove-first.ensures.value) (IsPermutation-cons first (swap_remove old 0 first) new held))

pub returns-clause-heap : goal.returns-clause-heap
returns-clause-heap g c =
    let rest = c.swap_remove-first.new.self in
    let new = c.sink.new.messages in
    let long : length new ≡ rest.len = omega (arith, c.sink.auto.messages, c.as_mut_slice.ensures.len) in
    subst IsHeap (sym (written_back new rest.items rest.len long)) c.sink.ensures.heap
