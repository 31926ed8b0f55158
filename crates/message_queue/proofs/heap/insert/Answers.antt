use Rattle.std.proofs.Common.{◌≡◌, ◌++◌, ◌∷◌, [], List, length, subst, sym, ◌∙◌, arith}
use Rattle.std.specs.List.Sorted.{IsPermutation}
use Rattle.std.proofs.lemmas.List.Sorted.{IsPermutation-sym, IsPermutation-to_front, IsPermutation-trans}
use Rattle.world_plain.specs.declared.message.Message.{Message}
use Rattle.message_queue.proofs.Sifts.{written_back}
use Rattle.message_queue.proofs.heap.insert.Goals as goal

pub returns-clause-held : goal.returns-clause-held
returns-clause-held c =
    let old = c.args.messages.now.items in
    let m = c.args.message in
    let new = c.rise.new.messages in
    let long : length new ≡ c.push.new.self.len = omega (arith, c.rise.auto.messages, c.as_mut_slice.ensures.len) in
    let pushed : c.as_mut_slice.result.now ≡ old ++ m ∷ [] = c.as_mut_slice.ensures.value ∙ c.in_ok-push.ensures.items in
    let held : IsPermutation (old ++ m ∷ []) new = subst (λ (l : List Message). IsPermutation l new) pushed c.rise.ensures.held in
    subst (IsPermutation (m ∷ old)) (sym (written_back new c.push.new.self.items c.push.new.self.len long))
    (IsPermutation-trans (m ∷ old) (old ++ m ∷ []) new (IsPermutation-sym (old ++ m ∷ []) (m ∷ old) (IsPermutation-to_front old m)) held)
