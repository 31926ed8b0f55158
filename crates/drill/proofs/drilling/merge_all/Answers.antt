use Rattle.std.proofs.Common.{◌≡◌, ◌++◌, ◌∷◌, [], List, length, length-append, vec_len, rules, arith, sym, ap, ◌∙◌}
use Rattle.std.proofs.lemmas.List.{map-append}
use Rattle.drill.specs.declared.drilling.Rested.{Rested}
use Rattle.drill.specs.Drilling.{HasPass, rested_of}
use Rattle.drill.proofs.Gathering.{gathers_more}
use Rattle.drill.proofs.Taken.{all_of_next}
use Rattle.drill.proofs.drilling.merge_all.Goals as goal

pub loop-one-preserved : goal.loop-one-preserved
loop-one-preserved c =
    let shared = c.args.shared.now in
    let held = c.loop-one.invariant in
    let before = c.loop-one.yielded in
    let one = c.in-Some.one in
    let taken = c.into_iter-one-iterator.ensures.into_iter_gives in
    let as_long : vec_len c.args.ended ≡ length c.args.ended.items = search rules in
    let has_pass : HasPass shared one =
    all_of_next c.into_iter-one-iterator.result c.args.ended.items taken.0 (taken.1 ∙ as_long) before c.loop-one.one-iterator c.loop-one.yielded_by c.next.new.self (HasPass shared) c.next.result one c.requires.passes c.in-Some.is c.next.ensures.steps in
    record {
      gathered = gathers_more shared before one c.loop-one.keeper c.merge.new.keep held.gathered has_pass c.merge.ensures.merged;
      numbers = omega (arith, held.numbers, c.merge.ensures.numbers, has_pass.numbers, length-append before (one ∷ []));
      rested = c.in_ok-push.ensures.items ∙ ap (λ (rs : List Rested). rs ++ rested_of one ∷ []) held.rested ∙ sym (map-append rested_of before (one ∷ []));
    }
