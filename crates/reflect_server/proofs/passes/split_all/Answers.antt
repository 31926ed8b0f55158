use Rattle.std.proofs.Common.{List, All, ap, ◌∙◌, sym, subst, arith}
use Rattle.std.proofs.lemmas.List.Elements.{All-push}
use Rattle.session_lock.specs.declared.knowledge.Range.{Range}
use Rattle.session_lock.specs.Passes.{PassState}
use Rattle.reflect_server.specs.Passes.{IsFresh}
use Rattle.reflect_server.proofs.PassLaws.{split_fresh}
use Rattle.reflect_server.proofs.passes.split_all.Goals as goal

pub loop-made-preserved : goal.loop-made-preserved
loop-made-preserved g c =
    let first = c.args.lead.now in
    let held = c.loop-made.invariant in
    let split = c.in-Ok.ensures in
    let new = c.split.new.pass in
    let fresh = split_fresh first c.loop-made.lead c.in-Ok.pass 1 held.lead split.given split.numbers.0 in
    record {
      lead =
          split.kept
          ∙ (ap (λ (x : List Range). record c.loop-made.lead { spare = x }) (sym (ap (λ (p : PassState). p.spare) split.kept))
          ∙ ap (λ (p : PassState). record p { spare = new.spare }) held.lead);
      passes = subst (All (IsFresh first)) (sym c.push_reserved.ensures.items) (All-push (IsFresh first) c.loop-made.passes.items c.in-Ok.pass held.passes fresh);
      count = omega (arith, held.count, c.push_reserved.ensures.len);
      numbers = omega (arith, held.numbers, split.numbers_left);
      spare = omega (arith, held.spare, split.spare_left);
      room = omega (arith, held.room, c.push_reserved.ensures.capacity);
    }
