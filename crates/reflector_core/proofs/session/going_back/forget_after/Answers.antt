use Rattle.std.proofs.Common.{◌≡◌, ◌+◌, List, [], ◌∷◌, ◌++◌, length, length-append, append_assoc, refl, ap, sym, ◌∙◌, arith}
use Rattle.std.proofs.lemmas.List.{append-nil}
use Rattle.tea_base.specs.declared.entry.Entry.{Entry}
use Rattle.reflector_core.proofs.GoingBackLaws.{take_front}
use Rattle.reflector_core.proofs.session.going_back.forget_after.Goals as goal

pub loop-gone-init : goal.loop-gone-init
loop-gone-init c = record { noted = c.requires.noted; begins = ([], sym (append-nil c.args.log.now.entries)); counted = refl }

pub forget_last-requires-clause-some : goal.forget_last-requires-clause-some
forget_last-requires-clause-some c = omega (arith, c.loop-gone.invariant.counted, c.len-gone-end.ensures.len)

pub loop-gone-preserved : goal.loop-gone-preserved
loop-gone-preserved c =
    let before = c.loop-gone.invariant in
    let left = c.forget_last.new.log.entries in
    let gone = c.forget_last.ensures.entries in
    let one : length c.loop-gone.log.entries ≡ length left + 1 = ap length gone.1 ∙ length-append left (gone.0 ∷ []) in
    record {
      noted = c.forget_last.ensures.noted;
      begins = (gone.0 ∷ before.begins.0, before.begins.1 ∙ ap (λ (l : List Entry). l ++ before.begins.0) gone.1 ∙ append_assoc left (gone.0 ∷ []) before.begins.0);
      counted = omega (arith, one, before.counted);
    }

pub returns-clause-entries : goal.returns-clause-entries
returns-clause-entries c =
    take_front c.args.log.now.entries c.loop-gone.log.entries c.loop-gone.invariant.begins.0 c.args.len c.loop-gone.invariant.begins.1 (omega (arith, c.loop-gone.invariant.counted, c.len-gone-end.ensures.len, c.requires.within))
