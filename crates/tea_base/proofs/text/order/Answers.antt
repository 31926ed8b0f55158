use Rattle.std.proofs.Common.{sym, ◌∙◌}
use Rattle.std.specs.Str.{chars}
use Rattle.std.specs.Str.Iter.{chars_rest}
use Rattle.tea_base.proofs.Characters.{ended, went, same_front, other_front}
use Rattle.tea_base.proofs.text.order.Goals as goal

pub returns-in-None-None : goal.returns-in-None-None
returns-in-None-None c =
    let mine = ended c.loop-a.mine c.next.new.self c.next.result c.in-None-None.is-0 c.next.ensures.steps in
    let others = ended c.loop-a.others c.next-in-loop-a.new.self c.next-in-loop-a.result c.in-None-None.is-1 c.next-in-loop-a.ensures.steps in
    rw (mine, others) at c.loop-a.invariant.same

pub returns-in-None-Some : goal.returns-in-None-Some
returns-in-None-Some c =
    let mine = ended c.loop-a.mine c.next.new.self c.next.result c.in-None-Some.is-0 c.next.ensures.steps in
    let others = went c.loop-a.others c.next-in-loop-a.new.self c.next-in-loop-a.result c.in-None-Some.field-0-1 c.loop-a.invariant.others_is_text c.in-None-Some.is-1 c.next-in-loop-a.ensures.steps in
    rw (mine, others.characters) at c.loop-a.invariant.same

pub returns-in-Some-None : goal.returns-in-Some-None
returns-in-Some-None c =
    let mine = went c.loop-a.mine c.next.new.self c.next.result c.in-Some-None.field-0-0 c.loop-a.invariant.mine_is_text c.in-Some-None.is-0 c.next.ensures.steps in
    let others = ended c.loop-a.others c.next-in-loop-a.new.self c.next-in-loop-a.result c.in-Some-None.is-1 c.next-in-loop-a.ensures.steps in
    rw (mine.characters, others) at c.loop-a.invariant.same

pub returns-then-a-b : goal.returns-then-a-b
returns-then-a-b c =
    let mine = went c.loop-a.mine c.next.new.self c.next.result c.in-Some-Some.a c.loop-a.invariant.mine_is_text c.in-Some-Some.is-0 c.next.ensures.steps in
    let others = went c.loop-a.others c.next-in-loop-a.new.self c.next-in-loop-a.result c.in-Some-Some.b c.loop-a.invariant.others_is_text c.in-Some-Some.is-1 c.next-in-loop-a.ensures.steps in
    let fronts = rw (mine.characters, others.characters) at c.loop-a.invariant.same in
    c.cmp.ensures ∙ sym (other_front c.in-Some-Some.a c.in-Some-Some.b (chars (chars_rest c.next.new.self)) (chars (chars_rest c.next-in-loop-a.new.self)) c.if-a-b.true) ∙ fronts

pub loop-a-preserved : goal.loop-a-preserved
loop-a-preserved c =
    let mine = went c.loop-a.mine c.next.new.self c.next.result c.in-Some-Some.a c.loop-a.invariant.mine_is_text c.in-Some-Some.is-0 c.next.ensures.steps in
    let others = went c.loop-a.others c.next-in-loop-a.new.self c.next-in-loop-a.result c.in-Some-Some.b c.loop-a.invariant.others_is_text c.in-Some-Some.is-1 c.next-in-loop-a.ensures.steps in
    let fronts = rw (mine.characters, others.characters) at c.loop-a.invariant.same in
    record {
      mine_is_text = mine.is_text;
      others_is_text = others.is_text;
      same = sym (same_front c.in-Some-Some.a c.in-Some-Some.b (chars (chars_rest c.next.new.self)) (chars (chars_rest c.next-in-loop-a.new.self)) c.if-a-b.false) ∙ fronts;
    }
