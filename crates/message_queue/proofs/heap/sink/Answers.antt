use Rattle.std.proofs.Common.{true, false, length, subst, sym, ◌∙◌, arith}
use Rattle.std.proofs.lemmas.List.Sorted.{IsPermutation-refl, IsPermutation-trans}
use Rattle.std.proofs.slice.Heaps.{Hole, begins, sinks, rests, at_leaf}
use Rattle.message_queue.specs.Heap.{is_later}
use Rattle.message_queue.proofs.Before.{later_order}
use Rattle.message_queue.proofs.Sifts.{read_both, none_counted, two_counted, few_counted}
use Rattle.message_queue.proofs.heap.sink.Goals as goal

pub loop-at-init : goal.loop-at-init
loop-at-init g c =
    let ms = c.args.messages.now in
    let place = c.args.place in
    record {
      behind = omega arith;
      within = omega (arith, c.requires.within);
      long = omega arith;
      held = IsPermutation-refl ms;
      sinks = begins is_later ms place (length ms) c.requires.behind;
      counted = none_counted place c.args.steps.now;
    }

pub loop-at-preserved : goal.loop-at-preserved
loop-at-preserved g c =
    let l = c.loop-at in
    let child = c.sooner_child-child.result in
    let n = length l.messages in
    let bound = c.sooner_child-child.ensures.child in
    let once = c.sooner_child-child.ensures.count in
    let twice = c.precedes_counted.ensures.count in
    let behind = l.invariant.behind in
    let long = l.invariant.long in
    let len = c.swap.ensures.len in
    let later = sym c.precedes_counted.ensures.answer ∙ c.if-not-precedes_counted.false in
    let told = read_both is_later l.messages l.at child _ _ true (omega arith) (omega arith) c.index-messages-at.is c.index-messages-child.is later in
    record {
      behind = omega arith;
      within = omega arith;
      long = omega arith;
      held = IsPermutation-trans c.args.messages.now l.messages c.swap.new.self l.invariant.held c.swap.ensures.permutation;
      sinks = subst (λ m. Hole is_later c.swap.new.self c.args.place child m) (sym len)
          (sinks is_later later_order l.messages c.swap.new.self c.args.place l.at child n (omega arith) (omega arith) (omega arith) (omega arith) (omega arith) c.swap.ensures.after told c.sooner_child-child.ensures.sooner l.invariant.sinks);
      counted = two_counted l.at child c.args.steps.now l.steps c.precedes_counted.new.steps (omega arith) (omega arith) (omega arith) l.invariant.counted;
    }

pub returns-then-not-precedes_counted : goal.returns-then-not-precedes_counted
returns-then-not-precedes_counted g c =
    let l = c.loop-at in
    let child = c.sooner_child-child.result in
    let n = length l.messages in
    let bound = c.sooner_child-child.ensures.child in
    let once = c.sooner_child-child.ensures.count in
    let twice = c.precedes_counted.ensures.count in
    let later = sym c.precedes_counted.ensures.answer ∙ c.if-not-precedes_counted.true in
    let told = read_both is_later l.messages l.at child _ _ false (omega arith) (omega arith) c.index-messages-at.is c.index-messages-child.is later in
    record {
      held = l.invariant.held;
      heap = rests is_later later_order l.messages c.args.place l.at child n told c.sooner_child-child.ensures.sooner l.invariant.sinks;
      count = few_counted l.at (length c.args.messages.now) c.args.steps.now l.steps c.precedes_counted.new.steps (omega (arith, l.invariant.within, l.invariant.long)) (omega arith) (omega arith) l.invariant.counted;
    }

pub returns : goal.returns
returns g c =
    let l = c.loop-at in
    let leaf = c.loop-at-test.false in
    record {
      held = l.invariant.held;
      heap = at_leaf is_later l.messages c.args.place l.at (length l.messages) (omega arith) l.invariant.sinks;
      count = few_counted l.at (length c.args.messages.now) c.args.steps.now l.steps l.steps (omega (arith, l.invariant.within, l.invariant.long)) (omega arith) (omega arith) l.invariant.counted;
    }
