use Rattle.std.proofs.Common.{◌-◌, ◌/◌, true, false, length, subst, sym, ◌∙◌, arith}
use Rattle.std.proofs.lemmas.List.Sorted.{IsPermutation-refl, IsPermutation-trans}
use Rattle.message_queue.specs.Heap.{is_later}
use Rattle.message_queue.proofs.Before.{later_order}
use Rattle.message_queue.proofs.Sifts.{Rises, rise_begins, rise_tops, rise_rests, rise_steps, read_both}
use Rattle.message_queue.proofs.heap.rise.Goals as goal

pub loop-at-init : goal.loop-at-init
loop-at-init c =
    let ms = c.args.messages.now in
    let e = c.saturating_sub-at.ensures in
    record {
      within = omega arith;
      long = omega arith;
      held = IsPermutation-refl ms;
      rises = rise_begins is_later ms c.saturating_sub-at.result (length ms) (omega arith) (λ p k d lo a b f. c.requires p k d lo a b (omega arith));
    }

pub loop-at-preserved : goal.loop-at-preserved
loop-at-preserved c =
    let l = c.loop-at in
    let parent = (l.at - 1) / 2 in
    let first = c.loop-at-test.true in
    let within = l.invariant.within in
    let long = l.invariant.long in
    let len = c.swap.ensures.len in
    let later = sym c.precedes.ensures ∙ c.if-not-precedes.false in
    let told = read_both is_later l.messages parent l.at _ _ true (omega arith) (omega arith) c.index-messages-parent.is c.index-messages-at.is later in
    record {
      within = omega arith;
      long = omega arith;
      held = IsPermutation-trans c.args.messages.now l.messages c.swap.new.self l.invariant.held c.swap.ensures.permutation;
      rises = subst (λ n. Rises is_later c.swap.new.self parent n) (sym len) (rise_steps is_later later_order l.messages c.swap.new.self parent l.at (length l.messages) (omega arith) (omega arith) (omega arith) c.swap.ensures.by_index told l.invariant.rises);
    }

pub returns-then-not-precedes : goal.returns-then-not-precedes
returns-then-not-precedes c =
    let l = c.loop-at in
    let parent = (l.at - 1) / 2 in
    let first = c.loop-at-test.true in
    let within = l.invariant.within in
    let later = sym c.precedes.ensures ∙ c.if-not-precedes.true in
    let told = read_both is_later l.messages parent l.at _ _ false (omega arith) (omega arith) c.index-messages-parent.is c.index-messages-at.is later in
    record { held = l.invariant.held; heap = rise_rests is_later l.messages parent l.at (length l.messages) (omega arith) (omega arith) told l.invariant.rises }

pub returns : goal.returns
returns c =
    let l = c.loop-at in
    let top = c.loop-at-test.false in
    record { held = l.invariant.held; heap = rise_tops is_later l.messages l.at (length l.messages) (omega arith) l.invariant.rises }
