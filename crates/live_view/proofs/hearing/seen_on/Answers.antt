use Rattle.std.proofs.Common.{◌≡◌, ◌≤◌, ◌<◌, Bool, true, false, ap, arith}
use Rattle.std.specs.Prelude.{nat_le}
use Rattle.std.proofs.lemmas.Bool.Decides.{nat_tests}
use Rattle.view_shell.specs.Phases.{after_entry}
use Rattle.view_shell.specs.Viewers.{viewer}
use Rattle.live_view.proofs.Leading.{comes_at}
use Rattle.live_view.proofs.hearing.seen_on.Goals as goal

pub returns-then-at-seen-clause-told : goal.returns-then-at-seen-clause-told
returns-then-at-seen-clause-told c address lines =
    let v = viewer address c.args.watcher.now lines in
    let late : c.args.at ≤ v.replica.seen = omega (arith, c.if-at-seen.true, c.seen_of-seen.ensures) in
    let has : nat_le c.args.at v.replica.seen ≡ true = grind (arith, nat_tests, late) in
    comes_at c.put_vote.result c.args.out.now c.put_vote.new.out (after_entry (nat_le c.args.at v.replica.seen) v c.args.at) (after_entry true v c.args.at) (viewer address c.put_vote.new.watcher lines)
    (ap (λ (b : Bool). after_entry b v c.args.at) has) (c.put_vote.ensures.told address lines)

pub returns-clause-told : goal.returns-clause-told
returns-clause-told c address lines =
    let v = viewer address c.args.watcher.now lines in
    let early : v.replica.seen < c.args.at = omega (arith, c.if-at-seen.false, c.seen_of-seen.ensures) in
    let has : nat_le c.args.at v.replica.seen ≡ false = grind (arith, nat_tests, early) in
    comes_at c.hear_on.result c.args.out.now c.hear_on.new.out (after_entry (nat_le c.args.at v.replica.seen) v c.args.at) (after_entry false v c.args.at) (viewer address c.hear_on.new.watcher lines)
    (ap (λ (b : Bool). after_entry b v c.args.at) has) (c.hear_on.ensures.told address lines)
