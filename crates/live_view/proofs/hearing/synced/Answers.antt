use Rattle.std.proofs.Common.{[], ap}
use Rattle.replica_plain.specs.declared.how.How.{How}
use Rattle.replica_plain.specs.declared.how.How.TheVariants.{Resume}
use Rattle.view_shell.specs.Phases.{Begins, after_sync, go_on}
use Rattle.view_shell.specs.Viewers.{viewer}
use Rattle.live_view.proofs.Leading.{comes_at}
use Rattle.live_view.proofs.hearing.synced.Goals as goal

pub returns-in-Fresh-clause-told : goal.returns-in-Fresh-clause-told
returns-in-Fresh-clause-told c address lines =
    let v = viewer address c.args.watcher.now lines in
    comes_at c.begun.result c.args.out.now c.begun.new.out (after_sync v c.args.how c.args.joined c.args.from) (go_on v [] Begins) (viewer address c.begun.new.watcher lines)
    (ap (λ (h : How). after_sync v h c.args.joined c.args.from) c.in-Fresh.is) (c.begun.ensures.told address lines)

pub returns-in-Whole-clause-told : goal.returns-in-Whole-clause-told
returns-in-Whole-clause-told c address lines =
    let v = viewer address c.args.watcher.now lines in
    comes_at c.begun-in-Whole.result c.args.out.now c.begun-in-Whole.new.out (after_sync v c.args.how c.args.joined c.args.from) (go_on v [] Begins) (viewer address c.begun-in-Whole.new.watcher lines)
    (ap (λ (h : How). after_sync v h c.args.joined c.args.from) c.in-Whole.is) (c.begun-in-Whole.ensures.told address lines)

pub returns-in-Resume-clause-told : goal.returns-in-Resume-clause-told
returns-in-Resume-clause-told c address lines =
    let v = viewer address c.args.watcher.now lines in
    comes_at c.rejoined.result c.args.out.now c.rejoined.new.out (after_sync v c.args.how c.args.joined c.args.from) (after_sync v Resume c.args.joined c.args.from) (viewer address c.rejoined.new.watcher lines)
    (ap (λ (h : How). after_sync v h c.args.joined c.args.from) c.in-Resume.is) (c.rejoined.ensures.told address lines)
