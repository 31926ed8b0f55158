use Rattle.std.proofs.Common.{arith, ap, ◌∙◌}
use Rattle.live_view.specs.declared.machine.LiveView.{LiveView}
use Rattle.live_view.specs.View.{left}
use Rattle.live_view.proofs.Machines.{held_tells, never_lost}
use Rattle.live_view.proofs.Queues.{lines_for}
use Rattle.live_view.proofs.machine.LiveView.hold_on.Goals as goal

pub returns-clause-live : goal.returns-clause-live
returns-clause-live c = record {
  knows = rw c.put_back.ensures.kept c.requires.live.knows;
  ready = rw c.put_back.ensures.kept c.requires.live.knows;
  lines = lines_for c.put_back.new.self.watcher.published _ c.put_back.new.self.queue (omega arith) c.in_ok-put_back.ensures.lines;
  lost = never_lost _ (ap (λ (v : LiveView). v.lost) c.put_back.ensures.kept ∙ c.requires.whole);
  empty = never_lost _ (ap (λ (v : LiveView). v.lost) c.put_back.ensures.kept ∙ c.requires.whole);
}

pub returns-clause-told : goal.returns-clause-told
returns-clause-told c address out =
    let s = c.args.self.now in
    let r = c.put_back.new.self in
    held_tells out address s.watcher r.watcher (left s) (left r) c.args.goal c.join_behind.result (ap (λ (v : LiveView). v.watcher) c.put_back.ensures.kept) c.join_behind.ensures c.in_ok-put_back.ensures.left
