use Rattle.std.proofs.Common.{◌≡◌, arith, false, refl, sym, ap, subst, ◌∙◌}
use Rattle.view_shell.specs.Phases.{Viewer, enter_session}
use Rattle.view_shell.specs.Viewers.{KnowsItself, viewer}
use Rattle.live_view.specs.declared.machine.LiveView.{LiveView}
use Rattle.live_view.specs.Doing.{after}
use Rattle.live_view.specs.Live.{drives, goes_on, lines_kept}
use Rattle.live_view.specs.View.{left}
use Rattle.live_view.specs.declared.input.Goal.TheVariants as goal_is
use Rattle.live_view.specs.declared.input.Place.TheVariants as at
use Rattle.live_view.proofs.Machines.{never_lost}
use Rattle.live_view.proofs.Queues.{lines_for}
use Rattle.live_view.proofs.machine.LiveView.enter.Goals as goal

pub join-requires : goal.join-requires
join-requires c = record { knows = subst KnowsItself (sym (ap (λ (v : LiveView). v.watcher) c.revive.ensures.kept)) c.requires.live.knows }

pub returns-clause-live : goal.returns-clause-live
returns-clause-live c = record {
  knows = c.join.ensures.knows;
  ready = c.in_ok-join.ensures.ready;
  lines = let same = c.in_ok-join.ensures.count in lines_for c.revive.new.self.watcher.published _ c.revive.new.self.queue (omega (arith, same)) c.in_ok-revive.ensures.lines;
  lost = never_lost false refl;
  empty = never_lost false refl;
}

pub returns-clause-told : goal.returns-clause-told
returns-clause-told c address =
    let s = c.args.self.now in
    let r = c.revive.new.self in
    let same : viewer address s.watcher (lines_kept s.lost (left s)) ≡ viewer address r.watcher (left r) =
    ap (viewer address s.watcher) (sym c.in_ok-revive.ensures.left) ∙ sym (ap (λ (v : LiveView). viewer address v.watcher (left r)) c.revive.ensures.kept) in
    record { tells = ap (λ (v : Viewer). after c.args.out.now (drives s.closed (enter_session v c.args.how))) same ∙ (c.in_ok-join.ensures.told address (left r)).comes (λ u. goes_on s.closed u) }

pub returns-clause-kept : goal.returns-clause-kept
returns-clause-kept c = ap (λ (v : LiveView). record v { watcher = c.join.new.watcher; place = at.Hears (goal_is.Join c.args.how); lost = false }) c.revive.ensures.kept
