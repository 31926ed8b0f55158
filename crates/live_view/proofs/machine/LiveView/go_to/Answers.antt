use Rattle.std.proofs.Common.{◌+◌, arith, ap, subst}
use Rattle.view_shell.specs.Viewers.{viewer}
use Rattle.live_view.specs.Doing.{IsReadyAt, after, came, votes_at}
use Rattle.live_view.specs.Live.{goes_on}
use Rattle.live_view.specs.View.{HasLines, left, live_state}
use Rattle.live_view.specs.declared.input.Place.{Place}
use Rattle.std.proofs.Common.{Option}
use Rattle.live_view.proofs.Leading.{tells_as}
use Rattle.live_view.proofs.Machines.{never_lost}
use Rattle.live_view.proofs.Queues.{lines_for}
use Rattle.live_view.proofs.machine.LiveView.go_to.Goals as goal

pub advance-requires-clause-ready : goal.advance-requires-clause-ready
advance-requires-clause-ready c = subst (λ (p : Option Place). IsReadyAt p c.args.self.now.watcher) c.in-None.is c.requires.ready

pub advance-requires-clause-lines : goal.advance-requires-clause-lines
advance-requires-clause-lines c =
    lines_for (c.args.self.now.watcher.published + votes_at c.args.place) c.args.self.now.watcher.published c.args.self.now.queue (omega arith) c.requires.lines

pub returns-in-None-clause-told : goal.returns-in-None-clause-told
returns-in-None-clause-told c address =
    let s = c.args.self.now in
    let v = viewer address s.watcher (left s) in
    tells_as c.advance.result c.args.out.now c.advance.new.out (came (λ u. goes_on s.closed u) v c.args.place) (goes_on s.closed v) (live_state address c.advance.new.self).phase
    (ap (λ (p : Option Place). came (λ u. goes_on s.closed u) v p) c.in-None.is) (c.advance.ensures.told address)

pub returns-in-Some-clause-live : goal.returns-in-Some-clause-live
returns-in-Some-clause-live c = record {
  knows = c.requires.knows;
  ready = subst (λ (p : Option Place). IsReadyAt p c.args.self.now.watcher) c.in-Some.is c.requires.ready;
  lines = subst (λ (p : Option Place). HasLines (c.args.self.now.watcher.published + votes_at p) c.args.self.now.queue) c.in-Some.is c.requires.lines;
  lost = never_lost c.args.self.now.lost c.requires.whole;
  empty = never_lost c.args.self.now.lost c.requires.whole;
}

pub returns-in-Some-clause-told : goal.returns-in-Some-clause-told
returns-in-Some-clause-told c address =
    let s = c.args.self.now in
    record { tells = ap (λ (p : Option Place). after c.args.out.now (came (λ u. goes_on s.closed u) (viewer address s.watcher (left s)) p)) c.in-Some.is }
