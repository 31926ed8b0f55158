use Rattle.std.proofs.Common.{false, Some, sym, ap, ◌∙◌}
use Rattle.view_script.specs.PlainLine.{plain_lines}
use Rattle.view_shell.specs.Viewers.{viewer}
use Rattle.live_view.specs.declared.machine.LiveView.{LiveView}
use Rattle.live_view.specs.declared.reading.Said.{Said}
use Rattle.live_view.specs.Doing.{after, phase_at}
use Rattle.live_view.specs.Lines.{Lines}
use Rattle.live_view.specs.Live.{bad_line, holds_by, line_at}
use Rattle.live_view.specs.Said.{says}
use Rattle.live_view.specs.View.{left, live_state}
use Rattle.live_view.proofs.Leading.{tells_as}
use Rattle.live_view.proofs.Queues.{well}
use Rattle.live_view.proofs.machine.LiveView.take_said.Goals as goal

pub returns-in-Nothing-clause-live : goal.returns-in-Nothing-clause-live
returns-in-Nothing-clause-live c = well c.tell_bad_line.result c.requires.live

pub returns-in-Nothing-clause-holds : goal.returns-in-Nothing-clause-holds
returns-in-Nothing-clause-holds c address v is = well c.tell_bad_line.result (sym (ap (λ (s : Said). holds_by false (Some v) (says s) c.args.self.now.holds) c.in-Nothing.is))

pub returns-in-Nothing-clause-told : goal.returns-in-Nothing-clause-told
returns-in-Nothing-clause-told c address v is =
    let s = c.args.self.now in
    let p = phase_at s.place (viewer address s.watcher (left s)) in
    tells_as c.tell_bad_line.result c.args.out.now c.tell_bad_line.new.out (line_at s.count (Some v) p (says c.args.said)) (bad_line s.count p) p
    (ap (λ (w : Said). line_at s.count (Some v) p (says w)) c.in-Nothing.is) (c.tell_bad_line.ensures p)

pub returns-in-Lines-clause-holds : goal.returns-in-Lines-clause-holds
returns-in-Lines-clause-holds c address v is =
    well c.put_lines.result (ap (λ (w : LiveView). w.holds) c.put_lines.ensures.kept ∙ sym (ap (λ (s : Said). holds_by false (Some v) (says s) c.args.self.now.holds) c.in-Lines.is))

pub returns-in-Lines-clause-told : goal.returns-in-Lines-clause-told
returns-in-Lines-clause-told c address v is =
    let s = c.args.self.now in
    let p = phase_at s.place (viewer address s.watcher (left s)) in
    tells_as c.put_lines.result c.args.out.now c.put_lines.new.out (line_at s.count (Some v) p (says c.args.said)) (line_at s.count (Some v) p (Lines (plain_lines c.in-Lines.lines.items))) (live_state address c.put_lines.new.self).phase
    (ap (λ (w : Said). line_at s.count (Some v) p (says w)) c.in-Lines.is) (c.put_lines.ensures.told address v is)

pub returns-in-Holds-clause-live : goal.returns-in-Holds-clause-live
returns-in-Holds-clause-live c =
    let live = c.requires.live in
    record { knows = live.knows; ready = live.ready; lines = live.lines; lost = live.lost; empty = live.empty }

pub returns-in-Holds-clause-holds : goal.returns-in-Holds-clause-holds
returns-in-Holds-clause-holds c address v is = sym (ap (λ (s : Said). holds_by false (Some v) (says s) c.args.self.now.holds) c.in-Holds.is)

pub returns-in-Holds-clause-told : goal.returns-in-Holds-clause-told
returns-in-Holds-clause-told c address v is =
    let s = c.args.self.now in
    let p = phase_at s.place (viewer address s.watcher (left s)) in
    record { tells = ap (λ (w : Said). after c.args.out.now (line_at s.count (Some v) p (says w))) c.in-Holds.is }
