use Rattle.std.proofs.Common.{ℕ, false, Some, sym, ap, ◌∙◌}
use Rattle.view_shell.specs.Viewers.{viewer}
use Rattle.live_view.specs.declared.machine.LiveView.{LiveView}
use Rattle.live_view.specs.Doing.{after, phase_at}
use Rattle.live_view.specs.Lines.{read_line}
use Rattle.live_view.specs.Said.{says}
use Rattle.live_view.specs.Live.{holds_by, line_at, line_step, one_more, viewer_of}
use Rattle.live_view.specs.View.{left, live_state}
use Rattle.live_view.proofs.Leading.{held_as, tells_as}
use Rattle.live_view.proofs.Machines.{over_none, viewer_in}
use Rattle.live_view.proofs.Queues.{well}
use Rattle.live_view.proofs.machine.LiveView.take_line.Goals as goal

pub returns-then-closed-clause-live : goal.returns-then-closed-clause-live
returns-then-closed-clause-live c =
    let live = c.requires.live in
    record { knows = live.knows; ready = live.ready; lines = live.lines; lost = live.lost; empty = live.empty }

pub returns-then-closed-clause-told : goal.returns-then-closed-clause-told
returns-then-closed-clause-told c address =
    let s = c.args.self.now in
    record { tells = ap (λ b. after c.args.out.now (line_step b (one_more s.count) (phase_at s.place (viewer address s.watcher (left s))) (read_line c.args.bytes.now))) c.if-closed.true }

pub returns-then-is_gone-clause-live : goal.returns-then-is_gone-clause-live
returns-then-is_gone-clause-live c =
    let live = c.requires.live in
    record { knows = live.knows; ready = live.ready; lines = live.lines; lost = live.lost; empty = live.empty }

pub returns-then-is_gone-clause-told : goal.returns-then-is_gone-clause-told
returns-then-is_gone-clause-told c address =
    let s = c.args.self.now in
    let v = viewer address s.watcher (left s) in
    let p = phase_at s.place v in
    let read = read_line c.args.bytes.now in
    record {
      tells = ap (λ b. after c.args.out.now (line_step b (one_more s.count) p read)) c.if-closed.false
          ∙ ap (λ o. after c.args.out.now (line_at (one_more s.count) o p read)) (over_none s.place v (sym (c.is_gone.ensures address) ∙ c.if-is_gone.true));
    }

pub returns-then-closed-clause-holds : goal.returns-then-closed-clause-holds
returns-then-closed-clause-holds c address =
    let s = c.args.self.now in
    sym (ap (λ b. holds_by b (viewer_of (phase_at s.place (viewer address s.watcher (left s)))) (read_line c.args.bytes.now) s.holds) c.if-closed.true)

pub returns-then-is_gone-clause-holds : goal.returns-then-is_gone-clause-holds
returns-then-is_gone-clause-holds c address =
    let s = c.args.self.now in
    let v = viewer address s.watcher (left s) in
    let read = read_line c.args.bytes.now in
    sym (ap (λ b. holds_by b (viewer_of (phase_at s.place v)) read s.holds) c.if-closed.false
    ∙ ap (λ o. holds_by false o read s.holds) (over_none s.place v (sym (c.is_gone.ensures address) ∙ c.if-is_gone.true)))

pub take_said-requires-clause-live : goal.take_said-requires-clause-live
take_said-requires-clause-live c =
    let live = c.requires.live in
    record { knows = live.knows; ready = live.ready; lines = live.lines; lost = live.lost; empty = live.empty }

pub returns-clause-told : goal.returns-clause-told
returns-clause-told c address =
    let s = c.args.self.now in
    let v = viewer address s.watcher (left s) in
    let p = phase_at s.place v in
    let read = read_line c.args.bytes.now in
    let is = viewer_in s.place v (sym (c.is_gone.ensures address) ∙ c.if-is_gone.false) in
    tells_as c.take_said.result c.args.out.now c.take_said.new.out (line_step s.closed (one_more s.count) p read) (line_at c.one_more-count.result (Some v) p (says c.in_ok-said.said)) (live_state address c.take_said.new.self).phase
    (ap (λ b. line_step b (one_more s.count) p read) c.if-closed.false ∙ ap (λ o. line_at (one_more s.count) o p read) is
    ∙ ap (λ r. line_at (one_more s.count) (Some v) p r) (sym c.in_ok-said.ensures.says)
    ∙ ap (λ n. line_at n (Some v) p (says c.in_ok-said.said)) (sym c.one_more-count.ensures))
    (c.take_said.ensures.told address v is)

pub returns-clause-holds : goal.returns-clause-holds
returns-clause-holds c address =
    let s = c.args.self.now in
    let v = viewer address s.watcher (left s) in
    let is = viewer_in s.place v (sym (c.is_gone.ensures address) ∙ c.if-is_gone.false) in
    held_as c.take_said.result c.take_said.new.self.holds (holds_by false (Some v) (says c.in_ok-said.said) s.holds) (holds_by s.closed (viewer_of (phase_at s.place v)) (read_line c.args.bytes.now) s.holds)
    (sym (ap (λ b. holds_by b (viewer_of (phase_at s.place v)) (read_line c.args.bytes.now) s.holds) c.if-closed.false ∙ ap (λ o. holds_by false o (read_line c.args.bytes.now) s.holds) is
    ∙ ap (λ r. holds_by false (Some v) r s.holds) (sym c.in_ok-said.ensures.says)))
    (c.take_said.ensures.holds address v is)

pub returns-clause-whole : goal.returns-clause-whole
returns-clause-whole c = well c.take_said.result (ap (λ (v : LiveView). v.lost) c.take_said.ensures.kept ∙ c.if-self.false)

pub returns-clause-count : goal.returns-clause-count
returns-clause-count c = ap (λ (v : LiveView). v.count) c.take_said.ensures.kept ∙ c.one_more-count.ensures

pub returns-clause-kept : goal.returns-clause-kept
returns-clause-kept c =
    let new = c.take_said.new.self in
    c.take_said.ensures.kept ∙ ap (λ (n : ℕ). record c.args.self.now { watcher = new.watcher; queue = new.queue; place = new.place; count = n; holds = new.holds }) (sym (ap (λ (v : LiveView). v.count) c.take_said.ensures.kept))
