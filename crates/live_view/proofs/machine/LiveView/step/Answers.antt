use Rattle.std.proofs.Common.{ap, ◌∙◌}
use Rattle.view_shell.specs.Viewers.{viewer}
use Rattle.live_view.specs.declared.machine.LiveView.{LiveView}
use Rattle.live_view.specs.Doing.{phase_at}
use Rattle.live_view.specs.Live.{closes, counts, holds_after, joined_in, phase_step}
use Rattle.live_view.specs.View.{left, live_state, told_by}
use Rattle.std.proofs.Common.{[], string_bytes}
use Rattle.live_view.proofs.Machines.{live_on, stepped, told_all}
use Rattle.live_view.proofs.machine.LiveView.step.Goals as goal

pub returns-in-Ok-clause-live : goal.returns-in-Ok-clause-live
returns-in-Ok-clause-live c = live_on c.told.new.self c.arrive-here.new.self _ (c.arrive-here.ensures.kept []) c.in-Ok.ensures.live

pub returns-in-Ok-clause-ok : goal.returns-in-Ok-clause-ok
returns-in-Ok-clause-ok c address =
    let s = c.args.self.now in
    let t = c.told.new.self in
    let out = c.told.new.out in
    let p = phase_at t.place (viewer address t.watcher (left t)) in
    let told = told_all c.new-out.result out (phase_step (live_state address s) c.args.input.now) p c.new-out.ensures.frames c.new-out.ensures.text ((c.in-Ok.ensures.told address).tells) in
    ap (λ (v : LiveView). told_by address (record out { here = c.arrive-here.result }) v) (c.arrive-here.ensures.kept address)
    ∙ stepped (phase_step (live_state address s) c.args.input.now) out.frames (string_bytes out.text) p t.closed (closes s.closed c.args.input.now) t.count (counts s.count c.args.input.now) t.holds (holds_after (live_state address s) c.args.input.now)
    t.joined (joined_in c.args.input.now (phase_at s.place (viewer address s.watcher (left s))) s.joined) t.lost c.arrive-here.result told c.told.ensures.closed c.told.ensures.count (c.in-Ok.ensures.holds address) (c.in-Ok.ensures.joined address) c.in-Ok.ensures.whole (c.arrive-here.ensures.here address)

pub returns-in-Ok-clause-wants : goal.returns-in-Ok-clause-wants
returns-in-Ok-clause-wants c = c.in-Ok.ensures.wants

pub returns-in-Err-clause-err : goal.returns-in-Err-clause-err
returns-in-Err-clause-err c = record {
  lost = ap (λ (v : LiveView). v.lost) c.lose.ensures.kept;
  wants = ap (λ (v : LiveView). v.place) c.lose.ensures.kept;
  closed = ap (λ (v : LiveView). v.closed) c.lose.ensures.kept ∙ c.told.ensures.closed;
  count = ap (λ (v : LiveView). v.count) c.lose.ensures.kept ∙ c.told.ensures.count;
  holds = ap (λ (v : LiveView). v.holds) c.lose.ensures.kept ∙ c.in-Err.ensures.held;
  joined = ap (λ (v : LiveView). v.joined) c.lose.ensures.kept;
}
