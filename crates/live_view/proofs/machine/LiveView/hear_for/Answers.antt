use Rattle.std.proofs.Common.{ℕ, ◌+◌, Option, arith, sym, ap, ◌∙◌}
use Rattle.view_shell.specs.Viewers.{viewer}
use Rattle.live_view.specs.declared.machine.LiveView.{LiveView}
use Rattle.live_view.specs.Doing.{aim_of, came, votes_at, votes_for}
use Rattle.live_view.specs.Live.{drives, goes_on, hears, or_joined}
use Rattle.live_view.specs.View.{left, live_state}
use Rattle.live_view.proofs.Leading.{tells_then}
use Rattle.live_view.proofs.Queues.{lines_for, well}
use Rattle.live_view.proofs.machine.LiveView.hear_for.Goals as goal

pub go_to-requires-clause-lines : goal.go_to-requires-clause-lines
go_to-requires-clause-lines c =
    lines_for (c.args.self.now.watcher.published + votes_for c.args.goal) (c.hear.new.watcher.published + votes_at c.in_ok-place.place) c.args.self.now.queue c.in_ok-place.ensures.count c.requires.lines

pub hear-requires-clause-room : goal.hear-requires-clause-room
hear-requires-clause-room c = let has = c.requires.lines.room in omega (arith, has)

pub returns-clause-told : goal.returns-clause-told
returns-clause-told c address =
    let s = c.args.self.now in
    let v = viewer address s.watcher (left s) in
    tells_then c.go_to.result c.args.out.now c.hear.new.out c.go_to.new.out (drives s.closed (hears v (aim_of c.args.goal) c.args.heard.now)) (came (λ u. goes_on s.closed u) (viewer address c.hear.new.watcher (left s)) c.in_ok-place.place) (live_state address c.go_to.new.self).phase
    ((c.in_ok-place.ensures.told address (left s)).comes (λ u. goes_on s.closed u)) (c.go_to.ensures.told address)

pub returns-clause-joined : goal.returns-clause-joined
returns-clause-joined c =
    well c.go_to.result (ap (λ (v : LiveView). v.joined) c.go_to.ensures.kept ∙ c.or_joined-entry.ensures ∙ ap (λ (j : Option ℕ). or_joined j c.args.self.now.joined) c.in_ok-joined.ensures)

pub returns-clause-kept : goal.returns-clause-kept
returns-clause-kept c =
    let new = c.go_to.new.self in
    c.go_to.ensures.kept ∙ ap (λ (j : Option ℕ). record c.args.self.now { watcher = new.watcher; queue = new.queue; place = new.place; joined = j }) (sym (ap (λ (v : LiveView). v.joined) c.go_to.ensures.kept))
