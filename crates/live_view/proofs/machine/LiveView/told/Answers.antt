use Rattle.std.proofs.Common.{true, sym, ap, ◌∙◌}
use Rattle.live_view.specs.Lines.{read_line}
use Rattle.std.specs.Prelude.{nat_lt}
use Rattle.view_shell.specs.Viewers.{viewer}
use Rattle.live_view.specs.declared.input.LiveInput.TheVariants as tells
use Rattle.live_view.specs.declared.input.LiveInput.{LiveInput}
use Rattle.live_view.specs.declared.machine.LiveView.{LiveView}
use Rattle.live_view.specs.Doing.{phase_at}
use Rattle.live_view.specs.Live.{closes, counts, heard_step, holds_after, holds_by, is_held, joined_in, line_step, link_step, one_fewer, one_more, phase_step, revived, unlinked_by, viewer_of, wakes, waits}
use Rattle.live_view.specs.View.{left, live_state}
use Rattle.live_view.proofs.Leading.{held_as, held_told, joined_well, tells_as}
use Rattle.live_view.proofs.Machines.{closed_not, linked_not, never_well}
use Rattle.live_view.proofs.Queues.{ill, well}
use Rattle.live_view.proofs.machine.LiveView.told.Goals as goal

pub returns-in-Linked-clause-closed : goal.returns-in-Linked-clause-closed
returns-in-Linked-clause-closed c = ap (λ (v : LiveView). v.closed) c.link.ensures.kept ∙ sym (ap (closes c.args.self.now.closed) c.in-Linked.is)

pub returns-in-Linked-clause-count : goal.returns-in-Linked-clause-count
returns-in-Linked-clause-count c = ap (λ (v : LiveView). v.count) c.link.ensures.kept ∙ sym (ap (counts c.args.self.now.count) c.in-Linked.is)

pub returns-in-Linked-clause-wants : goal.returns-in-Linked-clause-wants
returns-in-Linked-clause-wants c lost not = absurd (not c.in-Linked.is)

pub returns-in-Linked-clause-joined : goal.returns-in-Linked-clause-joined
returns-in-Linked-clause-joined c address =
    let s = c.args.self.now in
    let p = phase_at s.place (viewer address s.watcher (left s)) in
    well c.link.result (ap (λ (v : LiveView). v.joined) c.link.ensures.kept ∙ sym (ap (λ (i : LiveInput). joined_in i p s.joined) c.in-Linked.is))

pub returns-in-Linked-clause-told : goal.returns-in-Linked-clause-told
returns-in-Linked-clause-told c address =
    let s = c.args.self.now in
    let p = phase_at s.place (viewer address s.watcher (left s)) in
    tells_as c.link.result c.args.out.now c.link.new.out (phase_step (live_state address s) c.args.input.now) (link_step s.closed (revived s.lost p)) (live_state address c.link.new.self).phase
    (ap (λ (i : LiveInput). phase_step (live_state address s) i) c.in-Linked.is) (c.link.ensures.told address)

pub returns-in-Says-clause-closed : goal.returns-in-Says-clause-closed
returns-in-Says-clause-closed c = ap (λ (v : LiveView). v.closed) c.hear.ensures.kept ∙ sym (ap (closes c.args.self.now.closed) c.in-Says.is)

pub returns-in-Says-clause-count : goal.returns-in-Says-clause-count
returns-in-Says-clause-count c = ap (λ (v : LiveView). v.count) c.hear.ensures.kept ∙ sym (ap (counts c.args.self.now.count) c.in-Says.is)

pub returns-in-Says-clause-wants : goal.returns-in-Says-clause-wants
returns-in-Says-clause-wants c lost not = never_well c.hear.result c.hear.new.self.lost (ap (λ (v : LiveView). v.lost) c.hear.ensures.kept ∙ lost) c.hear.ensures.whole

pub returns-in-Says-clause-joined : goal.returns-in-Says-clause-joined
returns-in-Says-clause-joined c address =
    let s = c.args.self.now in
    let p = phase_at s.place (viewer address s.watcher (left s)) in
    joined_well c.hear.result c.hear.new.self.joined _ (joined_in c.args.input.now p s.joined) (sym (ap (λ (i : LiveInput). joined_in i p s.joined) c.in-Says.is)) (c.hear.ensures.joined address)

pub returns-in-Says-clause-told : goal.returns-in-Says-clause-told
returns-in-Says-clause-told c address =
    let s = c.args.self.now in
    let p = phase_at s.place (viewer address s.watcher (left s)) in
    tells_as c.hear.result c.args.out.now c.hear.new.out (phase_step (live_state address s) c.args.input.now) (heard_step s.closed s.holds p c.in-Says.heard) (live_state address c.hear.new.self).phase
    (ap (λ (i : LiveInput). phase_step (live_state address s) i) c.in-Says.is) (c.hear.ensures.told address)

pub returns-in-Line-clause-closed : goal.returns-in-Line-clause-closed
returns-in-Line-clause-closed c = ap (λ (v : LiveView). v.closed) c.take_line.ensures.kept ∙ sym (ap (closes c.args.self.now.closed) c.in-Line.is)

pub returns-in-Line-clause-count : goal.returns-in-Line-clause-count
returns-in-Line-clause-count c = c.take_line.ensures.count ∙ sym (ap (counts c.args.self.now.count) c.in-Line.is)

pub returns-in-Line-clause-wants : goal.returns-in-Line-clause-wants
returns-in-Line-clause-wants c lost not = never_well c.take_line.result c.take_line.new.self.lost (ap (λ (v : LiveView). v.lost) c.take_line.ensures.kept ∙ lost) c.take_line.ensures.whole

pub returns-in-Line-clause-joined : goal.returns-in-Line-clause-joined
returns-in-Line-clause-joined c address =
    let s = c.args.self.now in
    let p = phase_at s.place (viewer address s.watcher (left s)) in
    well c.take_line.result (ap (λ (v : LiveView). v.joined) c.take_line.ensures.kept ∙ sym (ap (λ (i : LiveInput). joined_in i p s.joined) c.in-Line.is))

pub returns-in-Line-clause-told : goal.returns-in-Line-clause-told
returns-in-Line-clause-told c address =
    let s = c.args.self.now in
    let p = phase_at s.place (viewer address s.watcher (left s)) in
    tells_as c.take_line.result c.args.out.now c.take_line.new.out (phase_step (live_state address s) c.args.input.now) (line_step s.closed (one_more s.count) p (read_line c.in-Line.bytes)) (live_state address c.take_line.new.self).phase
    (ap (λ (i : LiveInput). phase_step (live_state address s) i) c.in-Line.is) (c.take_line.ensures.told address)

pub returns-in-Closed-clause-closed : goal.returns-in-Closed-clause-closed
returns-in-Closed-clause-closed c = ap (λ (v : LiveView). v.closed) c.close.ensures.kept ∙ sym (ap (closes c.args.self.now.closed) c.in-Closed.is)

pub returns-in-Closed-clause-count : goal.returns-in-Closed-clause-count
returns-in-Closed-clause-count c = ap (λ (v : LiveView). v.count) c.close.ensures.kept ∙ sym (ap (counts c.args.self.now.count) c.in-Closed.is)

pub returns-in-Closed-clause-wants : goal.returns-in-Closed-clause-wants
returns-in-Closed-clause-wants c lost not = never_well c.close.result c.close.new.self.lost (ap (λ (v : LiveView). v.lost) c.close.ensures.kept ∙ lost) c.close.ensures.whole

pub returns-in-Closed-clause-joined : goal.returns-in-Closed-clause-joined
returns-in-Closed-clause-joined c address =
    let s = c.args.self.now in
    let p = phase_at s.place (viewer address s.watcher (left s)) in
    well c.close.result (ap (λ (v : LiveView). v.joined) c.close.ensures.kept ∙ sym (ap (λ (i : LiveInput). joined_in i p s.joined) c.in-Closed.is))

pub returns-in-Closed-clause-told : goal.returns-in-Closed-clause-told
returns-in-Closed-clause-told c address =
    let s = c.args.self.now in
    let p = phase_at s.place (viewer address s.watcher (left s)) in
    tells_as c.close.result c.args.out.now c.close.new.out (phase_step (live_state address s) c.args.input.now) (wakes true p) (live_state address c.close.new.self).phase
    (ap (λ (i : LiveInput). phase_step (live_state address s) i) c.in-Closed.is) (c.close.ensures.told address)

pub returns-in-Linked-clause-holds : goal.returns-in-Linked-clause-holds
returns-in-Linked-clause-holds c address =
    let s = c.args.self.now in
    let p = phase_at s.place (viewer address s.watcher (left s)) in
    well c.link.result (ap (λ (v : LiveView). v.holds) c.link.ensures.kept ∙ sym (ap (λ (i : LiveInput). holds_after (live_state address s) i) c.in-Linked.is ∙ ap (λ b. one_fewer b s.holds) (linked_not s.holds p)))

pub returns-in-Linked-clause-held : goal.returns-in-Linked-clause-held
returns-in-Linked-clause-held c = ill c.link.result (ap (λ (v : LiveView). v.holds) c.link.ensures.kept)

pub returns-in-Closed-clause-holds : goal.returns-in-Closed-clause-holds
returns-in-Closed-clause-holds c address =
    let s = c.args.self.now in
    let p = phase_at s.place (viewer address s.watcher (left s)) in
    well c.close.result (ap (λ (v : LiveView). v.holds) c.close.ensures.kept ∙ sym (ap (λ (i : LiveInput). holds_after (live_state address s) i) c.in-Closed.is ∙ ap (λ b. one_fewer b s.holds) (closed_not s.holds p)))

pub returns-in-Closed-clause-held : goal.returns-in-Closed-clause-held
returns-in-Closed-clause-held c = ill c.close.result (ap (λ (v : LiveView). v.holds) c.close.ensures.kept)

pub returns-in-Says-clause-holds : goal.returns-in-Says-clause-holds
returns-in-Says-clause-holds c address =
    let s = c.args.self.now in
    let p = phase_at s.place (viewer address s.watcher (left s)) in
    held_as c.hear.result c.hear.new.self.holds (one_fewer (is_held s.holds p (tells.Says c.in-Says.heard)) s.holds) (holds_after (live_state address s) c.args.input.now)
    (sym (ap (λ (i : LiveInput). holds_after (live_state address s) i) c.in-Says.is)) (c.hear.ensures.holds address)

pub returns-in-LinkFailed-clause-holds : goal.returns-in-LinkFailed-clause-holds
returns-in-LinkFailed-clause-holds c address =
    let s = c.args.self.now in
    let p = phase_at s.place (viewer address s.watcher (left s)) in
    held_as c.miss_link.result c.miss_link.new.self.holds (one_fewer (is_held s.holds p tells.LinkFailed) s.holds) (holds_after (live_state address s) c.args.input.now)
    (sym (ap (λ (i : LiveInput). holds_after (live_state address s) i) c.in-LinkFailed.is)) (c.miss_link.ensures.holds address)

pub returns-in-Line-clause-holds : goal.returns-in-Line-clause-holds
returns-in-Line-clause-holds c address =
    let s = c.args.self.now in
    let p = phase_at s.place (viewer address s.watcher (left s)) in
    held_as c.take_line.result c.take_line.new.self.holds (holds_by s.closed (viewer_of p) (read_line c.in-Line.bytes) s.holds) (holds_after (live_state address s) c.args.input.now)
    (sym (ap (λ (i : LiveInput). holds_after (live_state address s) i) c.in-Line.is)) (c.take_line.ensures.holds address)

pub returns-in-LinkFailed-clause-closed : goal.returns-in-LinkFailed-clause-closed
returns-in-LinkFailed-clause-closed c = ap (λ (v : LiveView). v.closed) c.miss_link.ensures.kept ∙ sym (ap (closes c.args.self.now.closed) c.in-LinkFailed.is)

pub returns-in-LinkFailed-clause-count : goal.returns-in-LinkFailed-clause-count
returns-in-LinkFailed-clause-count c = ap (λ (v : LiveView). v.count) c.miss_link.ensures.kept ∙ sym (ap (counts c.args.self.now.count) c.in-LinkFailed.is)

pub returns-in-LinkFailed-clause-wants : goal.returns-in-LinkFailed-clause-wants
returns-in-LinkFailed-clause-wants c lost not = never_well c.miss_link.result c.miss_link.new.self.lost (ap (λ (v : LiveView). v.lost) c.miss_link.ensures.kept ∙ lost) c.miss_link.ensures.whole

pub returns-in-LinkFailed-clause-joined : goal.returns-in-LinkFailed-clause-joined
returns-in-LinkFailed-clause-joined c address =
    let s = c.args.self.now in
    let p = phase_at s.place (viewer address s.watcher (left s)) in
    well c.miss_link.result (ap (λ (v : LiveView). v.joined) c.miss_link.ensures.kept ∙ sym (ap (λ (i : LiveInput). joined_in i p s.joined) c.in-LinkFailed.is))

pub returns-in-LinkFailed-clause-told : goal.returns-in-LinkFailed-clause-told
returns-in-LinkFailed-clause-told c address =
    let s = c.args.self.now in
    let p = phase_at s.place (viewer address s.watcher (left s)) in
    tells_as c.miss_link.result c.args.out.now c.args.out.now (phase_step (live_state address s) c.args.input.now) (waits (unlinked_by (nat_lt 0 s.holds) p)) (live_state address c.miss_link.new.self).phase
    (ap (λ (i : LiveInput). phase_step (live_state address s) i) c.in-LinkFailed.is) (held_told c.miss_link.result c.args.out.now (live_state address c.miss_link.new.self).phase (unlinked_by (nat_lt 0 s.holds) p) (c.miss_link.ensures.told address))
