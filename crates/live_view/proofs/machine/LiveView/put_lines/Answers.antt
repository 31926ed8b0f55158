use Rattle.std.proofs.Common.{◌+◌, Some, List, arith, true, false, Bool, sym, ap, ◌∙◌}
use Rattle.view_script.specs.PlainLine.{plain_lines, publish_count}
use Rattle.view_script.specs.declared.line.ViewLine.{ViewLine}
use Rattle.view_shell.specs.Phases.{Phase}
use Rattle.view_shell.specs.Viewers.{viewer}
use Rattle.live_view.specs.Doing.{phase_at, votes_at}
use Rattle.live_view.specs.Live.{bad_line, has_room, if_room, votes_in, wakes}
use Rattle.live_view.specs.View.{left, live_state, queue_left}
use Rattle.live_view.proofs.Leading.{tells_as}
use Rattle.live_view.proofs.Machines.{has_room_is, more_at, never_lost}
use Rattle.live_view.proofs.Queues.{lines_more, no_room, room_for, well}
use Rattle.live_view.proofs.machine.LiveView.put_lines.Goals as goal

pub returns-then-publishes-room-clause-told : goal.returns-then-publishes-room-clause-told
returns-then-publishes-room-clause-told c address v is =
    let s = c.args.self.now in
    let more = plain_lines c.args.more.items in
    let p = phase_at s.place (viewer address s.watcher (left s)) in
    let counts = c.publish_count-publishes.ensures ∙ ap (λ (ls : List ViewLine). publish_count (plain_lines ls)) c.deref.ensures.value in
    let over = c.if-publishes-room.true in
    let few = c.taken-taken.ensures.few in
    let none = no_room c.taken-taken.result c.publish_count-publishes.result _ (publish_count more) c.taken-taken.ensures.count counts (omega (arith, few, over)) in
    tells_as c.tell_bad_line.result c.args.out.now c.tell_bad_line.new.out (if_room (has_room (votes_in p) v more) s.count p more) (bad_line s.count p) p
    (ap (λ (b : Bool). if_room b s.count p more) (has_room_is false s.place address s.watcher (left s) more v is c.requires.live.knows.published none)) (c.tell_bad_line.ensures p)

pub wake-requires-clause-live : goal.wake-requires-clause-live
wake-requires-clause-live c =
    let s = c.args.self.now in
    let live = c.requires.live in
    record {
      knows = live.knows;
      ready = live.ready;
      lines = lines_more (s.watcher.published + votes_at (Some s.place)) c.publish_count-publishes.result s.queue c.put.new.self (plain_lines c.args.more.items) live.lines c.requires.fit (c.publish_count-publishes.ensures ∙ ap (λ (ls : List ViewLine). publish_count (plain_lines ls)) c.deref.ensures.value) c.in_ok-put.ensures.left c.in_ok-put.ensures.within c.in_ok-put.ensures.counted
          (let some = c.taken-taken.ensures.few in let taken = c.taken-taken.ensures.count in let few = c.if-publishes-room.false in omega (arith, some, taken, few));
      lost = never_lost s.lost c.requires.whole;
      empty = never_lost s.lost c.requires.whole;
    }

pub returns-clause-told : goal.returns-clause-told
returns-clause-told c address v is =
    let s = c.args.self.now in
    let more = plain_lines c.args.more.items in
    let p = phase_at s.place (viewer address s.watcher (left s)) in
    let counts = c.publish_count-publishes.ensures ∙ ap (λ (ls : List ViewLine). publish_count (plain_lines ls)) c.deref.ensures.value in
    let some = c.taken-taken.ensures.few in
    let few = c.if-publishes-room.false in
    let fits = room_for c.taken-taken.result c.publish_count-publishes.result _ (publish_count more) c.taken-taken.ensures.count counts (omega (arith, some, few)) in
    let q = phase_at s.place (viewer address s.watcher (queue_left c.put.new.self)) in
    tells_as c.wake.result c.args.out.now c.wake.new.out (if_room (has_room (votes_in p) v more) s.count p more) (wakes s.closed q) (live_state address c.wake.new.self).phase
    (ap (λ (b : Bool). if_room b s.count p more) (has_room_is true s.place address s.watcher (left s) more v is c.requires.live.knows.published fits)
    ∙ ap (λ (phase : Phase). wakes false phase) (more_at s.place address s.watcher (left s) more (queue_left c.put.new.self) c.in_ok-put.ensures.left)
    ∙ ap (λ (b : Bool). wakes b q) (sym c.requires.open)) (c.wake.ensures.told address)

pub returns-then-publishes-room-clause-live : goal.returns-then-publishes-room-clause-live
returns-then-publishes-room-clause-live c = well c.tell_bad_line.result c.requires.live

pub put-requires-clause-few : goal.put-requires-clause-few
put-requires-clause-few c =
    let some = c.taken-taken.ensures.few in
    let taken = c.taken-taken.ensures.count in
    let counted = c.requires.live.lines.counted in
    let few = c.if-publishes-room.false in
    omega (arith, some, taken, counted, few)
