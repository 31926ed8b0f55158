use Rattle.live_view.specs.Doing.{votes_at}
use Rattle.std.proofs.Common.{◌+◌, Some, arith, List, length, drop, sym, ap, subst, ◌∙◌}
use Rattle.std.specs.List.{AllByRecursion}
use Rattle.std.proofs.lemmas.List.{length-drop}
use Rattle.view_script.specs.PlainLine.{LineFits, plain_lines, publish_count}
use Rattle.view_script.specs.declared.line.ViewLine.{ViewLine}
use Rattle.live_view.proofs.Machines.{lines_told, never_lost, ready_at}
use Rattle.live_view.proofs.Queues.{lines_behind}
use Rattle.live_view.proofs.machine.LiveView.advance.Goals as goal

pub do_lines-requires-clause-fit : goal.do_lines-requires-clause-fit
do_lines-requires-clause-fit c = subst (λ (ls : List ViewLine). AllByRecursion LineFits (plain_lines ls)) (sym c.left.ensures) c.requires.lines.fit

pub do_lines-requires-clause-room : goal.do_lines-requires-clause-room
do_lines-requires-clause-room c =
    let before = ap (λ (ls : List ViewLine). publish_count (plain_lines ls)) c.left.ensures in
    let has = c.requires.lines.room in
    omega (arith, before, has)

pub begin-requires-clause-counted : goal.begin-requires-clause-counted
begin-requires-clause-counted c = c.requires.lines.counted

pub begin-requires-clause-within : goal.begin-requires-clause-within
begin-requires-clause-within c =
    let size = ap length c.left.ensures ∙ length-drop c.args.self.now.queue.begun c.args.self.now.queue.lines.items in
    let within = c.requires.lines.within in
    let few = c.in_ok-stopped.ensures.few in
    omega (arith, size, within, few)

pub returns-clause-live : goal.returns-clause-live
returns-clause-live c =
    let begun = c.begin.ensures.left ∙ ap (λ (ls : List ViewLine). plain_lines (drop c.in_ok-stopped.stopped.count ls)) (sym c.left.ensures) in
    record {
      knows = c.do_lines.ensures.knows;
      ready = ready_at c.in_ok-stopped.stopped.place c.do_lines.new.watcher c.in_ok-stopped.ensures.ready;
      lines = lines_behind c.args.self.now.watcher.published (c.do_lines.new.watcher.published + votes_at (Some c.in_ok-stopped.stopped.place)) c.in_ok-stopped.stopped.count c.args.self.now.queue c.begin.new.self c.left.result.now c.left.ensures c.requires.lines begun
          c.begin.ensures.within c.begin.ensures.counted c.in_ok-stopped.ensures.count;
      lost = never_lost c.args.self.now.lost c.requires.whole;
      empty = never_lost c.args.self.now.lost c.requires.whole;
    }

pub returns-clause-told : goal.returns-clause-told
returns-clause-told c address =
    let begun = c.begin.ensures.left ∙ ap (λ (ls : List ViewLine). plain_lines (drop c.in_ok-stopped.stopped.count ls)) (sym c.left.ensures) in
    record {
      tells = lines_told c.args.out.now c.do_lines.new.out c.args.self.now.closed address c.args.self.now.watcher c.do_lines.new.watcher c.left.result.now (drop c.args.self.now.queue.begun c.args.self.now.queue.lines.items) c.begin.new.self
          c.in_ok-stopped.stopped.place c.in_ok-stopped.stopped.count c.left.ensures begun (c.in_ok-stopped.ensures.told address);
    }
