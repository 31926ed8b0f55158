use Rattle.std.proofs.Common.{◌≡◌, ◌-◌, List, [], drop, length, take, refl, sym, ap, subst, arith}
use Rattle.std.specs.List.{AllByRecursion}
use Rattle.replica_plain.specs.declared.how.How.TheVariants.{Fresh}
use Rattle.run_steps.specs.Outside.{links_tell, net_tells, output_tells}
use Rattle.run_steps.specs.declared.calls.CallFault.TheVariants as fault
use Rattle.view_script.specs.PlainLine.{LineFits, PlainLine, plain_lines}
use Rattle.view_script.specs.declared.line.ViewLine.{ViewLine}
use Rattle.view_shell.specs.declared.lines.Departure.TheVariants as departure
use Rattle.view_shell.specs.Phases.{Connecting}
use Rattle.view_shell.specs.Viewers.{HasRoomBehind, HasRoomFor, viewer}
use Rattle.view_shell.proofs.LinkTurns.{attended_again, attended_done, attended_stops, no_link}
use Rattle.view_shell.proofs.Visits.{few_behind, fits_behind, leaves_knowing, leaves_room, left_behind, lines_left, room_at_first}
use Rattle.view_shell.proofs.view.visit_links.Goals as goal

pub loop-init : goal.loop-init
loop-init g c =
    let same : c.lines-lines.result.now ≡ c.args.visit.now.script = c.lines-lines.ensures.lines in
    record {
      knows = c.requires.knows;
      within = omega arith;
      fit = subst (λ (ls : List ViewLine). AllByRecursion LineFits (plain_lines ls)) (sym same) c.lines-lines.ensures.script.fit;
      room = subst (λ (ls : List ViewLine). HasRoomFor c.args.watcher.now (plain_lines ls)) (sym same) (room_at_first c.args.watcher.now (plain_lines c.args.visit.now.script) c.requires.new c.lines-lines.ensures.script.few);
      talk = record { steps = []; walks = ap (λ (ls : List ViewLine). Connecting (viewer c.args.visit.now.address c.args.watcher.now (plain_lines ls)) Fresh) (sym same); acts = refl };
    }

pub returns-in-Err-Failed : goal.returns-in-Err-Failed
returns-in-Err-Failed g c =
    let out = output_tells g.W.Sink in
    let net = net_tells g.N.Net in
    let links = links_tell g.N.Conn.Link in
    record { ran = no_link out net links c.args.visit.now.address c.args.visit.now.script c.args.watcher.now c.loop.watcher c.lines-lines.result.now c.loop.next c.loop.how c.args.out.now c.loop.out c.args.net.now c.loop.net c.connect.new.net c.loop.invariant.talk c.connect.result c.connect.ensures c.in-Err-Failed.field-0 fault.Failed c.in-Err-Failed.is c.in-Err-Failed.field-0-is }

pub returns-in-Err-WantOfMemory : goal.returns-in-Err-WantOfMemory
returns-in-Err-WantOfMemory g c =
    let out = output_tells g.W.Sink in
    let net = net_tells g.N.Net in
    let links = links_tell g.N.Conn.Link in
    record { ran = no_link out net links c.args.visit.now.address c.args.visit.now.script c.args.watcher.now c.loop.watcher c.lines-lines.result.now c.loop.next c.loop.how c.args.out.now c.loop.out c.args.net.now c.loop.net c.connect.new.net c.loop.invariant.talk c.connect.result c.connect.ensures c.in-Err-WantOfMemory.field-0 fault.WantOfMemory c.in-Err-WantOfMemory.is c.in-Err-WantOfMemory.field-0-is }

pub attend-attended-requires-clause-fit : goal.attend-attended-requires-clause-fit
attend-attended-requires-clause-fit g c = subst (λ (ls : List ViewLine). AllByRecursion LineFits (plain_lines ls)) (sym (lines_left c.lines-lines.result.now c.loop.next)) c.loop.invariant.fit

pub attend-attended-requires-clause-room : goal.attend-attended-requires-clause-room
attend-attended-requires-clause-room g c = subst (λ (ls : List ViewLine). HasRoomFor c.loop.watcher (plain_lines ls)) (sym (lines_left c.lines-lines.result.now c.loop.next)) c.loop.invariant.room

pub loop-preserved : goal.loop-preserved
loop-preserved g c =
    let out = output_tells g.W.Sink in
    let net = net_tells g.N.Net in
    let links = links_tell g.N.Conn.Link in
    let all = c.lines-lines.result.now in
    let next = c.loop.next in
    let count = c.in-Again.count in
    let left = plain_lines (drop next all) in
    let taken = plain_lines (take (length all - next) (drop next all)) in
    let again = departure.Again c.in-Again.again count in
    let room : HasRoomBehind again c.attend-attended.new.watcher left = leaves_room c.attend-attended.new.watcher taken left (ap plain_lines (lines_left all next)) c.attend-attended.result c.in-Ok-attended.departure again c.in-Ok-attended.is c.in-Again.is c.attend-attended.ensures.room in
    record {
      knows = leaves_knowing c.attend-attended.new.watcher c.attend-attended.result c.in-Ok-attended.departure c.in-Ok-attended.is c.attend-attended.ensures.knows;
      within = few_behind all next count c.loop.invariant.within room.0;
      fit = fits_behind all next count c.loop.invariant.fit;
      room = subst (λ (ls : List PlainLine). HasRoomFor c.attend-attended.new.watcher ls) (left_behind all next count) room.1;
      talk = attended_again out net links c.args.visit.now.address c.args.visit.now.script c.args.watcher.now c.loop.watcher c.lines-lines.result.now c.loop.next c.loop.how c.args.out.now c.loop.out c.args.net.now c.loop.net c.connect.new.net c.loop.invariant.talk c.connect.result c.connect.ensures
          c.in-Ok.link c.attend-attended.new.link c.in-Ok.is c.attend-attended.new.watcher c.attend-attended.new.out c.back.new.self (record { lent = c.back.ensures.lent; over = c.back.ensures.over; counts = c.back.ensures.counts; coming = c.back.ensures.coming; asked = c.back.ensures.asked; faults = c.back.ensures.faults }) c.attend-attended.result (c.attend-attended.ensures.talk c.args.visit.now.address) c.in-Ok-attended.departure c.in-Again.again count c.in-Ok-attended.is c.in-Again.is;
    }

pub returns-in-Done : goal.returns-in-Done
returns-in-Done g c =
    let out = output_tells g.W.Sink in
    let net = net_tells g.N.Net in
    let links = links_tell g.N.Conn.Link in
    record {
      ran = attended_done out net links c.args.visit.now.address c.args.visit.now.script c.args.watcher.now c.loop.watcher c.lines-lines.result.now c.loop.next c.loop.how c.args.out.now c.loop.out c.args.net.now c.loop.net c.connect.new.net c.loop.invariant.talk c.connect.result c.connect.ensures
          c.in-Ok.link c.attend-attended.new.link c.in-Ok.is c.attend-attended.new.watcher c.attend-attended.new.out c.back.new.self (record { lent = c.back.ensures.lent; over = c.back.ensures.over; counts = c.back.ensures.counts; coming = c.back.ensures.coming; asked = c.back.ensures.asked; faults = c.back.ensures.faults }) c.attend-attended.result (c.attend-attended.ensures.talk c.args.visit.now.address) c.in-Ok-attended.departure c.in-Ok-attended.is c.in-Done.is;
    }

pub returns-in-Err : goal.returns-in-Err
returns-in-Err g c =
    let out = output_tells g.W.Sink in
    let net = net_tells g.N.Net in
    let links = links_tell g.N.Conn.Link in
    record {
      ran = attended_stops out net links c.args.visit.now.address c.args.visit.now.script c.args.watcher.now c.loop.watcher c.lines-lines.result.now c.loop.next c.loop.how c.args.out.now c.loop.out c.args.net.now c.loop.net c.connect.new.net c.loop.invariant.talk c.connect.result c.connect.ensures
          c.in-Ok.link c.attend-attended.new.link c.in-Ok.is c.attend-attended.new.watcher c.attend-attended.new.out c.back.new.self (record { lent = c.back.ensures.lent; over = c.back.ensures.over; counts = c.back.ensures.counts; coming = c.back.ensures.coming; asked = c.back.ensures.asked; faults = c.back.ensures.faults }) c.attend-attended.result (c.attend-attended.ensures.talk c.args.visit.now.address) c.in-Err.end c.in-Err.is;
    }
