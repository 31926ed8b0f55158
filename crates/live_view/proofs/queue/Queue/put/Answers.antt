use Rattle.std.proofs.Common.{arith, length, ap, ◌∙◌}
use Rattle.std.proofs.lemmas.List.{length-append}
use Rattle.live_view.proofs.Queues.{left_more}
use Rattle.live_view.proofs.queue.Queue.put.Goals as goal

pub returns-clause-left : goal.returns-clause-left
returns-clause-left c = left_more c.args.self.now.lines.items c.args.more.items c.append.new.lines.items c.args.self.now.begun c.requires.within c.in_ok-append.ensures

pub returns-clause-within : goal.returns-clause-within
returns-clause-within c =
    let size = ap length c.in_ok-append.ensures ∙ length-append c.args.self.now.lines.items c.args.more.items in
    let within = c.requires.within in
    omega (arith, size, within)
