use Rattle.std.proofs.Common.{rules}
use Rattle.time_line.proofs.LineLaws.{keeps-plain, keeps-plain-first}
use Rattle.time_line.proofs.frames.frames_counted.Goals as goal

pub loop-k-init : goal.loop-k-init
loop-k-init g c =
    keeps-plain-first c.args.world c.args.log.now.entries c.args.every c.push.new.items.items c.in_ok-plain_of.field-0 c.requires.whole c.requires.quiet c.requires.rises c.in_ok-plain_of.ensures (search rules)

pub loop-k-preserved : goal.loop-k-preserved
loop-k-preserved g c =
    keeps-plain c.args.world c.loop-k.world c.enter_all.new.world c.args.log.now.entries c.args.every c.loop-k.k c.loop-k.frames.items c.push-in-loop-k.new.items.items c.in_ok-plain_of-2.field-0 c.loop-k.invariant c.in_ok-enter_all.ensures.entered
    c.in_ok-enter_all.ensures.rises c.in_ok-plain_of-2.ensures c.in_ok-push-2.ensures.ok
