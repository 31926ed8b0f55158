use Rattle.reflect_server.proofs.OpeningLaws.{here_first, here_more, here_all}
use Rattle.reflect_server.proofs.opening.views_here.Goals as goal

pub loop-next-init : goal.loop-next-init
loop-next-init c = rw c.new-views.ensures.items (here_first c.args.session.now.plain.log)

pub loop-next-preserved : goal.loop-next-preserved
loop-next-preserved c =
    here_more c.args.session.now.plain.log c.loop-next.above c.loop-next.views.items c.push.new.items.items c.in-Some.next c.in_ok-push.ensures.ok c.in-Some.ensures c.loop-next.invariant

pub returns : goal.returns
returns c = here_all c.args.session.now.plain.log c.loop-next.above c.loop-next.views.items (rw c.in_default.is at c.next_here.ensures) c.loop-next.invariant
