use Rattle.commands.specs.Work.{plain_live}
use Rattle.croquet.proofs.LiveRuns.{live_view_ran, live_view_wanting}
use Rattle.croquet.proofs.living.run_live_view.Goals as goal

pub returns-in_default : goal.returns-in_default
returns-in_default g c =
    live_view_wanting _ _ _ _ (plain_live c.args.start) c.args.feed.now c.args.out.now c.tell_want_of_memory.new.out c.args.net.now c.tell_want_of_memory.result c.tell_want_of_memory.ensures

pub returns : goal.returns
returns g c =
    live_view_ran _ _ _ _ (plain_live c.args.start) c.args.feed.now c.run_live-end.new.feed c.args.out.now c.run_live-end.new.out c.tell_live_end.new.out c.args.net.now c.run_live-end.new.net c.run_live-end.result c.tell_live_end.result
    (rw c.in-Ok.ensures.ok at c.run_live-end.ensures.ran) c.tell_live_end.ensures
