use Rattle.commands.specs.Work.{visit_of}
use Rattle.croquet.proofs.VisitRuns.{visit_ran, visit_wanting}
use Rattle.croquet.proofs.visiting.run_visit.Goals as goal

pub returns-in_default : goal.returns-in_default
returns-in_default g c =
    visit_wanting _ _ _ (visit_of c.args.request) c.args.out.now c.tell_want_of_memory.new.out c.args.net.now c.tell_want_of_memory.result c.tell_want_of_memory.ensures

pub returns : goal.returns
returns g c =
    visit_ran _ _ _ (visit_of c.args.request) c.args.out.now c.run_view-end.new.out c.tell_view_end.new.out c.args.net.now c.run_view-end.new.net c.run_view-end.result c.tell_view_end.result
    (rw c.in-Ok.ensures.ok at c.run_view-end.ensures.ran) c.tell_view_end.ensures
