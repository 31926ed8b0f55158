use Rattle.std.proofs.Common.{◌≡◌, ◌∙◌, ap, arith, false, refl, rules}
use Rattle.std.specs.Arc.{arc_value}
use Rattle.model_solved.specs.Founding.{CheckedView}
use Rattle.replica.specs.View.{founded_replica}
use Rattle.live_view.specs.View.{queue_left}
use Rattle.live_view.proofs.Machines.{found_first, found_knows, never_lost}
use Rattle.live_view.proofs.Queues.{lines_for}
use Rattle.live_view.proofs.machine.LiveView.found.Goals as goal

pub returns-clause-live : goal.returns-clause-live
returns-clause-live c =
    let same : arc_value c.in_ok-own.own ≡ arc_value c.args.program = search rules in
    let is = c.in_ok-replica.ensures ∙ ap (λ (p : CheckedView). founded_replica p c.args.id.0 c.args.view) same in
    record {
      knows = found_knows _ (arc_value c.args.program) c.args.id.0 is refl refl refl;
      ready = found_knows _ (arc_value c.args.program) c.args.id.0 is refl refl refl;
      lines = lines_for 0 _ c.new-queue.result (omega arith) c.new-queue.ensures.lines;
      lost = never_lost false refl;
      empty = never_lost false refl;
    }

pub returns-clause-first : goal.returns-clause-first
returns-clause-first c address =
    let same : arc_value c.in_ok-own.own ≡ arc_value c.args.program = search rules in
    found_first address c.in_ok-replica.replica (founded_replica (arc_value c.args.program) c.args.id.0 c.args.view) c.new-topics.result (queue_left c.new-queue.result)
    (c.in_ok-replica.ensures ∙ ap (λ (p : CheckedView). founded_replica p c.args.id.0 c.args.view) same) c.new-topics.ensures c.new-queue.ensures.left
