use Rattle.std.proofs.Common.{Some}
use Rattle.std.proofs.lemmas.List.Elements.{All-pop}
use Rattle.drill.specs.Workers.{IsFirst}
use Rattle.drill.proofs.Orders.{all_answered}
use Rattle.drill.proofs.drilling.+work_all.Goals as goal

pub work_all-work_beside-last-requires-clause-worker : goal.work_all-work_beside-last-requires-clause-worker
work_all-work_beside-last-requires-clause-worker g t c κs within =
    let service = c.args.service.now in
    (All-pop (IsFirst (g.C.Clock.gives service.clock.now) service.size service.shared.now) c.args.workers.items c.pop.new.self.items (Some c.in-Some.worker) c.in-Some.ensures.items c.requires.first).1

pub work_all-work_beside-last-requires-clause-others : goal.work_all-work_beside-last-requires-clause-others
work_all-work_beside-last-requires-clause-others g t c κs within =
    let service = c.args.service.now in
    (All-pop (IsFirst (g.C.Clock.gives service.clock.now) service.size service.shared.now) c.args.workers.items c.pop.new.self.items (Some c.in-Some.worker) c.in-Some.ensures.items c.requires.first).0

pub work_all-returns : goal.work_all-returns
work_all-returns g t c =
    let service = c.args.service.now in
    all_answered (g.C.Clock.gives service.clock.now) service.size service.shared.now c.args.workers.items c.pop.new.self.items c.in-Some.worker c.work_beside-last.result.0 c.work_beside-last.result.1 c.with_last.result
    c.in-Some.ensures.items c.work_beside-last.ensures.worker c.work_beside-last.ensures.others c.with_last.ensures
