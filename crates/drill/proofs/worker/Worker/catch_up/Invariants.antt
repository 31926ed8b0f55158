use Rattle.drill.proofs.CatchUps.{TakesBatches}
use Rattle.drill.proofs.worker.Worker.catch_up.Given as goal

-- what was taken since the call, in so many batches
abbrev pub invariant-loop : goal.invariant-loop
invariant-loop g l = TakesBatches (g.C.Clock.gives l.fn.service.clock.now) l.fn.service.size l.fn.service.shared.now l.fn.self l.self l.fn.cursor l.cursor l.counter
