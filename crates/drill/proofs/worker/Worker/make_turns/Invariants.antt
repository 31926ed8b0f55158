use Rattle.std.proofs.Common.{◌≡◌, ◌+◌, ◌-◌, ◌≤◌}
use Rattle.drill.specs.Turns.{IsWorkerReady}
use Rattle.drill.proofs.worker.Worker.make_turns.Given as goal

abbrev pub invariant-loop-turn : goal.invariant-loop-turn
invariant-loop-turn g l =
    IsWorkerReady (g.C.Clock.gives l.service.clock.now) l.service.size l.service.shared.now l.self l.cursor (l.turn - 1) × (l.self.view ≡ l.fn.self.view) × (l.turn ≤ l.service.size.events + 1)
