use Rattle.std.proofs.Common.{◌≡◌, All}
use Rattle.drill.specs.Drilling.{keeper_after, numbers_from, views_of_workers}
use Rattle.drill.specs.Workers.{IsFirst}
use Rattle.drill.proofs.drilling.make_workers.Given as goal

-- the workers so far, and the pass that is kept
abbrev pub invariant-loop-made : goal.invariant-loop-made
invariant-loop-made g l = record {
  first : All (IsFirst (g.C.Clock.gives l.service.clock.now) l.service.size l.service.shared.now) l.workers.items;
  views : views_of_workers l.workers.items ≡ numbers_from 1 l.made;
  keeper : l.keeper ≡ keeper_after l.service.shared.now l.made;
}
