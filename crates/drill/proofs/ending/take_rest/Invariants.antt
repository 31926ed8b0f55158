use Rattle.std.proofs.Common.{◌≡◌}
use Rattle.drill.proofs.Catching.{AtPlace}
use Rattle.drill.proofs.ViewsKept.{IsKept}
use Rattle.drill.proofs.ending.take_rest.Given as goal

abbrev pub invariant-loop-place : goal.invariant-loop-place
invariant-loop-place l = AtPlace l.session.plain l.log.entries l.place l.replica × (l.horizon ≡ l.session.plain.horizon) × IsKept l.fn.replica l.replica
