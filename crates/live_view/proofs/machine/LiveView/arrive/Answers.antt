use Rattle.std.proofs.Common.{ℕ, Option, ap}
use Rattle.live_view.proofs.machine.LiveView.arrive.Goals as goal

pub returns-clause-kept : goal.returns-clause-kept
returns-clause-kept c address = ap (λ (j : Option ℕ). record c.args.self.now { joined = j }) (c.awaited-joined.ensures address)
