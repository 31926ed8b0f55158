use Rattle.std.proofs.Common.{◌≡◌}
use Rattle.session_lock.specs.Passes.{numbers_held}
use Rattle.session_tests.proofs.kept_sessions.join_and_send.Given as goal

abbrev pub invariant-loop-number : goal.invariant-loop-number
invariant-loop-number g l = (l.pass.session ≡ l.shared.session) × (numbers_held l.pass ≡ numbers_held l.initial.pass)
