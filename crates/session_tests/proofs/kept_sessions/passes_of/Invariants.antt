use Rattle.std.proofs.Common.{◌≡◌, ◌+◌, ◌≤◌, All}
use Rattle.session_lock.specs.Numbers.{count_of}
use Rattle.session_tests.proofs.kept_sessions.passes_of.Given as goal

abbrev pub invariant-loop-made : goal.invariant-loop-made
invariant-loop-made l = record {
  session : l.lead.session ≡ l.shared.session;
  passes : All (λ pass. pass.session ≡ l.shared.session) l.passes.items;
  spare : l.fn.count ≤ count_of l.lead.spare + l._made;
}
