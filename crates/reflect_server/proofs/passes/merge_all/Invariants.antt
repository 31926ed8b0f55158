use Rattle.std.proofs.Common.{◌≡◌, ◌+◌, All, vec_len}
use Rattle.session_lock.specs.Passes.{numbers_held}
use Rattle.reflect_server.specs.Passes.{IsFresh, Keeps}
use Rattle.reflect_server.proofs.passes.merge_all.Given as goal

abbrev pub invariant-loop-pass : goal.invariant-loop-pass
invariant-loop-pass g l = record {
  lead : Keeps l.fn.lead l.lead;
  passes : All (IsFresh l.fn.lead) l.passes.items;
  numbers : numbers_held l.lead + vec_len l.passes ≡ numbers_held l.fn.lead + vec_len l.fn.passes;
}

abbrev pub decreases-loop-pass : goal.decreases-loop-pass
decreases-loop-pass g l = vec_len l.passes
