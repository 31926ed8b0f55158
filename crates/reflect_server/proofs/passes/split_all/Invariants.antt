use Rattle.std.proofs.Common.{◌≡◌, ◌+◌, ◌≤◌, All, vec_len, vec_capacity}
use Rattle.session_lock.specs.Numbers.{count_of}
use Rattle.session_lock.specs.Passes.{numbers_held}
use Rattle.reflect_server.specs.Passes.{IsFresh}
use Rattle.reflect_server.proofs.passes.split_all.Given as goal

abbrev pub invariant-loop-made : goal.invariant-loop-made
invariant-loop-made g l = record {
  lead : l.lead ≡ record l.initial.lead { spare = l.lead.spare };
  passes : All (IsFresh l.initial.lead) l.passes.items;
  count : vec_len l.passes ≡ l._made;
  numbers : numbers_held l.lead + l._made ≡ numbers_held l.initial.lead;
  spare : l.fn.count ≤ count_of l.lead.spare + l._made;
  room : l.fn.count ≤ vec_capacity l.passes;
}
