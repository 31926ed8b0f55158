use Rattle.std.proofs.Common.{◌≡◌, ◌+◌, map, length}
use Rattle.session_lock.specs.Passes.{numbers_held}
use Rattle.drill.specs.Drilling.{GathersWorkers, rested_of}
use Rattle.drill.proofs.drilling.merge_all.Given as goal

-- the passes so far are merged
abbrev pub invariant-loop-one : goal.invariant-loop-one
invariant-loop-one l = record {
  gathered : GathersWorkers l.shared l.yielded l.keeper;
  numbers : numbers_held l.keeper ≡ numbers_held l.initial.keeper + length l.yielded;
  rested : l.rested.items ≡ map rested_of l.yielded;
}
