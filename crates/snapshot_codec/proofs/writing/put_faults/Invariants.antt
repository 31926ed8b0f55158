use Rattle.std.proofs.Common.{◌≡◌, ℕ, ◌<◌, ◌^◌, ◌++◌, drop}
use Rattle.std.specs.Int.{to_be_bytes, w64}
use Rattle.std.specs.List.{flat_map, AllByRecursion}
use Rattle.snapshot_codec.proofs.writing.put_faults.Given as goal

abbrev pub invariant-loop-count : goal.invariant-loop-count
invariant-loop-count l = record {
  held : AllByRecursion (λ (n : ℕ). n < 2 ^ 64) (drop l.count-index l.faults) → AllByRecursion (λ (n : ℕ). n < 2 ^ 64) l.faults;
  written : l.out ++ flat_map (to_be_bytes w64) (drop l.count-index l.faults) ≡ l.initial.out ++ flat_map (to_be_bytes w64) l.faults;
}
