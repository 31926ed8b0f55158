use Rattle.std.proofs.Common.{◌≡◌, ℕ, ◌<◌, ◌^◌, ◌++◌, drop}
use Rattle.std.specs.Int.{to_be_bytes, w32}
use Rattle.std.specs.List.{flat_map, AllByRecursion}
use Rattle.snapshot_codec.proofs.writing.put_views.Given as goal

abbrev pub invariant-loop-view : goal.invariant-loop-view
invariant-loop-view l = record {
  held : AllByRecursion (λ (n : ℕ). n < 2 ^ 32) (drop l.view-index l.views) → AllByRecursion (λ (n : ℕ). n < 2 ^ 32) l.views;
  written : l.out ++ flat_map (to_be_bytes w32) (drop l.view-index l.views) ≡ l.initial.out ++ flat_map (to_be_bytes w32) l.views;
}
