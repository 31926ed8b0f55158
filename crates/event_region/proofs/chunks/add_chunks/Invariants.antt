use Rattle.std.proofs.Common.{◌≡◌, vec_len}
use Rattle.event_region.specs.Chunks.{KeepsChunks}
use Rattle.event_region.proofs.chunks.add_chunks.Given as goal

abbrev pub invariant-loop : goal.invariant-loop
invariant-loop l = record {
  kept : KeepsChunks l.initial.chunks l.chunks;
  len : vec_len l.chunks ≡ l.counter;
}
