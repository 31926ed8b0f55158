use Rattle.std.proofs.Common.{◌≡◌, ◌-◌, [], take, length}
use Rattle.std.specs.Int.{w64}
use Rattle.byte_fields.specs.Fields.{items_at, number_at}
use Rattle.snapshot_codec.proofs.parts.faults_at.Given as goal

-- what is read so far, and then the rest, is what is read of all
abbrev pub invariant-loop-i : goal.invariant-loop-i
invariant-loop-i l = record {
  kinds : length l.faults ≡ 14;
  same : items_at (λ _. number_at w64) (take l.i l.faults) (14 - l.i) l.rest ≡ items_at (λ _. number_at w64) [] 14 l.bytes;
}
