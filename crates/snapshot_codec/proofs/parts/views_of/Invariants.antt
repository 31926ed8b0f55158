use Rattle.std.proofs.Common.{◌≡◌, ◌-◌, []}
use Rattle.byte_fields.specs.Fields.{items_at, number_at}
use Rattle.std.specs.Int.{w32}
use Rattle.snapshot_codec.proofs.parts.views_of.Given as goal

-- what is read so far, and then the rest, is what is read of all
abbrev pub invariant-loop : goal.invariant-loop
invariant-loop l = items_at (λ _. number_at w32) (l.views) (l.count - l.counter) l.rest ≡ items_at (λ _. number_at w32) [] l.count l.bytes
