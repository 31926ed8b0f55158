use Rattle.std.proofs.Common.{◌≡◌, ◌-◌, []}
use Rattle.byte_fields.specs.Fields.{items_at}
use Rattle.model_value.specs.Reading.{bounded_at}
use Rattle.model_value.specs.View.{plain_values}
use Rattle.snapshot_codec.proofs.parts.values_at.Given as goal

-- what is read so far, and then the rest, is what is read of all
abbrev pub invariant-loop : goal.invariant-loop
invariant-loop l = items_at (λ _. bounded_at) (plain_values l.values) (l.count - l.counter) l.rest ≡ items_at (λ _. bounded_at) [] l.count l.bytes
