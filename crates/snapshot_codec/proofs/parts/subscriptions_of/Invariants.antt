use Rattle.std.proofs.Common.{◌≡◌, ◌-◌, []}
use Rattle.byte_fields.specs.Fields.{items_at}
use Rattle.snapshot_codec.specs.Reading.{subscription_at}
use Rattle.snapshot_codec.proofs.parts.subscriptions_of.Given as goal

-- what is read so far, and then the rest, is what is read of all
abbrev pub invariant-loop : goal.invariant-loop
invariant-loop l = items_at (λ _. subscription_at) (l.subscriptions) (l.count - l.counter) l.rest ≡ items_at (λ _. subscription_at) [] l.count l.bytes
