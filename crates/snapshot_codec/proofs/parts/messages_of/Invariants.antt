use Rattle.std.proofs.Common.{◌≡◌, ◌-◌, [], map}
use Rattle.byte_fields.specs.Fields.{items_at}
use Rattle.world_plain.specs.Messages.{plain_message}
use Rattle.snapshot_codec.specs.Reading.{message_at}
use Rattle.snapshot_codec.proofs.parts.messages_of.Given as goal

-- what is read so far, and then the rest, is what is read of all
abbrev pub invariant-loop : goal.invariant-loop
invariant-loop l = items_at (λ _. message_at) (map plain_message l.messages) (l.count - l.counter) l.rest ≡ items_at (λ _. message_at) [] l.count l.bytes
