use Rattle.std.proofs.Common.{◌≡◌, ◌-◌, [], map}
use Rattle.byte_fields.specs.Fields.{items_at}
use Rattle.world_plain.specs.World.{object_record}
use Rattle.snapshot_codec.specs.Reading.{object_record_at}
use Rattle.snapshot_codec.proofs.parts.objects_of.Given as goal

-- what is read so far, and then the rest, is what is read of all
abbrev pub invariant-loop : goal.invariant-loop
invariant-loop l = items_at (λ _. object_record_at l.counts) (map object_record l.objects) (l.count - l.counter) l.rest ≡ items_at (λ _. object_record_at l.counts) [] l.count l.bytes
