use Rattle.std.proofs.Common.{arith, refl}
use Rattle.world_plain.specs.World.{world_record}
use Rattle.snapshot_codec.proofs.Snapshots.{not_other, is_snapshot, one_world, none_invalid, none_unread}
use Rattle.snapshot_codec.proofs.reading.read_own.Goals as goal

pub returns-then-valid-clause-answer : goal.returns-then-valid-clause-answer
returns-then-valid-clause-answer c =
    let counts = c.args.counts.now in (
      not_other c.args.id.now.0 c.args.bytes.now c.requires,
      is_snapshot counts c.args.id.now.0 c.args.bytes.now (world_record c.in-Ok.world) (λ i. omega (arith, c.type_inv.bytes i)) c.requires c.in-Ok.ensures (c.if-valid.ensures.valid.0 refl),
    )

pub returns-then-valid-clause-only : goal.returns-then-valid-clause-only
returns-then-valid-clause-only c w is = one_world c.args.counts.now c.args.id.now.0 c.args.bytes.now (world_record c.in-Ok.world) w c.in-Ok.ensures is

pub returns-else-valid-clause-answer : goal.returns-else-valid-clause-answer
returns-else-valid-clause-answer c =
    (not_other c.args.id.now.0 c.args.bytes.now c.requires, λ w is. none_invalid c.args.counts.now c.args.id.now.0 c.args.bytes.now (world_record c.in-Ok.world) w c.in-Ok.ensures (λ valid. let e = c.if-valid.ensures.valid.1 valid in absurd cc) is)

pub returns-else-valid-clause-only : goal.returns-else-valid-clause-only
returns-else-valid-clause-only c w is =
    none_invalid c.args.counts.now c.args.id.now.0 c.args.bytes.now (world_record c.in-Ok.world) w c.in-Ok.ensures (λ valid. let e = c.if-valid.ensures.valid.1 valid in absurd cc) is

pub returns-in-Err-BadValue-clause-answer : goal.returns-in-Err-BadValue-clause-answer
returns-in-Err-BadValue-clause-answer c =
    (not_other c.args.id.now.0 c.args.bytes.now c.requires, λ w is. none_unread c.args.counts.now c.args.id.now.0 c.args.bytes.now w (rw c.in-Err-BadValue.field-0-is at c.in-Err-BadValue.ensures refl) is)

pub returns-in-Err-BadValue-clause-only : goal.returns-in-Err-BadValue-clause-only
returns-in-Err-BadValue-clause-only c w is =
    none_unread c.args.counts.now c.args.id.now.0 c.args.bytes.now w (rw c.in-Err-BadValue.field-0-is at c.in-Err-BadValue.ensures refl) is
