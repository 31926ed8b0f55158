use Rattle.std.proofs.Common.{arith}
use Rattle.model_solved.specs.Methods.{field_counts}
use Rattle.model_solved.specs.Founding.{checked_tree}
use Rattle.snapshot_codec.proofs.Snapshots.{gives-snapshot}
use Rattle.snapshot_codec.proofs.reading.unsnap.Goals as goal

pub returns-clause-read : goal.returns-clause-read
returns-clause-read c =
    gives-snapshot c.read_session.result (field_counts (checked_tree c.args.program.now)) c.args.id.now.0 c.args.bytes.now (λ i. omega (arith, c.type_inv.bytes i)) c.read_session.ensures.answer
