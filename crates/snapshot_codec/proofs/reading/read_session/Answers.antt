use Rattle.model_solved.specs.Methods.{field_counts}
use Rattle.model_solved.specs.Founding.{checked_tree}
use Rattle.snapshot_codec.proofs.Snapshots.{none_other}
use Rattle.snapshot_codec.proofs.reading.read_session.Goals as goal

pub returns-in-Some-clause-only : goal.returns-in-Some-clause-only
returns-in-Some-clause-only c w is =
    none_other (field_counts (checked_tree c.args.program.now)) c.args.id.now.0 c.args.bytes.now w c.in-Some.ensures.0 is
