use Rattle.snapshot_codec.proofs.Snapshots.{snapshot-again}
use Rattle.snapshot_codec.proofs.laws.snapshot_is_of_its_world.Goals as goal

pub returns : goal.returns
returns c = snapshot-again
