use Rattle.snapshot_codec.proofs.Sizes.{IsSmall-valid}
use Rattle.snapshot_codec.proofs.writing.snapshot.Goals as goal

pub put_world-requires : goal.put_world-requires
put_world-requires c = IsSmall-valid _ c.requires
