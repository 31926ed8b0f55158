-- A replica takes frames, one after the other.
use Rattle.std.proofs.Common.{◌≡◌, List}
use Rattle.wire_frames.specs.declared.frame.ServerFrame.{ServerFrame}
use Rattle.replica.specs.View.{ReplicaView}
use Rattle.drill.specs.Taking.{AreFine, after_frames}

-- the frames that are left are fine, and lead to where all frames lead
pub record LeadsOn (left : List ServerFrame) (r : ReplicaView) (all : List ServerFrame) (first : ReplicaView) : Type 0 where
  pub fine : AreFine r left
  pub same : after_frames r left ≡ after_frames first all
