-- The next frame in flight on a connection.
use Rattle.std.specs.Prelude.{◌≡◌, [], ◌∷◌, Option, Some, None}
use Rattle.wire_frames.specs.declared.frame.ClientFrame.{ClientFrame}
use Rattle.wire_frames.specs.declared.frame.ServerFrame.{ServerFrame}
use Rattle.replica_plain.specs.Taking.{IsTimely}
use Rattle.system_plain.specs.System.{Connection, with_down, with_up}

abbrev pub IsNextUp : Option ClientFrame → Connection → Connection → Type 0
IsNextUp None old new = (old.up ≡ []) × (new ≡ old)
IsNextUp (Some frame) old new = (old.up ≡ frame ∷ new.up) × (new ≡ with_up old new.up)

abbrev pub IsNextDown : Option ServerFrame → Connection → Connection → Type 0
IsNextDown None old new = (old.down ≡ []) × (new ≡ old)
IsNextDown (Some frame) old new = (old.down ≡ frame ∷ new.down) × (new ≡ with_down old new.down) × IsTimely frame
