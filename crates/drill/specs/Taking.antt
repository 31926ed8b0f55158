-- Frames that a replica has to take.
use Rattle.std.specs.Prelude.{◌≡◌, ◌⊎◌, ◌<◌, List, [], ◌∷◌, None}
use Rattle.wire_frames.specs.declared.frame.ServerFrame.{ServerFrame}
use Rattle.wire_frames.specs.declared.frame.ServerFrame.TheVariants.{Sync}
use Rattle.replica_plain.specs.PlainReplica.{published_count}
use Rattle.replica_plain.specs.Taking.{taken, IsTimely}
use Rattle.replica.specs.View.{ReplicaView, with_plain, worlds_of}

-- the frame has no fault for the replica
pub record IsFine (r : ReplicaView) (frame : ServerFrame) : Type 0 where
  pub none : (taken (worlds_of r) r.plain frame).fault ≡ None

-- a Sync that knows of more of the view's events than the replica published, or of fewer than were acknowledged
abbrev pub Miscounts : ReplicaView → ServerFrame → Type 0
Miscounts r (Sync joined last from base) = (published_count r.plain < last) ⊎ (last < r.plain.acknowledged)
Miscounts r frame = ⊥

-- the replica has taken it
pub record HasTaken (r : ReplicaView) (frame : ServerFrame) (new : ReplicaView) : Type 0 where
  pub is : new ≡ with_plain r (taken (worlds_of r) r.plain frame).replica

-- what it is then
abbrev pub after_frame : ReplicaView → ServerFrame → ReplicaView
after_frame r frame = with_plain r (taken (worlds_of r) r.plain frame).replica

abbrev pub after_frames : ReplicaView → List ServerFrame → ReplicaView
after_frames r [] = r
after_frames r (frame ∷ rest) = after_frames (after_frame r frame) rest

-- no frame of these has a fault for a replica that takes them in order, and each has a time of TeaTime
abbrev pub AreFine : ReplicaView → List ServerFrame → Type 0
AreFine r [] = Unit {0}
AreFine r (frame ∷ rest) = IsFine r frame × IsTimely frame × AreFine (after_frame r frame) rest

-- it has taken all of them
pub record HasTakenAll (r : ReplicaView) (frames : List ServerFrame) (new : ReplicaView) : Type 0 where
  pub all : new ≡ after_frames r frames
