-- Which links keep a live view from an end that is not its lines'.
use Rattle.std.specs.Prelude.{◌≡◌, ℕ, List, [], ◌∷◌, ◌++◌, map, Option, Some, None}
use Rattle.byte_fields.specs.Fields.{whole}
use Rattle.tea_io.specs.declared.link.Heard.TheVariants as heard
use Rattle.wire_frames.specs.Reading.{server_at}
use Rattle.wire_frames.specs.declared.frame.ServerFrame.{ServerFrame}
use Rattle.replica_plain.specs.declared.fault.ReplicaFault.{ReplicaFault}
use Rattle.replica_plain.specs.declared.fault.ReplicaFault.TheVariants as fault
use Rattle.replica_plain.specs.Taking.{taken}
use Rattle.run_steps.specs.Steps.{Step, Connects, Hears, Sends}
use Rattle.model_solved.specs.Founding.{Founding}
use Rattle.view_shell.specs.declared.ending.ViewEnd.TheVariants as ending
use Rattle.view_shell.specs.Phases.{Viewer, Phase, Connecting, Receiving, Over}
use Rattle.live_view.specs.declared.input.LiveInput.{LiveInput}
use Rattle.live_view.specs.declared.input.LiveInput.TheVariants as input
use Rattle.live_view.specs.Live.{LiveState, live_run, live_step}
use Rattle.live_view.specs.Script.{first_state}
use Rattle.view_follows.specs.Answered.{GoOn, RefuseNoOther}

-- ---- what it was told by its links, and what it sent on them, as steps

-- a link is made where one is wanted, and heard where one is heard
abbrev pub told_as : LiveInput → Phase → List Step
told_as input.Linked (Connecting v how) = Connects v.address ∷ []
told_as (input.Says what) (Receiving v aim) = Hears what ∷ []
told_as told phase = []

abbrev pub link_steps : LiveState → List LiveInput → List Step
link_steps s [] = []
link_steps s (told ∷ more) =
    let first = live_step s told in
    told_as told s.phase ++ (map Sends first.frames ++ link_steps first.state more)

-- each link that was wanted was made, and none failed
abbrev pub WorkWell : List LiveInput → Type 0
WorkWell [] = Unit {0}
WorkWell (input.LinkFailed ∷ more) = ⊥
WorkWell (input.Says heard.Failed ∷ more) = ⊥
WorkWell (told ∷ more) = WorkWell more

-- the replica found no fault of its peer in a frame
abbrev pub IsNoPeerFault : Option ReplicaFault → Type 0
IsNoPeerFault (Some fault.BadBase) = ⊥
IsNoPeerFault (Some fault.Unasked) = ⊥
IsNoPeerFault (Some (fault.OutOfOrder expected found)) = ⊥
IsNoPeerFault (Some (fault.Back time)) = ⊥
IsNoPeerFault found = Unit {0}

-- it is a frame of a reflector, and the replica finds no such fault in it
abbrev pub IsTaken : Viewer → Option ServerFrame → Type 0
IsTaken v None = ⊥
IsTaken v (Some frame) = IsNoPeerFault (taken v.worlds v.replica frame).fault

abbrev pub IsTakenWell : LiveInput → Phase → Type 0
IsTakenWell (input.Says (heard.Frame bytes)) (Receiving v aim) = IsTaken v (whole server_at bytes)
IsTakenWell told phase = Unit {0}

-- so is each frame that is heard
abbrev pub TakesAllWell : LiveState → List LiveInput → Type 0
TakesAllWell s [] = Unit {0}
TakesAllWell s (told ∷ more) = IsTakenWell told s.phase × TakesAllWell (live_step s told).state more

-- ---- laws

-- a live view ends with its link only where one said that it has ended, or was quiet too often
abbrev pub LiveViewsEndWithLinks : Type 0
LiveViewsEndWithLinks = (founding : Founding) (id : List ℕ) (view : ℕ) (address : List ℕ) (inputs : List LiveInput)
    → GoOn 0 (link_steps (first_state founding id view address) inputs)
    → (live_run (first_state founding id view address) inputs).phase ≡ Over ending.Ended → ⊥

-- with a refusal only where it heard one, of another frame than a snapshot
abbrev pub LiveViewsEndByRefusals : Type 0
LiveViewsEndByRefusals = (founding : Founding) (id : List ℕ) (view : ℕ) (address : List ℕ) (inputs : List LiveInput)
    (code kept : ℕ)
    → RefuseNoOther (link_steps (first_state founding id view address) inputs)
    → (live_run (first_state founding id view address) inputs).phase ≡ Over (ending.Refused code kept) → ⊥

-- and with a fault of the net only where a link was not made, or failed
abbrev pub LiveViewsEndByFaults : Type 0
LiveViewsEndByFaults = (founding : Founding) (id : List ℕ) (view : ℕ) (address : List ℕ) (inputs : List LiveInput)
    → WorkWell inputs → (live_run (first_state founding id view address) inputs).phase ≡ Over ending.NetFault → ⊥

-- with a fault of its peer only where it heard what is no frame of a reflector, or one in which its replica found such a fault
abbrev pub LiveViewsEndByPeers : Type 0
LiveViewsEndByPeers = (founding : Founding) (id : List ℕ) (view : ℕ) (address : List ℕ) (inputs : List LiveInput)
    → TakesAllWell (first_state founding id view address) inputs
    → (live_run (first_state founding id view address) inputs).phase ≡ Over ending.Peer → ⊥
