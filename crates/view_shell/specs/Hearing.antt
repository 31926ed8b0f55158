-- What comes of hearing a link once.
use Rattle.std.specs.Prelude.{◌≡◌, ◌⊎◌, ℕ, nat_le, Bool, true, false, List, [], Option, Some, None}
use Rattle.wire_frames.specs.declared.frame.ServerFrame.{ServerFrame}
use Rattle.replica_plain.specs.declared.fault.ReplicaFault.{ReplicaFault}
use Rattle.replica_plain.specs.declared.fault.ReplicaFault.TheVariants as fault
use Rattle.view_shell.specs.declared.ending.ViewEnd.TheVariants as ending
use Rattle.view_shell.specs.declared.hearing.Stop.{Stop}
use Rattle.view_shell.specs.declared.hearing.Stop.TheVariants as stop
use Rattle.wire_frames.specs.declared.frame.ServerFrame.TheVariants as server
use Rattle.replica_plain.specs.declared.how.How.{How}
use Rattle.replica_plain.specs.declared.how.How.TheVariants.{Fresh, Whole, Resume}
use Rattle.replica_plain.specs.Calls.{unsent}
use Rattle.replica_plain.specs.PlainReplica.{published_count}
use Rattle.view_shell.specs.declared.hearing.SnapAnswer.{SnapAnswer}
use Rattle.view_shell.specs.declared.hearing.SnapAnswer.TheVariants as answer
use Rattle.view_shell.specs.declared.hearing.Synced.{Synced}
use Rattle.view_shell.specs.ViewText.{snapped_line, snap_refused_line, rejoined_line, voted_line}
use Rattle.view_shell.specs.Phases.{Viewer, Phase, Aim, ToJoin, ToReach, ToSettle, ToCatchUp, ToSnap, ToSee, TellsText, Printing, Receives, Receiving, Over, bad_base, finish, after_giving, give_vote, go_on, send_all, after_frame}
use Rattle.view_shell.specs.ViewRun.{Doing, Goes, Stops}

-- the phase behind a frame that was taken, or behind a link that was quiet
abbrev pub HeardPhase : Viewer → Aim → Option ServerFrame → Phase
HeardPhase v aim None = go_on v [] (Receives aim)
HeardPhase v aim (Some frame) = after_frame v aim frame

-- the run ends, or the base of a Sync was none
abbrev pub StopsHearing : {S : Type 0} → Doing S → Stop → Phase → Viewer → Aim → S → S → Type 0
StopsHearing does (stop.End end) from v aim old new = Stops does from end old new
StopsHearing does stop.BadBase from v aim old new = Goes does from (bad_base v aim) old new

-- what a replica's fault comes to
abbrev pub stop_for : ReplicaFault → Stop
stop_for (fault.Refused about code kept) = stop.End (ending.Refused code kept)
stop_for fault.BadBase = stop.BadBase
stop_for fault.WantOfMemory = stop.End ending.WantOfMemory
stop_for fault.Broken = stop.End ending.WantOfMemory
stop_for other = stop.End ending.Peer

-- ---- what a frame brings

-- of these aims each frame that is taken lets the view go on
abbrev pub GoesOnFor : Aim → Type 0
GoesOnFor (ToReach time) = Unit {0}
GoesOnFor ToSettle = Unit {0}
GoesOnFor ToCatchUp = Unit {0}
GoesOnFor aim = ⊥

-- the answer to a snapshot
abbrev pub answer_in : Option ServerFrame → Option SnapAnswer
answer_in (Some (server.Snapped time)) = Some (answer.Kept time)
answer_in (Some (server.Refused about code kept more)) = Some (answer.Refused code kept)
answer_in frame = None

abbrev pub answer_line : SnapAnswer → List ℕ
answer_line (answer.Kept time) = snapped_line time
answer_line (answer.Refused code kept) = snap_refused_line code kept

-- the phase behind a frame that was heard for the answer to a snapshot, once the view has said that it is alive where that was due
abbrev pub answered_phase : Viewer → Option SnapAnswer → Phase
answered_phase v None = Receiving v ToSnap
answered_phase v (Some answer) = finish v (answer_line answer)

-- a Sync: the entry by which the view joined, and how many entries it begins behind
abbrev pub sync_in : Option ServerFrame → Option Synced
sync_in (Some (server.Sync joined last from base)) = Some (record { joined = joined; from = from })
sync_in frame = None

-- the text of a line that joins again, and of one that does not
abbrev pub rejoined_text : Option Synced → List ℕ
rejoined_text None = []
rejoined_text (Some found) = rejoined_line found.joined found.from

-- the phase behind a Sync, once the view has said that it is alive where that was due
abbrev pub synced_phase : Viewer → How → Synced → Phase
synced_phase v Fresh found = Printing v []
synced_phase v Whole found = Printing v []
synced_phase v Resume found =
    send_all (after_giving v) (unsent v.replica) (TellsText (rejoined_line found.joined found.from))

-- and behind a frame that was heard for a Sync
abbrev pub joined_phase : Viewer → How → Option Synced → Phase
joined_phase v how None = Receiving v (ToJoin how)
joined_phase v how (Some found) = synced_phase v how found

-- ---- votes

-- the view has this entry, and the link was not quiet
abbrev pub brings_entry : Option ServerFrame → ℕ → ℕ → Bool
brings_entry None at seen = false
brings_entry (Some frame) at seen = nat_le at seen

-- the phase behind a frame that was heard for an entry, once the vote on it was published
abbrev pub voted_phase : Viewer → ℕ → Bool → Phase
voted_phase v at true = give_vote v at
voted_phase v at false = go_on v [] (Receives (ToSee at))

-- the vote is sent and told
abbrev pub vote_told : Viewer → ℕ → Phase
vote_told v at = send_all (after_giving v) (unsent v.replica) (TellsText (voted_line at (published_count v.replica)))

-- the same once the view has said that it is alive where that was due
abbrev pub entry_phase : Viewer → ℕ → Bool → Phase
entry_phase v at true = vote_told v at
entry_phase v at false = Receiving v (ToSee at)

-- so many events were published by it
abbrev pub vote_count : Bool → ℕ
vote_count true = 1
vote_count false = 0

-- a frame was not taken, and this comes of it
abbrev pub StopsAt : Stop → Phase → Viewer → Aim → Type 0
StopsAt (stop.End end) phase v aim = (phase ≡ Over end) ⊎ (end ≡ ending.WantOfMemory)
StopsAt stop.BadBase phase v aim = phase ≡ bad_base v aim
