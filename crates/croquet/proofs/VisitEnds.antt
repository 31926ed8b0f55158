-- The walk of a view ends as its script and its links say: a fault of the net or of the output cuts it.
use Rattle.std.proofs.Common.{◌≡◌, inl, inr, ℕ, Bool, true, false, cond, ◌==◌, nat_le, List, [], ◌∷◌, ◌++◌, Option, Some, None, sym, subst}
use Rattle.byte_fields.specs.Fields.{whole}
use Rattle.tea_io.specs.Links.{most_quiets}
use Rattle.tea_io.specs.declared.link.Heard.{Heard}
use Rattle.tea_io.specs.declared.link.Heard.TheVariants as heard
use Rattle.model_value.specs.Payload.{payload_spelling}
use Rattle.wire_frames.specs.Reading.{server_at}
use Rattle.wire_frames.specs.declared.frame.ClientFrame.{ClientFrame}
use Rattle.wire_frames.specs.declared.frame.ServerFrame.{ServerFrame}
use Rattle.wire_frames.specs.declared.frame.ServerFrame.TheVariants as server
use Rattle.replica_plain.specs.declared.how.How.{How}
use Rattle.replica_plain.specs.declared.how.How.TheVariants.{Fresh, Whole, Resume}
use Rattle.replica_plain.specs.declared.fault.ReplicaFault.{ReplicaFault}
use Rattle.replica_plain.specs.declared.fault.ReplicaFault.TheVariants as fault
use Rattle.replica_plain.specs.Taking.{taken}
use Rattle.replica_plain.specs.Calls.{unsent}
use Rattle.view_script.specs.PlainLine.{PlainLine, Publish, Watch, Wait, WaitFor, Settle, Snap, Cut, Quit, Mark, Vote, Show}
use Rattle.run_steps.specs.Steps.{Step, Prints, Connects, Returns, Hears, Sends}
use Rattle.view_shell.specs.declared.ending.ViewEnd.{ViewEnd}
use Rattle.view_shell.specs.declared.ending.ViewEnd.TheVariants as view_end
use Rattle.view_shell.specs.ViewText.{rejoined_line, snap_refused_line, snapped_line, reached_time_line}
use Rattle.view_shell.specs.Phases.{Aim, Begins, Connecting, Hearing, Leaves, Leaving, Moves, Over, Phase, Printing, PrintingLast, Receives, Receiving, Returning, Sending, Task, TellsText, ToCatchUp, ToJoin, ToReach, ToSee, ToSettle, ToSnap, Viewer, Walks, after_frame, after_giving, after_publish, after_sync, alive, bad_base, begin_task, finish, go_on, has_caught_up, heard_frame, heard_quiet, leave_session, phase_behind_frame, quiet, reads, receive, run, send_all, settle_on, show_world, with_lines, with_taken, time_after, after_entry, after_vote, vote_by}
use Rattle.view_shell.specs.ViewRun.{EndsBy}
use Rattle.commands.specs.Verdict.{PlainVisit}
use Rattle.croquet.specs.Run.{Ending, Visits}
use Rattle.croquet.proofs.Counts.{IsSaidEnd}

-- it is not over, or has such an end
abbrev pub IsSaid : Phase → Type 0
IsSaid (Over end) = IsSaidEnd end
IsSaid phase = Unit {0}

either_said : (b : Bool) (p q : Phase) → IsSaid p → IsSaid q → IsSaid (cond b p q)
either_said true p q first second = first
either_said false p q first second = second

settle_said : (v : Viewer) (payloads : List (List ℕ)) → IsSaid (settle_on v payloads)
settle_said v [] = tt
settle_said v (payload ∷ rest) = tt

receive_said : (v : Viewer) (aim : Aim) → IsSaid (receive v aim)
receive_said v (ToReach time) = either_said (nat_le time v.replica.world.time) (finish v (reached_time_line v.replica.world.time)) (Receiving v (ToReach time)) tt tt
receive_said v ToSettle = settle_said v v.replica.outbox
receive_said v ToCatchUp = either_said (has_caught_up v.replica) (finish v []) (Receiving v ToCatchUp) tt tt
receive_said v (ToJoin how) = tt
receive_said v ToSnap = tt
receive_said v (ToSee at) = tt

begin_said : (v : Viewer) (task : Task) → IsSaid (begin_task v task)
begin_said v (Receives aim) = receive_said v aim
begin_said v Begins = tt
begin_said v (TellsText text) = tt
begin_said v Leaves = tt

send_said : (v : Viewer) (frames : List ClientFrame) (task : Task) → IsSaid (send_all v frames task)
send_said v [] task = begin_said v task
send_said v (frame ∷ frames) task = tt

leave_said : (v : Viewer) → IsSaid (leave_session v)
unfolding leave_session
leave_said v = tt

vote_said : (has : Bool) (v : Viewer) (at : ℕ) → IsSaid (vote_by has v at)
vote_said true v at = tt
vote_said false v at = tt

show_said : (v : Viewer) → IsSaid (show_world v)
unfolding show_world
show_said v = tt

run_said : (v : Viewer) (lines : List PlainLine) → IsSaid (run v lines)
run_said v [] = leave_said v
run_said v (Publish scope event value ∷ rest) =
    let w = after_publish (with_lines v rest) (payload_spelling (record { scope = scope; event = event; value = value })) in
    send_said (after_giving w) (unsent w.replica) (Receives ToCatchUp)
run_said v (Watch scope event handling ∷ rest) = tt
run_said v (Wait time ∷ rest) = receive_said (with_lines v rest) (ToReach time)
run_said v (WaitFor span ∷ rest) = receive_said (with_lines v rest) (ToReach (time_after v.replica.world.time span))
run_said v (Settle ∷ rest) = send_said (after_giving (with_lines v rest)) (unsent v.replica) (Receives ToSettle)
run_said v (Snap ∷ rest) = tt
run_said v (Cut ∷ rest) = tt
run_said v (Quit ∷ rest) = leave_said (with_lines v rest)
run_said v (Mark word ∷ rest) = tt
run_said v (Vote at ∷ rest) = vote_said (nat_le at v.replica.seen) (with_lines v rest) at
run_said v (Show ∷ rest) = show_said (with_lines v rest)

go_on_said : (v : Viewer) (frames : List ClientFrame) (task : Task) → IsSaid (go_on v frames task)
go_on_said v frames task = send_said v (alive v ++ frames) task

sync_said : (v : Viewer) (how : How) (joined from : ℕ) → IsSaid (after_sync v how joined from)
sync_said v Fresh joined from = go_on_said v [] Begins
sync_said v Whole joined from = go_on_said v [] Begins
sync_said v Resume joined from = go_on_said (after_giving v) (unsent v.replica) (TellsText (rejoined_line joined from))

entry_said : (has : Bool) (v : Viewer) (at : ℕ) → IsSaid (after_entry has v at)
entry_said true v at = let w = after_vote v at in go_on_said (after_giving w) (unsent w.replica) (TellsText _)
entry_said false v at = go_on_said v [] (Receives (ToSee at))

frame_said : (v : Viewer) (aim : Aim) (frame : ServerFrame) → IsSaid (after_frame v aim frame)
frame_said v (ToJoin how) (server.Sync joined last from base) = sync_said v how joined from
frame_said v (ToJoin how) frame = go_on_said v [] (Receives (ToJoin how))
frame_said v ToSnap (server.Snapped time) = go_on_said v [] (TellsText (snapped_line time))
frame_said v ToSnap (server.Refused about code kept more) = go_on_said v [] (TellsText (snap_refused_line code kept))
frame_said v ToSnap frame = go_on_said v [] (Receives ToSnap)
frame_said v (ToReach time) frame = go_on_said v [] (Receives (ToReach time))
frame_said v ToSettle frame = go_on_said v [] (Receives ToSettle)
frame_said v ToCatchUp frame = go_on_said v [] (Receives ToCatchUp)
frame_said v (ToSee at) frame = entry_said (nat_le at v.replica.seen) v at

base_said : (v : Viewer) (aim : Aim) → IsSaid (bad_base v aim)
base_said v (ToJoin Fresh) = tt
base_said v (ToJoin Whole) = tt
base_said v (ToJoin Resume) = tt
base_said v (ToReach time) = tt
base_said v ToSettle = tt
base_said v ToCatchUp = tt
base_said v ToSnap = tt
base_said v (ToSee at) = tt

behind_said : (v : Viewer) (aim : Aim) (frame : ServerFrame) (found : Option ReplicaFault) → IsSaid (phase_behind_frame v aim frame found)
behind_said v aim frame None = frame_said v aim frame
behind_said v aim frame (Some (fault.Refused about code kept)) = tt
behind_said v aim frame (Some fault.BadBase) = base_said v aim
behind_said v aim frame (Some fault.Unasked) = tt
behind_said v aim frame (Some (fault.OutOfOrder expected found)) = tt
behind_said v aim frame (Some (fault.Back time)) = tt
behind_said v aim frame (Some fault.Broken) = tt
behind_said v aim frame (Some fault.WantOfMemory) = tt

reads_said : (v : Viewer) (aim : Aim) (found : Option ServerFrame) → IsSaid (reads v aim found)
reads_said v aim None = tt
reads_said v aim (Some frame) = let t = taken v.worlds v.replica frame in behind_said (with_taken v t) aim frame t.fault

quiet_said : (v : Viewer) (aim : Aim) → IsSaid (quiet v aim)
quiet_said v aim = either_said (v.quiets == most_quiets) (Over view_end.Ended) (go_on v [] (Receives aim)) tt (go_on_said v [] (Receives aim))

next_said : (next other : Phase) → next ≡ other → IsSaid other → IsSaid next
next_said next other is said = subst (λ (p : Phase). IsSaid p) (sym is) said

hearing_said : (v : Viewer) (aim : Aim) (what : Heard) (next : Phase) → Hearing v aim what next → IsSaid next
hearing_said v aim (heard.Frame bytes) next is = next_said next (reads (heard_frame v) aim (whole server_at bytes)) is (reads_said (heard_frame v) aim (whole server_at bytes))
hearing_said v aim heard.Quiet next is = next_said next (quiet (heard_quiet v) aim) is (quiet_said (heard_quiet v) aim)
hearing_said v aim heard.End next is = next_said next (Over view_end.Ended) is tt
hearing_said v aim heard.Failed next never = absurd never
hearing_said v aim heard.WantOfMemory next never = absurd never

move_said : (from : Phase) (step : Step) (next : Phase) → Moves from step next → IsSaid next
move_said (Connecting v how) (Connects address) next moves = next_said next _ moves.1 tt
move_said (Sending v frame frames task) (Sends bytes) next moves = next_said next (send_all (record v { receives = 0 }) frames task) moves.3 (send_said (record v { receives = 0 }) frames task)
move_said (Receiving v aim) (Hears what) next moves = hearing_said v aim what next moves
move_said (Printing v text) (Prints piece) next moves = next_said next (run v v.lines) moves.1 (run_said v v.lines)
move_said (Leaving v text) (Prints piece) next moves = next_said next _ moves.1 tt
move_said (PrintingLast text) (Prints piece) next moves = next_said next _ moves.1 tt
move_said (Returning v how) Returns next moves = next_said next _ moves tt
move_said from step next never = absurd never

walk_said : (from : Phase) (steps : List Step) (to : Phase) → IsSaid from → Walks from steps to → IsSaid to
walk_said from [] to said same = next_said to from (sym same) said
walk_said from (step ∷ steps) to said (next, moves, walks) = walk_said next steps to (move_said from step next moves) walks

end_said : (last : Phase) (end : ViewEnd) → IsSaid last → EndsBy last None end → IsSaidEnd end
end_said last end said (inl over) = subst (λ (p : Phase). IsSaid p) over said
end_said last end said (inr wants) = subst (λ (e : ViewEnd). IsSaidEnd e) (sym wants) tt

pub visit_said : (visit : PlainVisit) (steps : List Step) (ending : Ending) (visits : Visits visit steps ending) → IsSaidEnd visits.end
visit_said visit steps ending visits = end_said visits.last visits.end (walk_said _ steps visits.last tt visits.walks) visits.ends
