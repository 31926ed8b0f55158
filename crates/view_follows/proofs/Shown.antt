-- A view keeps its program, and what it shows is the replay of the log.
use Rattle.std.proofs.Common.{◌≡◌, ◌+◌, ◌==◌, cond, ℕ, Bool, true, false, List, [], ◌∷◌, ◌++◌, Option, Some, None, sym, ap, subst, ◌∙◌}
use Rattle.std.specs.Prelude.{nat_le}
use Rattle.byte_fields.specs.Fields.{whole}
use Rattle.tea_base.specs.declared.entry.Entry.{Entry}
use Rattle.tea_io.specs.Links.{most_quiets}
use Rattle.tea_io.specs.declared.link.Heard.{Heard}
use Rattle.tea_io.specs.declared.link.Heard.TheVariants as said
use Rattle.model_value.specs.Payload.{payload_spelling}
use Rattle.model_tree.specs.Tree.{ProgramTree}
use Rattle.model_solved.specs.Founding.{Founding}
use Rattle.wire_frames.specs.Reading.{server_at}
use Rattle.wire_frames.specs.declared.frame.ClientFrame.{ClientFrame}
use Rattle.wire_frames.specs.declared.frame.ServerFrame.{ServerFrame}
use Rattle.wire_frames.specs.declared.frame.ServerFrame.TheVariants.{Sync, Snapped, Refused}
use Rattle.world_lines.specs.WorldText.{full_text}
use Rattle.world_plain.specs.World.{WorldRecord}
use Rattle.world.specs.Worlds.{replay}
use Rattle.replica_plain.specs.declared.how.How.{How}
use Rattle.replica_plain.specs.declared.how.How.TheVariants.{Fresh, Whole, Resume}
use Rattle.replica_plain.specs.declared.fault.ReplicaFault.{ReplicaFault}
use Rattle.replica_plain.specs.declared.fault.ReplicaFault.TheVariants as fault
use Rattle.replica_plain.specs.Calls.{unsent}
use Rattle.replica_plain.specs.Taking.{taken}
use Rattle.run_steps.specs.Steps.{Step, Prints, Connects, Returns, Hears, Sends}
use Rattle.view_script.specs.PlainLine.{PlainLine, Publish, Watch, Wait, WaitFor, Settle, Snap, Cut, Quit, Mark, Vote, Show}
use Rattle.view_shell.specs.declared.ending.ViewEnd.TheVariants as ending
use Rattle.view_shell.specs.Phases.{Viewer, Phase, Aim, Task, ToJoin, ToReach, ToSettle, ToCatchUp, ToSnap, ToSee, Receives, Begins, TellsText, Leaves, Connecting, Sending, Receiving, Printing, Leaving, PrintingLast, Returning, Over, Hearing, Moves, Walks, after_frame, after_giving, after_publish, after_rest, after_sync, alive, bad_base, begin_task, enter_session, finish, go_on, has_caught_up, heard_frame, heard_quiet, leave_session, phase_behind_frame, reads, receive, rested, run, send_all, settle_on, show_world, with_lines, with_taken, time_after, after_entry, after_vote, vote_by}
use Rattle.view_follows.specs.ViewsReplay.{ShowsReplayOf}

-- ---- the program of a view

module _ (tree : ProgramTree) where
  -- in each phase in which there is one
  abbrev pub HasTree : Phase → Type 0
  HasTree (Connecting v how) = v.tree ≡ tree
  HasTree (Sending v frame frames task) = v.tree ≡ tree
  HasTree (Receiving v aim) = v.tree ≡ tree
  HasTree (Printing v text) = v.tree ≡ tree
  HasTree (Leaving v text) = v.tree ≡ tree
  HasTree (PrintingLast line) = Unit {0}
  HasTree (Returning v how) = v.tree ≡ tree
  HasTree (Over end) = Unit {0}

  either_keeps : (test : Bool) (p q : Phase) → HasTree p → HasTree q → HasTree (cond test p q)
  either_keeps true p q first second = first
  either_keeps false p q first second = second

  settle_keeps : (v : Viewer) (payloads : List (List ℕ)) → v.tree ≡ tree → HasTree (settle_on v payloads)
  settle_keeps v [] is = is
  settle_keeps v (payload ∷ rest) is = is

  receive_keeps : (v : Viewer) (aim : Aim) → v.tree ≡ tree → HasTree (receive v aim)
  receive_keeps v (ToJoin how) is = is
  receive_keeps v (ToReach time) is = either_keeps (nat_le time v.replica.world.time) _ _ is is
  receive_keeps v ToSettle is = settle_keeps v v.replica.outbox is
  receive_keeps v ToCatchUp is = either_keeps (has_caught_up v.replica) _ _ is is
  receive_keeps v ToSnap is = is
  receive_keeps v (ToSee at) is = is

  begin_keeps : (v : Viewer) (task : Task) → v.tree ≡ tree → HasTree (begin_task v task)
  begin_keeps v (Receives aim) is = receive_keeps v aim is
  begin_keeps v Begins is = is
  begin_keeps v (TellsText text) is = is
  begin_keeps v Leaves is = tt

  send_keeps : (v : Viewer) (frames : List ClientFrame) (task : Task) → v.tree ≡ tree → HasTree (send_all v frames task)
  send_keeps v [] task is = begin_keeps v task is
  send_keeps v (frame ∷ frames) task is = is

  leave_keeps : (v : Viewer) → v.tree ≡ tree → HasTree (leave_session v)
  unfolding leave_session
  leave_keeps v is = is

  vote_keeps : (has : Bool) (v : Viewer) (at : ℕ) → v.tree ≡ tree → HasTree (vote_by has v at)
  vote_keeps true v at is = is
  vote_keeps false v at is = is

  show_keeps : (v : Viewer) → v.tree ≡ tree → HasTree (show_world v)
  unfolding show_world
  show_keeps v is = is

  run_keeps : (v : Viewer) (lines : List PlainLine) → v.tree ≡ tree → HasTree (run v lines)
  run_keeps v [] is = leave_keeps v is
  run_keeps v (Publish scope event value ∷ rest) is =
      let w = after_publish (with_lines v rest) (payload_spelling (record { scope = scope; event = event; value = value })) in
      send_keeps (after_giving w) (unsent w.replica) (Receives ToCatchUp) is
  run_keeps v (Watch scope event handling ∷ rest) is = is
  run_keeps v (Wait time ∷ rest) is = receive_keeps (with_lines v rest) (ToReach time) is
  run_keeps v (WaitFor span ∷ rest) is = receive_keeps (with_lines v rest) (ToReach (time_after v.replica.world.time span)) is
  run_keeps v (Settle ∷ rest) is = send_keeps (after_giving (with_lines v rest)) (unsent v.replica) (Receives ToSettle) is
  run_keeps v (Snap ∷ rest) is = is
  run_keeps v (Cut ∷ rest) is = is
  run_keeps v (Quit ∷ rest) is = leave_keeps (with_lines v rest) is
  run_keeps v (Mark word ∷ rest) is = is
  run_keeps v (Vote at ∷ rest) is = vote_keeps (nat_le at v.replica.seen) (with_lines v rest) at is
  run_keeps v (Show ∷ rest) is = show_keeps (with_lines v rest) is

  go_on_keeps : (v : Viewer) (frames : List ClientFrame) (task : Task) → v.tree ≡ tree → HasTree (go_on v frames task)
  go_on_keeps v frames task is = send_keeps v (alive v ++ frames) task is

  sync_keeps : (v : Viewer) (how : How) (joined from : ℕ) → v.tree ≡ tree → HasTree (after_sync v how joined from)
  sync_keeps v Fresh joined from is = go_on_keeps v [] Begins is
  sync_keeps v Whole joined from is = go_on_keeps v [] Begins is
  sync_keeps v Resume joined from is = go_on_keeps (after_giving v) (unsent v.replica) (TellsText _) is

  entry_keeps : (has : Bool) (v : Viewer) (at : ℕ) → v.tree ≡ tree → HasTree (after_entry has v at)
  entry_keeps true v at is = let w = after_vote v at in go_on_keeps (after_giving w) (unsent w.replica) (TellsText _) is
  entry_keeps false v at is = go_on_keeps v [] (Receives (ToSee at)) is

  frame_keeps : (v : Viewer) (aim : Aim) (frame : ServerFrame) → v.tree ≡ tree → HasTree (after_frame v aim frame)
  frame_keeps v (ToJoin how) (Sync joined last from base) is = sync_keeps v how joined from is
  frame_keeps v (ToJoin how) frame is = go_on_keeps v [] (Receives (ToJoin how)) is
  frame_keeps v ToSnap (Snapped time) is = go_on_keeps v [] (TellsText _) is
  frame_keeps v ToSnap (Refused about code kept more) is = go_on_keeps v [] (TellsText _) is
  frame_keeps v ToSnap frame is = go_on_keeps v [] (Receives ToSnap) is
  frame_keeps v (ToReach time) frame is = go_on_keeps v [] (Receives (ToReach time)) is
  frame_keeps v ToSettle frame is = go_on_keeps v [] (Receives ToSettle) is
  frame_keeps v (ToSee at) frame is = entry_keeps (nat_le at v.replica.seen) v at is
  frame_keeps v ToCatchUp frame is = go_on_keeps v [] (Receives ToCatchUp) is

  base_keeps : (v : Viewer) (aim : Aim) → v.tree ≡ tree → HasTree (bad_base v aim)
  base_keeps v (ToJoin Fresh) is = is
  base_keeps v (ToJoin Whole) is = tt
  base_keeps v (ToJoin Resume) is = tt
  base_keeps v (ToReach time) is = tt
  base_keeps v ToSettle is = tt
  base_keeps v ToCatchUp is = tt
  base_keeps v ToSnap is = tt
  base_keeps v (ToSee at) is = tt

  behind_keeps : (v : Viewer) (aim : Aim) (frame : ServerFrame) (found : Option ReplicaFault) → v.tree ≡ tree → HasTree (phase_behind_frame v aim frame found)
  behind_keeps v aim frame None is = frame_keeps v aim frame is
  behind_keeps v aim frame (Some (fault.Refused about code kept)) is = tt
  behind_keeps v aim frame (Some fault.BadBase) is = base_keeps v aim is
  behind_keeps v aim frame (Some fault.Unasked) is = tt
  behind_keeps v aim frame (Some (fault.OutOfOrder expected found)) is = tt
  behind_keeps v aim frame (Some (fault.Back time)) is = tt
  behind_keeps v aim frame (Some fault.Broken) is = tt
  behind_keeps v aim frame (Some fault.WantOfMemory) is = tt

  reads_keeps : (v : Viewer) (aim : Aim) (found : Option ServerFrame) → v.tree ≡ tree → HasTree (reads v aim found)
  reads_keeps v aim None is = tt
  reads_keeps v aim (Some frame) is = let t = taken v.worlds v.replica frame in behind_keeps (with_taken v t) aim frame t.fault is

  next_keeps : (next to : Phase) → next ≡ to → HasTree to → HasTree next
  next_keeps next to is keeps = subst HasTree (sym is) keeps

  hearing_keeps : (v : Viewer) (aim : Aim) (what : Heard) (next : Phase) → v.tree ≡ tree → Hearing v aim what next → HasTree next
  hearing_keeps v aim (said.Frame bytes) next is moves = next_keeps next _ moves (reads_keeps (heard_frame v) aim (whole server_at bytes) is)
  hearing_keeps v aim said.Quiet next is moves = next_keeps next _ moves (either_keeps (v.quiets + 1 == most_quiets) (Over ending.Ended) _ tt (go_on_keeps (heard_quiet v) [] (Receives aim) is))
  hearing_keeps v aim said.End next is moves = next_keeps next (Over ending.Ended) moves tt
  hearing_keeps v aim said.Failed next is moves = absurd moves
  hearing_keeps v aim said.WantOfMemory next is moves = absurd moves

  move_keeps : (from : Phase) (step : Step) (next : Phase) → HasTree from → Moves from step next → HasTree next
  move_keeps (Connecting v how) (Connects address) next is moves = next_keeps next (enter_session v how) moves.1 is
  move_keeps (Sending v frame frames task) (Sends bytes) next is moves = next_keeps next _ moves.3 (send_keeps (record v { receives = 0 }) frames task is)
  move_keeps (Receiving v aim) (Hears what) next is moves = hearing_keeps v aim what next is moves
  move_keeps (Printing v text) (Prints piece) next is moves = next_keeps next _ moves.1 (run_keeps v v.lines is)
  move_keeps (Leaving v text) (Prints piece) next is moves = next_keeps next _ moves.1 is
  move_keeps (PrintingLast text) (Prints piece) next is moves = next_keeps next (Over ending.Done) moves.1 tt
  move_keeps (Returning v how) Returns next is moves = next_keeps next (Connecting v how) moves is
  move_keeps from step next is never = absurd never

  -- along a walk
  pub walk_keeps : (from to : Phase) (steps : List Step) → HasTree from → Walks from steps to → HasTree to
  walk_keeps from to [] is walks = subst HasTree walks is
  walk_keeps from to (step ∷ steps) is (next, moves, walks) = walk_keeps next to steps (move_keeps from step next is moves) walks

-- ---- a world that is shown

-- it has the program of its session, and the world of the replay
pub shows_replay : (founding : Founding) (id : List ℕ) (log : List Entry) (v : Viewer) (rest : List PlainLine) → v.tree ≡ founding.tree
    → (rested v.worlds v.replica).world ≡ (replay founding id log (rested v.worlds v.replica).world.time).world → ShowsReplayOf founding id log v rest
unfolding show_world
shows_replay founding id log v rest its replayed =
    let w = after_rest (with_lines v rest) in
    ap (λ (tree : ProgramTree). finish w (full_text tree w.replica.world)) its ∙ ap (λ (world : WorldRecord). finish w (full_text founding.tree world)) replayed
