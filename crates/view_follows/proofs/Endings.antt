-- A view ends with its link, or with a refusal, only where it heard so.
use Rattle.std.proofs.Common.{◌≡◌, ◌+◌, ◌==◌, eqb, cond, ℕ, Bool, true, false, List, [], ◌∷◌, ◌++◌, Option, Some, None, refl, sym, subst, arith}
use Rattle.std.specs.Prelude.{nat_le, nat_lt}
use Rattle.std.proofs.lemmas.Bool.Decides.{nat_tests}
use Rattle.byte_fields.specs.Fields.{whole}
use Rattle.tea_io.specs.Links.{most_quiets}
use Rattle.tea_io.specs.declared.link.Heard.{Heard}
use Rattle.tea_io.specs.declared.link.Heard.TheVariants as said
use Rattle.model_value.specs.Payload.{payload_spelling}
use Rattle.wire_frames.specs.Reading.{server_at}
use Rattle.wire_frames.specs.declared.start.Base.{Base}
use Rattle.wire_frames.specs.declared.frame.ClientFrame.{ClientFrame}
use Rattle.wire_frames.specs.declared.frame.ServerFrame.{ServerFrame}
use Rattle.wire_frames.specs.declared.frame.ServerFrame.TheVariants.{Sync, Recv, Tick, Done, Snapped, Refused, Alive}
use Rattle.wire_frames.specs.declared.tags.TheConstants.{JOIN_TAG, SNAP_TAG}
use Rattle.replica_plain.specs.declared.how.How.{How}
use Rattle.replica_plain.specs.declared.how.How.TheVariants.{Fresh, Whole, Resume}
use Rattle.replica_plain.specs.declared.fault.ReplicaFault.{ReplicaFault}
use Rattle.replica_plain.specs.declared.fault.ReplicaFault.TheVariants as fault
use Rattle.replica_plain.specs.PlainReplica.{published_count}
use Rattle.replica_plain.specs.Calls.{unsent}
use Rattle.replica_plain.specs.Taking.{Taken, begins_with, begins_with_world, faults, take_done, take_sync, taken, takes}
use Rattle.run_steps.specs.Steps.{Step, Prints, Connects, Returns, Hears, Sends}
use Rattle.view_script.specs.PlainLine.{PlainLine, Publish, Watch, Wait, WaitFor, Settle, Snap, Cut, Quit, Mark, Vote, Show}
use Rattle.view_shell.specs.declared.ending.ViewEnd.{ViewEnd}
use Rattle.view_shell.specs.declared.ending.ViewEnd.TheVariants as ending
use Rattle.view_shell.specs.Phases.{Viewer, Phase, Aim, Task, ToJoin, ToReach, ToSettle, ToCatchUp, ToSnap, ToSee, Receives, Begins, TellsText, Leaves, Connecting, Sending, Receiving, Printing, Leaving, PrintingLast, Returning, Over, Hearing, Moves, Walks, after_frame, after_giving, after_publish, after_sync, alive, bad_base, begin_task, enter_session, go_on, has_caught_up, heard_frame, heard_quiet, leave_session, phase_behind_frame, reads, receive, run, send_all, settle_on, show_world, with_lines, with_taken, time_after, after_entry, after_vote, vote_by}
use Rattle.view_follows.specs.Answered.{GoOn, RefuseNoOther, RefusesNoOther}
use Rattle.view_follows.proofs.Stands.{RealReplica, RealWorlds}

-- ---- which faults a frame has

abbrev IsNoRefusal : Option ReplicaFault → Type 0
IsNoRefusal (Some (fault.Refused about code kept)) = ⊥
IsNoRefusal found = Unit {0}

either_fault : {W O : Type 0} (test : Bool) (one other : Taken W O) → IsNoRefusal one.fault → IsNoRefusal other.fault → IsNoRefusal (cond test one other).fault
either_fault true one other is is_too = is
either_fault false one other is is_too = is_too

module _ (m : RealWorlds) (r : RealReplica) where
  begins_fault : (how : How) (from : ℕ) (base : Option Base) → IsNoRefusal (begins_with m r how from base).fault
  begins_fault Fresh from None = either_fault (eqb from 0) _ _ tt tt
  begins_fault Fresh from (Some base) = elim (m.unsnap base.bytes) as (λ w. IsNoRefusal (begins_with_world m r from base.time w).fault) [
    | None ↦ tt
    | Some w ↦ either_fault (eqb (m.time w) base.time) _ _ tt tt
  ]
  begins_fault Whole from None = either_fault (eqb from 0) _ _ tt tt
  begins_fault Whole from (Some base) = tt
  begins_fault Resume from None = either_fault (eqb from r.seen) _ _ tt tt
  begins_fault Resume from (Some base) = either_fault (eqb from r.seen) _ _ tt tt

  sync_fault : (awaited : Option How) (last from : ℕ) (base : Option Base) → IsNoRefusal (take_sync m r awaited last from base).fault
  sync_fault None last from base = tt
  sync_fault (Some how) last from base = either_fault (nat_lt (published_count r) last) _ _ tt (either_fault (nat_lt last r.acknowledged) _ _ tt (begins_fault how from base))

  done_fault : (outbox : List (List ℕ)) (number : ℕ) → IsNoRefusal (take_done r outbox number).fault
  done_fault [] number = tt
  done_fault (payload ∷ rest) number = either_fault (eqb number (r.acknowledged + 1)) _ _ tt tt

  refused_fault : (other : RealReplica) (about code kept : ℕ) (of_snap of_join : Bool) → of_snap ≡ true → IsNoRefusal (cond of_snap (takes r) (cond of_join (faults other (fault.Refused about code kept)) (faults r (fault.Refused about code kept)))).fault
  refused_fault other about code kept true of_join is = tt
  refused_fault other about code kept false of_join is = absurd cc

  frame_fault : (frame : ServerFrame) → RefusesNoOther (Some frame) → IsNoRefusal (taken m r frame).fault
  frame_fault (Sync joined last from base) none = sync_fault r.awaited last from base
  frame_fault (Recv entry) none =
      either_fault r.synced _ _ (either_fault r.broken _ _ tt (either_fault (eqb entry.seq (r.seen + 1)) _ _ (either_fault (nat_le entry.time (m.time r.world)) _ _ tt tt) tt)) tt
  frame_fault (Tick t) none = either_fault r.synced _ _ (either_fault r.broken _ _ tt (either_fault (nat_lt t (m.time r.world)) _ _ tt tt)) tt
  frame_fault (Done number seq time) none = either_fault r.synced _ _ (done_fault r.outbox number) tt
  frame_fault (Snapped time) none = either_fault r.synced _ _ tt tt
  frame_fault (Refused about code kept more) none =
      let is : about ≡ SNAP_TAG = none in
      refused_fault (record r { awaited = None }) about code kept (eqb about SNAP_TAG) (eqb about JOIN_TAG) (grind (arith, nat_tests))
  frame_fault Alive none = tt

-- ---- how a view goes on, where it has only such ends

module _ (P : ViewEnd → Type 0) (done : P ending.Done) (want : P ending.WantOfMemory) where
  -- its link was quiet so often in a row, and if it is over it has such an end
  abbrev pub Keeps : Phase → ℕ → Type 0
  Keeps (Connecting v how) quiets = Unit {0}
  Keeps (Sending v frame frames task) quiets = v.quiets ≡ quiets
  Keeps (Receiving v aim) quiets = v.quiets ≡ quiets
  Keeps (Printing v text) quiets = v.quiets ≡ quiets
  Keeps (Leaving v text) quiets = v.quiets ≡ quiets
  Keeps (PrintingLast line) quiets = Unit {0}
  Keeps (Returning v how) quiets = Unit {0}
  Keeps (Over end) quiets = P end

  pub either_keeps : (test : Bool) (p q : Phase) (quiets : ℕ) → (test ≡ true → Keeps p quiets) → Keeps q quiets → Keeps (cond test p q) quiets
  either_keeps true p q quiets first second = first refl
  either_keeps false p q quiets first second = second

  settle_keeps : (v : Viewer) (payloads : List (List ℕ)) (quiets : ℕ) → v.quiets ≡ quiets → Keeps (settle_on v payloads) quiets
  settle_keeps v [] quiets is = is
  settle_keeps v (payload ∷ rest) quiets is = is

  receive_keeps : (v : Viewer) (aim : Aim) (quiets : ℕ) → v.quiets ≡ quiets → Keeps (receive v aim) quiets
  receive_keeps v (ToJoin how) quiets is = is
  receive_keeps v (ToReach time) quiets is = either_keeps (nat_le time v.replica.world.time) _ _ quiets (λ test. is) is
  receive_keeps v ToSettle quiets is = settle_keeps v v.replica.outbox quiets is
  receive_keeps v ToCatchUp quiets is = either_keeps (has_caught_up v.replica) _ _ quiets (λ test. is) is
  receive_keeps v ToSnap quiets is = is
  receive_keeps v (ToSee at) quiets is = is

  pub begin_keeps : (v : Viewer) (task : Task) (quiets : ℕ) → v.quiets ≡ quiets → Keeps (begin_task v task) quiets
  begin_keeps v (Receives aim) quiets is = receive_keeps v aim quiets is
  begin_keeps v Begins quiets is = is
  begin_keeps v (TellsText text) quiets is = is
  begin_keeps v Leaves quiets is = tt

  send_keeps : (v : Viewer) (frames : List ClientFrame) (task : Task) (quiets : ℕ) → v.quiets ≡ quiets → Keeps (send_all v frames task) quiets
  send_keeps v [] task quiets is = begin_keeps v task quiets is
  send_keeps v (frame ∷ frames) task quiets is = is

  pub leave_keeps : (v : Viewer) (quiets : ℕ) → v.quiets ≡ quiets → Keeps (leave_session v) quiets
  unfolding leave_session
  leave_keeps v quiets is = is

  vote_keeps : (has : Bool) (v : Viewer) (at quiets : ℕ) → v.quiets ≡ quiets → Keeps (vote_by has v at) quiets
  vote_keeps true v at quiets is = is
  vote_keeps false v at quiets is = is

  show_keeps : (v : Viewer) (quiets : ℕ) → v.quiets ≡ quiets → Keeps (show_world v) quiets
  unfolding show_world
  show_keeps v quiets is = is

  pub run_keeps : (v : Viewer) (lines : List PlainLine) (quiets : ℕ) → v.quiets ≡ quiets → Keeps (run v lines) quiets
  run_keeps v [] quiets is = leave_keeps v quiets is
  run_keeps v (Publish scope event value ∷ rest) quiets is =
      let w = after_publish (with_lines v rest) (payload_spelling (record { scope = scope; event = event; value = value })) in
      send_keeps (after_giving w) (unsent w.replica) (Receives ToCatchUp) quiets is
  run_keeps v (Watch scope event handling ∷ rest) quiets is = is
  run_keeps v (Wait time ∷ rest) quiets is = receive_keeps (with_lines v rest) (ToReach time) quiets is
  run_keeps v (WaitFor span ∷ rest) quiets is = receive_keeps (with_lines v rest) (ToReach (time_after v.replica.world.time span)) quiets is
  run_keeps v (Settle ∷ rest) quiets is = send_keeps (after_giving (with_lines v rest)) (unsent v.replica) (Receives ToSettle) quiets is
  run_keeps v (Snap ∷ rest) quiets is = is
  run_keeps v (Cut ∷ rest) quiets is = tt
  run_keeps v (Quit ∷ rest) quiets is = leave_keeps (with_lines v rest) quiets is
  run_keeps v (Mark word ∷ rest) quiets is = is
  run_keeps v (Vote at ∷ rest) quiets is = vote_keeps (nat_le at v.replica.seen) (with_lines v rest) at quiets is
  run_keeps v (Show ∷ rest) quiets is = show_keeps (with_lines v rest) quiets is

  go_on_keeps : (v : Viewer) (frames : List ClientFrame) (task : Task) (quiets : ℕ) → v.quiets ≡ quiets → Keeps (go_on v frames task) quiets
  go_on_keeps v frames task quiets is = send_keeps v (alive v ++ frames) task quiets is

  sync_keeps : (v : Viewer) (how : How) (joined from quiets : ℕ) → v.quiets ≡ quiets → Keeps (after_sync v how joined from) quiets
  sync_keeps v Fresh joined from quiets is = go_on_keeps v [] Begins quiets is
  sync_keeps v Whole joined from quiets is = go_on_keeps v [] Begins quiets is
  sync_keeps v Resume joined from quiets is = go_on_keeps (after_giving v) (unsent v.replica) (TellsText _) quiets is

  entry_keeps : (has : Bool) (v : Viewer) (at quiets : ℕ) → v.quiets ≡ quiets → Keeps (after_entry has v at) quiets
  entry_keeps true v at quiets is = let w = after_vote v at in go_on_keeps (after_giving w) (unsent w.replica) (TellsText _) quiets is
  entry_keeps false v at quiets is = go_on_keeps v [] (Receives (ToSee at)) quiets is

  frame_keeps : (v : Viewer) (aim : Aim) (frame : ServerFrame) (quiets : ℕ) → v.quiets ≡ quiets → Keeps (after_frame v aim frame) quiets
  frame_keeps v (ToJoin how) (Sync joined last from base) quiets is = sync_keeps v how joined from quiets is
  frame_keeps v (ToJoin how) frame quiets is = go_on_keeps v [] (Receives (ToJoin how)) quiets is
  frame_keeps v ToSnap (Snapped time) quiets is = go_on_keeps v [] (TellsText _) quiets is
  frame_keeps v ToSnap (Refused about code kept more) quiets is = go_on_keeps v [] (TellsText _) quiets is
  frame_keeps v ToSnap frame quiets is = go_on_keeps v [] (Receives ToSnap) quiets is
  frame_keeps v (ToReach time) frame quiets is = go_on_keeps v [] (Receives (ToReach time)) quiets is
  frame_keeps v ToSettle frame quiets is = go_on_keeps v [] (Receives ToSettle) quiets is
  frame_keeps v (ToSee at) frame quiets is = entry_keeps (nat_le at v.replica.seen) v at quiets is
  frame_keeps v ToCatchUp frame quiets is = go_on_keeps v [] (Receives ToCatchUp) quiets is

  base_keeps : (v : Viewer) (aim : Aim) (quiets : ℕ) → P ending.Peer → Keeps (bad_base v aim) quiets
  base_keeps v (ToJoin Fresh) quiets may = tt
  base_keeps v (ToJoin Whole) quiets may = may
  base_keeps v (ToJoin Resume) quiets may = may
  base_keeps v (ToReach time) quiets may = may
  base_keeps v ToSettle quiets may = may
  base_keeps v ToCatchUp quiets may = may
  base_keeps v ToSnap quiets may = may
  base_keeps v (ToSee at) quiets may = may

  -- this fault ends no view, or may end one
  abbrev pub MayRefuse : Option ReplicaFault → Type 0
  MayRefuse (Some (fault.Refused about code kept)) = P (ending.Refused code kept)
  MayRefuse (Some fault.BadBase) = P ending.Peer
  MayRefuse (Some fault.Unasked) = P ending.Peer
  MayRefuse (Some (fault.OutOfOrder expected found)) = P ending.Peer
  MayRefuse (Some (fault.Back time)) = P ending.Peer
  MayRefuse found = Unit {0}

  behind_keeps : (v : Viewer) (aim : Aim) (frame : ServerFrame) (found : Option ReplicaFault) (quiets : ℕ) → v.quiets ≡ quiets → MayRefuse found → Keeps (phase_behind_frame v aim frame found) quiets
  behind_keeps v aim frame None quiets is may = frame_keeps v aim frame quiets is
  behind_keeps v aim frame (Some (fault.Refused about code kept)) quiets is may = may
  behind_keeps v aim frame (Some fault.BadBase) quiets is may = base_keeps v aim quiets may
  behind_keeps v aim frame (Some fault.Unasked) quiets is may = may
  behind_keeps v aim frame (Some (fault.OutOfOrder expected found)) quiets is may = may
  behind_keeps v aim frame (Some (fault.Back time)) quiets is may = may
  behind_keeps v aim frame (Some fault.Broken) quiets is may = want
  behind_keeps v aim frame (Some fault.WantOfMemory) quiets is may = want

  abbrev pub MayRead : Viewer → Option ServerFrame → Type 0
  MayRead v None = P ending.Peer
  MayRead v (Some frame) = MayRefuse (taken v.worlds v.replica frame).fault

  reads_keeps : (v : Viewer) (aim : Aim) (found : Option ServerFrame) (quiets : ℕ) → v.quiets ≡ quiets → MayRead v found → Keeps (reads v aim found) quiets
  reads_keeps v aim None quiets is may = may
  reads_keeps v aim (Some frame) quiets is may = let t = taken v.worlds v.replica frame in behind_keeps (with_taken v t) aim frame t.fault quiets is may

  -- what is heard may not end a view so, or that may be
  abbrev pub MayHear : Viewer → Heard → Type 0
  MayHear v (said.Frame bytes) = MayRead v (whole server_at bytes)
  MayHear v said.Quiet = v.quiets + 1 ≡ most_quiets → P ending.Ended
  MayHear v said.End = P ending.Ended
  MayHear v what = Unit {0}

  -- how often a link was quiet then
  abbrev pub quiets_behind : ℕ → Heard → ℕ
  quiets_behind quiets said.Quiet = quiets + 1
  quiets_behind quiets what = 0

  pub hearing_keeps : (v : Viewer) (aim : Aim) (what : Heard) (next : Phase) (quiets : ℕ) → v.quiets ≡ quiets → MayHear v what → Hearing v aim what next → Keeps next (quiets_behind quiets what)
  hearing_keeps v aim (said.Frame bytes) next quiets is may moves = subst (λ (p : Phase). Keeps p 0) (sym moves) (reads_keeps (heard_frame v) aim (whole server_at bytes) 0 refl may)
  hearing_keeps v aim said.Quiet next quiets is may moves =
      subst (λ (p : Phase). Keeps p (quiets + 1)) (sym moves)
      (either_keeps (v.quiets + 1 == most_quiets) (Over ending.Ended) _ (quiets + 1) (λ test. may (grind (arith, nat_tests)))
      (go_on_keeps (heard_quiet v) [] (Receives aim) (quiets + 1) (omega (arith, is))))
  hearing_keeps v aim said.End next quiets is may moves = subst (λ (p : Phase). Keeps p 0) (sym moves) may
  hearing_keeps v aim said.Failed next quiets is may moves = absurd moves
  hearing_keeps v aim said.WantOfMemory next quiets is may moves = absurd moves

  next_keeps : (next to : Phase) (quiets : ℕ) → next ≡ to → Keeps to quiets → Keeps next quiets
  next_keeps next to quiets is keeps = subst (λ (p : Phase). Keeps p quiets) (sym is) keeps

  abbrev MayStep : Phase → Step → Type 0
  MayStep (Receiving v aim) (Hears what) = MayHear v what
  MayStep phase step = Unit {0}

  abbrev quiets_then : ℕ → Step → ℕ
  quiets_then quiets (Hears what) = quiets_behind quiets what
  quiets_then quiets (Connects address) = 0
  quiets_then quiets step = quiets

  move_keeps : (from : Phase) (step : Step) (next : Phase) (quiets : ℕ) → Keeps from quiets → MayStep from step → Moves from step next → Keeps next (quiets_then quiets step)
  move_keeps (Connecting v how) (Connects address) next quiets is may moves = next_keeps next (enter_session v how) 0 moves.1 refl
  move_keeps (Sending v frame frames task) (Sends bytes) next quiets is may moves = next_keeps next _ quiets moves.3 (send_keeps (record v { receives = 0 }) frames task quiets is)
  move_keeps (Receiving v aim) (Hears what) next quiets is may moves = hearing_keeps v aim what next quiets is may moves
  move_keeps (Printing v text) (Prints piece) next quiets is may moves = next_keeps next _ quiets moves.1 (run_keeps v v.lines quiets is)
  move_keeps (Leaving v text) (Prints piece) next quiets is may moves = next_keeps next _ quiets moves.1 is
  move_keeps (PrintingLast text) (Prints piece) next quiets is may moves = next_keeps next _ quiets moves.1 done
  move_keeps (Returning v how) Returns next quiets is may moves = next_keeps next (Connecting v how) quiets moves tt
  move_keeps from step next quiets is may never = absurd never

  pub over_keeps : (end : ViewEnd) (from : Phase) (quiets : ℕ) → Keeps from quiets → from ≡ Over end → P end
  over_keeps end from quiets keeps is = subst (λ (p : Phase). Keeps p quiets) is keeps

-- ---- the end of a link

abbrev pub IsNotEnded : ViewEnd → Type 0
IsNotEnded ending.Ended = ⊥
IsNotEnded end = Unit {0}

refusal_ends : (found : Option ReplicaFault) → MayRefuse IsNotEnded tt tt found
refusal_ends None = tt
refusal_ends (Some (fault.Refused about code kept)) = tt
refusal_ends (Some other) = tt

read_ends : (v : Viewer) (found : Option ServerFrame) → MayRead IsNotEnded tt tt v found
read_ends v None = tt
read_ends v (Some frame) = refusal_ends (taken v.worlds v.replica frame).fault

pub may_hear : (v : Viewer) (aim : Aim) (what : Heard) (steps : List Step) (quiets : ℕ) → v.quiets ≡ quiets → GoOn quiets (Hears what ∷ steps) → MayHear IsNotEnded tt tt v what
may_hear v aim (said.Frame bytes) steps quiets is goes = read_ends v (whole server_at bytes)
may_hear v aim said.Quiet steps quiets is goes = λ most. let few = goes.0 in absurd (omega (arith, is, most, few))
may_hear v aim said.End steps quiets is goes = goes
may_hear v aim said.Failed steps quiets is goes = tt
may_hear v aim said.WantOfMemory steps quiets is goes = tt

may_go_on : (from : Phase) (step : Step) (steps : List Step) (quiets : ℕ) → Keeps IsNotEnded tt tt from quiets → GoOn quiets (step ∷ steps) → MayStep IsNotEnded tt tt from step
may_go_on (Receiving v aim) (Hears what) steps quiets is goes = may_hear v aim what steps quiets is goes
may_go_on from step steps quiets is goes = tt

others_go_on : (step : Step) (steps : List Step) (quiets : ℕ) → GoOn quiets (step ∷ steps) → GoOn (quiets_then IsNotEnded tt tt quiets step) steps
others_go_on (Hears said.Quiet) steps quiets goes = goes.1
others_go_on (Hears said.End) steps quiets goes = absurd goes
others_go_on (Hears (said.Frame bytes)) steps quiets goes = goes
others_go_on (Hears said.Failed) steps quiets goes = goes
others_go_on (Hears said.WantOfMemory) steps quiets goes = goes
others_go_on (Connects address) steps quiets goes = goes
others_go_on step steps quiets goes = goes

pub never_ends : (from : Phase) (steps : List Step) (quiets : ℕ) → Keeps IsNotEnded tt tt from quiets → GoOn quiets steps → Walks from steps (Over ending.Ended) → ⊥
never_ends from [] quiets is goes walks = over_keeps IsNotEnded tt tt ending.Ended from quiets is walks
never_ends from (step ∷ steps) quiets is goes (next, moves, walks) =
    never_ends next steps (quiets_then IsNotEnded tt tt quiets step) (move_keeps IsNotEnded tt tt from step next quiets is (may_go_on from step steps quiets is goes) moves) (others_go_on step steps quiets goes) walks

-- ---- a refusal

abbrev pub IsNotRefused : ViewEnd → Type 0
IsNotRefused (ending.Refused code kept) = ⊥
IsNotRefused end = Unit {0}

may_refuse : (found : Option ReplicaFault) → IsNoRefusal found → MayRefuse IsNotRefused tt tt found
may_refuse None is = tt
may_refuse (Some (fault.Refused about code kept)) is = is
may_refuse (Some other) is = tt

pub may_read : (v : Viewer) (found : Option ServerFrame) → RefusesNoOther found → MayRead IsNotRefused tt tt v found
may_read v None none = tt
may_read v (Some frame) none = may_refuse (taken v.worlds v.replica frame).fault (frame_fault v.worlds v.replica frame none)

pub hears_none : (v : Viewer) (what : Heard) (steps : List Step) → RefuseNoOther (Hears what ∷ steps) → MayHear IsNotRefused tt tt v what
hears_none v (said.Frame bytes) steps none = may_read v (whole server_at bytes) none.0
hears_none v said.Quiet steps none = λ most. tt
hears_none v said.End steps none = tt
hears_none v said.Failed steps none = tt
hears_none v said.WantOfMemory steps none = tt

steps_none : (from : Phase) (step : Step) (steps : List Step) → RefuseNoOther (step ∷ steps) → MayStep IsNotRefused tt tt from step
steps_none (Receiving v aim) (Hears what) steps none = hears_none v what steps none
steps_none from step steps none = tt

others_none : (step : Step) (steps : List Step) → RefuseNoOther (step ∷ steps) → RefuseNoOther steps
others_none (Hears (said.Frame bytes)) steps none = none.1
others_none (Hears said.Quiet) steps none = none
others_none (Hears said.End) steps none = none
others_none (Hears said.Failed) steps none = none
others_none (Hears said.WantOfMemory) steps none = none
others_none step steps none = none

pub never_refused : (code kept : ℕ) (from : Phase) (steps : List Step) (quiets : ℕ) → Keeps IsNotRefused tt tt from quiets → RefuseNoOther steps → Walks from steps (Over (ending.Refused code kept)) → ⊥
never_refused code kept from [] quiets is none walks = over_keeps IsNotRefused tt tt (ending.Refused code kept) from quiets is walks
never_refused code kept from (step ∷ steps) quiets is none (next, moves, walks) =
    never_refused code kept next steps (quiets_then IsNotRefused tt tt quiets step) (move_keeps IsNotRefused tt tt from step next quiets is (steps_none from step steps none) moves) (others_none step steps none) walks
