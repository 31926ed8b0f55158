-- A live view ends with its link, with a refusal, or with a fault of the net only where it was told so.
use Rattle.std.proofs.Common.{◌≡◌, ℕ, Bool, true, false, List, [], ◌∷◌, ◌++◌, map, Option, Some, None, refl, sym, subst}
use Rattle.std.specs.Prelude.{nat_lt}
use Rattle.byte_fields.specs.Fields.{whole}
use Rattle.tea_io.specs.declared.link.Heard.{Heard}
use Rattle.tea_io.specs.declared.link.Heard.TheVariants as said
use Rattle.wire_frames.specs.Reading.{server_at}
use Rattle.wire_frames.specs.declared.frame.ClientFrame.{ClientFrame}
use Rattle.wire_frames.specs.declared.frame.ServerFrame.{ServerFrame}
use Rattle.replica_plain.specs.declared.fault.ReplicaFault.{ReplicaFault}
use Rattle.replica_plain.specs.declared.fault.ReplicaFault.TheVariants as fault
use Rattle.replica_plain.specs.Taking.{taken}
use Rattle.run_steps.specs.Steps.{Step, Sends}
use Rattle.view_script.specs.PlainLine.{PlainLine}
use Rattle.view_shell.specs.declared.ending.ViewEnd.{ViewEnd}
use Rattle.view_shell.specs.declared.ending.ViewEnd.TheVariants as ending
use Rattle.view_shell.specs.Phases.{Viewer, Phase, Aim, Connecting, Sending, Receiving, Printing, Leaving, PrintingLast, Returning, Over, begin_task, enter_session, leave_session, run, with_lines}
use Rattle.live_view.specs.declared.input.LiveInput.{LiveInput}
use Rattle.live_view.specs.declared.input.LiveInput.TheVariants as input
use Rattle.live_view.specs.Lines.{LineRead, NoLine, Lines, Holds, read_line}
use Rattle.live_view.specs.Live.{LiveState, Told, drive, drives, goes_on, has_room, heard_by, heard_step, hears, holds_on, if_room, line_at, line_step, lines_from, lines_kept, link_step, live_run, live_step, more_lines, one_more, phase_step, rests, revived, sends_all, still, unlinked_by, viewer_of, votes_in, waits, wakes_by}
use Rattle.view_follows.specs.Answered.{GoOn, RefuseNoOther}
use Rattle.view_follows.specs.LiveEnds.{IsNoPeerFault, IsTaken, IsTakenWell, TakesAllWell, WorkWell, link_steps, told_as}
use Rattle.view_follows.proofs.Endings.{IsNotEnded, IsNotRefused, Keeps, MayHear, MayRead, MayRefuse, begin_keeps, hearing_keeps, hears_none, leave_keeps, may_hear, over_keeps, quiets_behind, run_keeps}

-- frames are sent, and the phase stays
pub sent_phase : (frames : List ClientFrame) (t : Told) → (sends_all frames t).phase ≡ t.phase
sent_phase [] t = refl
sent_phase (frame ∷ frames) t = sent_phase frames t

-- ---- how a live view goes on, where it has only such ends

module _ (P : ViewEnd → Type 0) (done : P ending.Done) (want : P ending.WantOfMemory) where
  abbrev pub LiveKeeps : Phase → ℕ → Type 0
  LiveKeeps phase quiets = Keeps P done want phase quiets

  still_keeps : (next : Viewer → Told) (phase : Phase) (quiets : ℕ) → ((v : Viewer) → v.quiets ≡ quiets → LiveKeeps (next v).phase quiets) → LiveKeeps phase quiets → LiveKeeps (still next phase).phase quiets
  still_keeps next (Connecting v how) quiets on is = is
  still_keeps next (Sending v frame frames task) quiets on is = is
  still_keeps next (Receiving v aim) quiets on is = is
  still_keeps next (Printing v text) quiets on is = on v is
  still_keeps next (Leaving v text) quiets on is = done
  still_keeps next (PrintingLast text) quiets on is = done
  still_keeps next (Returning v how) quiets on is = tt
  still_keeps next (Over end) quiets on is = is

  drive_keeps : (next : Viewer → Told) (phase : Phase) (quiets : ℕ) → ((v : Viewer) → v.quiets ≡ quiets → LiveKeeps (next v).phase quiets) → LiveKeeps phase quiets → LiveKeeps (drive next phase).phase quiets
  drive_keeps next (Sending v frame frames task) quiets on is =
      let w : Viewer = record v { receives = 0 } in
      subst (λ (p : Phase). LiveKeeps p quiets) (sym (sent_phase frames (still next (begin_task w task))))
      (still_keeps next (begin_task w task) quiets on (begin_keeps P done want w task quiets is))
  drive_keeps next (Connecting v how) quiets on is = is
  drive_keeps next (Receiving v aim) quiets on is = is
  drive_keeps next (Printing v text) quiets on is = on v is
  drive_keeps next (Leaving v text) quiets on is = done
  drive_keeps next (PrintingLast text) quiets on is = done
  drive_keeps next (Returning v how) quiets on is = tt
  drive_keeps next (Over end) quiets on is = is

  lines_keeps : (closed : Bool) (lines : List PlainLine) (v : Viewer) (quiets : ℕ) → v.quiets ≡ quiets → LiveKeeps (lines_from closed lines v).phase quiets
  lines_keeps true [] v quiets is = drive_keeps (λ w. waits (Over ending.Done)) (leave_session v) quiets (λ w same. done) (leave_keeps P done want v quiets is)
  lines_keeps false [] v quiets is = is
  lines_keeps closed (line ∷ rest) v quiets is =
      drive_keeps (λ w. lines_from closed rest w) (run v (line ∷ rest)) quiets (λ w same. lines_keeps closed rest w quiets same) (run_keeps P done want v (line ∷ rest) quiets is)

  all_keeps : (closed : Bool) (phase : Phase) (quiets : ℕ) → LiveKeeps phase quiets → LiveKeeps (drives closed phase).phase quiets
  all_keeps closed phase quiets is = drive_keeps (λ v. goes_on closed v) phase quiets (λ v same. lines_keeps closed v.lines v quiets same) is

  -- what it is told may not end it so, or that may be
  abbrev pub MayHearAny : Viewer → Heard → Type 0
  MayHearAny v said.Failed = P ending.NetFault
  MayHearAny v what = MayHear P done want v what

  abbrev pub MayTell : LiveInput → Phase → Type 0
  MayTell input.LinkFailed (Connecting v how) = P ending.NetFault
  MayTell (input.Says what) (Receiving v aim) = MayHearAny v what
  MayTell told phase = Unit {0}

  pub may_miss : (phase : Phase) → P ending.NetFault → MayTell input.LinkFailed phase
  may_miss (Connecting v how) may = may
  may_miss (Sending v frame frames task) may = tt
  may_miss (Receiving v aim) may = tt
  may_miss (Printing v text) may = tt
  may_miss (Leaving v text) may = tt
  may_miss (PrintingLast text) may = tt
  may_miss (Returning v how) may = tt
  may_miss (Over end) may = tt

  pub may_say : (what : Heard) (phase : Phase) → ((v : Viewer) → MayHearAny v what) → MayTell (input.Says what) phase
  may_say what (Receiving v aim) may = may v
  may_say what (Connecting v how) may = tt
  may_say what (Sending v frame frames task) may = tt
  may_say what (Printing v text) may = tt
  may_say what (Leaving v text) may = tt
  may_say what (PrintingLast text) may = tt
  may_say what (Returning v how) may = tt
  may_say what (Over end) may = tt

  -- how often a link was quiet then
  abbrev pub quiets_told : LiveInput → Phase → ℕ → ℕ
  quiets_told input.Linked (Connecting v how) quiets = 0
  quiets_told (input.Says what) (Receiving v aim) quiets = quiets_behind P done want quiets what
  quiets_told told phase quiets = quiets

  linked_keeps : (lost closed : Bool) (phase : Phase) (quiets : ℕ) → LiveKeeps phase quiets → LiveKeeps (link_step closed (revived lost phase)).phase (quiets_told input.Linked phase quiets)
  linked_keeps lost closed (Connecting v how) quiets is = all_keeps closed (enter_session (with_lines v (lines_kept lost v.lines)) how) 0 refl
  linked_keeps lost closed (Sending v frame frames task) quiets is = is
  linked_keeps lost closed (Receiving v aim) quiets is = is
  linked_keeps lost closed (Printing v text) quiets is = is
  linked_keeps lost closed (Leaving v text) quiets is = is
  linked_keeps lost closed (PrintingLast text) quiets is = is
  linked_keeps lost closed (Returning v how) quiets is = is
  linked_keeps lost closed (Over end) quiets is = is

  missed_keeps : (held : Bool) (phase : Phase) (quiets : ℕ) → LiveKeeps phase quiets → MayTell input.LinkFailed phase → LiveKeeps (unlinked_by held phase) quiets
  missed_keeps true phase quiets is may = is
  missed_keeps false (Connecting v how) quiets is may = may
  missed_keeps false (Sending v frame frames task) quiets is may = is
  missed_keeps false (Receiving v aim) quiets is may = is
  missed_keeps false (Printing v text) quiets is may = is
  missed_keeps false (Leaving v text) quiets is may = is
  missed_keeps false (PrintingLast text) quiets is may = is
  missed_keeps false (Returning v how) quiets is may = is
  missed_keeps false (Over end) quiets is may = is

  heard_keeps : (held closed : Bool) (v : Viewer) (aim : Aim) (what : Heard) (quiets : ℕ) → v.quiets ≡ quiets → MayTell (input.Says what) (Receiving v aim)
      → LiveKeeps (heard_by held closed v aim what).phase (quiets_behind P done want quiets what)
  heard_keeps true closed v aim what quiets is may = tt
  heard_keeps false closed v aim (said.Frame bytes) quiets is may = all_keeps closed (hears v aim (said.Frame bytes)) 0 (hearing_keeps P done want v aim (said.Frame bytes) (hears v aim (said.Frame bytes)) quiets is may refl)
  heard_keeps false closed v aim said.Quiet quiets is may = all_keeps closed (hears v aim said.Quiet) _ (hearing_keeps P done want v aim said.Quiet (hears v aim said.Quiet) quiets is may refl)
  heard_keeps false closed v aim said.End quiets is may = may
  heard_keeps false closed v aim said.Failed quiets is may = may
  heard_keeps false closed v aim said.WantOfMemory quiets is may = want

  says_keeps : (closed : Bool) (holds : ℕ) (phase : Phase) (what : Heard) (quiets : ℕ) → LiveKeeps phase quiets → MayTell (input.Says what) phase
      → LiveKeeps (heard_step closed holds phase what).phase (quiets_told (input.Says what) phase quiets)
  says_keeps closed holds (Receiving v aim) what quiets is may = heard_keeps (holds_on holds v what) closed v aim what quiets is may
  says_keeps closed holds (Connecting v how) what quiets is may = is
  says_keeps closed holds (Sending v frame frames task) what quiets is may = is
  says_keeps closed holds (Printing v text) what quiets is may = is
  says_keeps closed holds (Leaving v text) what quiets is may = is
  says_keeps closed holds (PrintingLast text) what quiets is may = is
  says_keeps closed holds (Returning v how) what quiets is may = is
  says_keeps closed holds (Over end) what quiets is may = is

  wakes_keeps : (rested closed : Bool) (phase : Phase) (quiets : ℕ) → LiveKeeps phase quiets → LiveKeeps (wakes_by rested closed phase).phase quiets
  wakes_keeps false closed phase quiets is = is
  wakes_keeps true closed (Receiving v aim) quiets is = lines_keeps closed v.lines v quiets is
  wakes_keeps true closed (Connecting v how) quiets is = is
  wakes_keeps true closed (Sending v frame frames task) quiets is = is
  wakes_keeps true closed (Printing v text) quiets is = is
  wakes_keeps true closed (Leaving v text) quiets is = is
  wakes_keeps true closed (PrintingLast text) quiets is = is
  wakes_keeps true closed (Returning v how) quiets is = is
  wakes_keeps true closed (Over end) quiets is = is

  more_keeps : (phase : Phase) (more : List PlainLine) (quiets : ℕ) → LiveKeeps phase quiets → LiveKeeps (more_lines phase more) quiets
  more_keeps (Connecting v how) more quiets is = is
  more_keeps (Receiving v aim) more quiets is = is
  more_keeps (Sending v frame frames task) more quiets is = is
  more_keeps (Printing v text) more quiets is = is
  more_keeps (Leaving v text) more quiets is = is
  more_keeps (PrintingLast text) more quiets is = is
  more_keeps (Returning v how) more quiets is = is
  more_keeps (Over end) more quiets is = is

  room_keeps : (room : Bool) (number : ℕ) (phase : Phase) (more : List PlainLine) (quiets : ℕ) → LiveKeeps phase quiets → LiveKeeps (if_room room number phase more).phase quiets
  room_keeps true number phase more quiets is = wakes_keeps (rests (more_lines phase more)) false (more_lines phase more) quiets (more_keeps phase more quiets is)
  room_keeps false number phase more quiets is = is

  read_keeps : (number : ℕ) (found : Option Viewer) (phase : Phase) (read : LineRead) (quiets : ℕ) → LiveKeeps phase quiets → LiveKeeps (line_at number found phase read).phase quiets
  read_keeps number None phase read quiets is = is
  read_keeps number (Some v) phase NoLine quiets is = is
  read_keeps number (Some v) phase (Lines more) quiets is = room_keeps (has_room (votes_in phase) v more) number phase more quiets is
  read_keeps number (Some v) phase (Holds count) quiets is = is

  line_keeps : (closed : Bool) (number : ℕ) (phase : Phase) (read : LineRead) (quiets : ℕ) → LiveKeeps phase quiets → LiveKeeps (line_step closed number phase read).phase quiets
  line_keeps true number phase read quiets is = is
  line_keeps false number phase read quiets is = read_keeps number (viewer_of phase) phase read quiets is

  pub step_keeps : (s : LiveState) (told : LiveInput) (quiets : ℕ) → LiveKeeps s.phase quiets → MayTell told s.phase → LiveKeeps (phase_step s told).phase (quiets_told told s.phase quiets)
  step_keeps s input.Linked quiets is may = linked_keeps s.lost s.closed s.phase quiets is
  step_keeps s input.LinkFailed quiets is may = missed_keeps (nat_lt 0 s.holds) s.phase quiets is may
  step_keeps s (input.Says what) quiets is may = says_keeps s.closed s.holds s.phase what quiets is may
  step_keeps s (input.Line bytes) quiets is may = line_keeps s.closed (one_more s.count) s.phase (read_line bytes) quiets is
  step_keeps s input.Closed quiets is may = wakes_keeps (rests s.phase) true s.phase quiets is

-- ---- the end of a link

sends_go_on : (frames : List (List ℕ)) (rest : List Step) (quiets : ℕ) → GoOn quiets (map Sends frames ++ rest) → GoOn quiets rest
sends_go_on [] rest quiets goes = goes
sends_go_on (frame ∷ frames) rest quiets goes = sends_go_on frames rest quiets goes

told_ends : (told : LiveInput) (phase : Phase) (rest : List Step) (quiets : ℕ) → LiveKeeps IsNotEnded tt tt phase quiets → GoOn quiets (told_as told phase ++ rest)
    → MayTell IsNotEnded tt tt told phase × GoOn (quiets_told IsNotEnded tt tt told phase quiets) rest
told_ends (input.Line bytes) phase rest quiets is goes = (tt, goes)
told_ends input.Closed phase rest quiets is goes = (tt, goes)
told_ends input.LinkFailed phase rest quiets is goes = (may_miss IsNotEnded tt tt phase tt, goes)
told_ends input.Linked (Connecting v how) rest quiets is goes = (tt, goes)
told_ends input.Linked (Receiving v aim) rest quiets is goes = (tt, goes)
told_ends input.Linked (Sending v frame frames task) rest quiets is goes = (tt, goes)
told_ends input.Linked (Printing v text) rest quiets is goes = (tt, goes)
told_ends input.Linked (Leaving v text) rest quiets is goes = (tt, goes)
told_ends input.Linked (PrintingLast text) rest quiets is goes = (tt, goes)
told_ends input.Linked (Returning v how) rest quiets is goes = (tt, goes)
told_ends input.Linked (Over end) rest quiets is goes = (tt, goes)
told_ends (input.Says (said.Frame bytes)) (Receiving v aim) rest quiets is goes = (may_hear v aim (said.Frame bytes) rest quiets is goes, goes)
told_ends (input.Says said.Quiet) (Receiving v aim) rest quiets is goes = (may_hear v aim said.Quiet rest quiets is goes, goes.1)
told_ends (input.Says said.End) (Receiving v aim) rest quiets is goes = absurd goes
told_ends (input.Says said.Failed) (Receiving v aim) rest quiets is goes = (tt, goes)
told_ends (input.Says said.WantOfMemory) (Receiving v aim) rest quiets is goes = (tt, goes)
told_ends (input.Says what) (Connecting v how) rest quiets is goes = (tt, goes)
told_ends (input.Says what) (Sending v frame frames task) rest quiets is goes = (tt, goes)
told_ends (input.Says what) (Printing v text) rest quiets is goes = (tt, goes)
told_ends (input.Says what) (Leaving v text) rest quiets is goes = (tt, goes)
told_ends (input.Says what) (PrintingLast text) rest quiets is goes = (tt, goes)
told_ends (input.Says what) (Returning v how) rest quiets is goes = (tt, goes)
told_ends (input.Says what) (Over end) rest quiets is goes = (tt, goes)

pub live_never_ends : (s : LiveState) (inputs : List LiveInput) (quiets : ℕ) → LiveKeeps IsNotEnded tt tt s.phase quiets → GoOn quiets (link_steps s inputs) → (live_run s inputs).phase ≡ Over ending.Ended → ⊥
live_never_ends s [] quiets is goes over = over_keeps IsNotEnded tt tt ending.Ended s.phase quiets is over
live_never_ends s (told ∷ more) quiets is goes over =
    let first = live_step s told in
    let may = told_ends told s.phase (map Sends first.frames ++ link_steps first.state more) quiets is goes in
    live_never_ends first.state more (quiets_told IsNotEnded tt tt told s.phase quiets) (step_keeps IsNotEnded tt tt s told quiets is may.0) (sends_go_on first.frames (link_steps first.state more) _ may.1) over

-- ---- a refusal

sends_refuse : (frames : List (List ℕ)) (rest : List Step) → RefuseNoOther (map Sends frames ++ rest) → RefuseNoOther rest
sends_refuse [] rest none = none
sends_refuse (frame ∷ frames) rest none = sends_refuse frames rest none

told_refuses : (told : LiveInput) (phase : Phase) (rest : List Step) → RefuseNoOther (told_as told phase ++ rest) → MayTell IsNotRefused tt tt told phase × RefuseNoOther rest
told_refuses (input.Line bytes) phase rest none = (tt, none)
told_refuses input.Closed phase rest none = (tt, none)
told_refuses input.LinkFailed phase rest none = (may_miss IsNotRefused tt tt phase tt, none)
told_refuses input.Linked (Connecting v how) rest none = (tt, none)
told_refuses input.Linked (Receiving v aim) rest none = (tt, none)
told_refuses input.Linked (Sending v frame frames task) rest none = (tt, none)
told_refuses input.Linked (Printing v text) rest none = (tt, none)
told_refuses input.Linked (Leaving v text) rest none = (tt, none)
told_refuses input.Linked (PrintingLast text) rest none = (tt, none)
told_refuses input.Linked (Returning v how) rest none = (tt, none)
told_refuses input.Linked (Over end) rest none = (tt, none)
told_refuses (input.Says (said.Frame bytes)) (Receiving v aim) rest none = (hears_none v (said.Frame bytes) rest none, none.1)
told_refuses (input.Says said.Quiet) (Receiving v aim) rest none = (hears_none v said.Quiet rest none, none)
told_refuses (input.Says said.End) (Receiving v aim) rest none = (tt, none)
told_refuses (input.Says said.Failed) (Receiving v aim) rest none = (tt, none)
told_refuses (input.Says said.WantOfMemory) (Receiving v aim) rest none = (tt, none)
told_refuses (input.Says what) (Connecting v how) rest none = (tt, none)
told_refuses (input.Says what) (Sending v frame frames task) rest none = (tt, none)
told_refuses (input.Says what) (Printing v text) rest none = (tt, none)
told_refuses (input.Says what) (Leaving v text) rest none = (tt, none)
told_refuses (input.Says what) (PrintingLast text) rest none = (tt, none)
told_refuses (input.Says what) (Returning v how) rest none = (tt, none)
told_refuses (input.Says what) (Over end) rest none = (tt, none)

pub live_never_refused : (code kept : ℕ) (s : LiveState) (inputs : List LiveInput) (quiets : ℕ) → LiveKeeps IsNotRefused tt tt s.phase quiets → RefuseNoOther (link_steps s inputs)
    → (live_run s inputs).phase ≡ Over (ending.Refused code kept) → ⊥
live_never_refused code kept s [] quiets is none over = over_keeps IsNotRefused tt tt (ending.Refused code kept) s.phase quiets is over
live_never_refused code kept s (told ∷ more) quiets is none over =
    let first = live_step s told in
    let may = told_refuses told s.phase (map Sends first.frames ++ link_steps first.state more) none in
    live_never_refused code kept first.state more (quiets_told IsNotRefused tt tt told s.phase quiets) (step_keeps IsNotRefused tt tt s told quiets is may.0) (sends_refuse first.frames (link_steps first.state more) may.1) over

-- ---- a fault of the net

abbrev IsNoFault : ViewEnd → Type 0
IsNoFault ending.NetFault = ⊥
IsNoFault end = Unit {0}

refusal_works : (found : Option ReplicaFault) → MayRefuse IsNoFault tt tt found
refusal_works None = tt
refusal_works (Some (fault.Refused about code kept)) = tt
refusal_works (Some other) = tt

read_works : (v : Viewer) (found : Option ServerFrame) → MayRead IsNoFault tt tt v found
read_works v None = tt
read_works v (Some frame) = refusal_works (taken v.worlds v.replica frame).fault

told_works : (told : LiveInput) (phase : Phase) (more : List LiveInput) → WorkWell (told ∷ more) → MayTell IsNoFault tt tt told phase × WorkWell more
told_works input.Linked phase more work = (tt, work)
told_works input.LinkFailed phase more work = absurd work
told_works (input.Line bytes) phase more work = (tt, work)
told_works input.Closed phase more work = (tt, work)
told_works (input.Says (said.Frame bytes)) phase more work = (may_say IsNoFault tt tt (said.Frame bytes) phase (λ v. read_works v (whole server_at bytes)), work)
told_works (input.Says said.Quiet) phase more work = (may_say IsNoFault tt tt said.Quiet phase (λ v most. tt), work)
told_works (input.Says said.End) phase more work = (may_say IsNoFault tt tt said.End phase (λ v. tt), work)
told_works (input.Says said.Failed) phase more work = absurd work
told_works (input.Says said.WantOfMemory) phase more work = (may_say IsNoFault tt tt said.WantOfMemory phase (λ v. tt), work)

pub live_never_faults : (s : LiveState) (inputs : List LiveInput) (quiets : ℕ) → LiveKeeps IsNoFault tt tt s.phase quiets → WorkWell inputs → (live_run s inputs).phase ≡ Over ending.NetFault → ⊥
live_never_faults s [] quiets is work over = over_keeps IsNoFault tt tt ending.NetFault s.phase quiets is over
live_never_faults s (told ∷ more) quiets is work over =
    let first = live_step s told in
    let may = told_works told s.phase more work in
    live_never_faults first.state more (quiets_told IsNoFault tt tt told s.phase quiets) (step_keeps IsNoFault tt tt s told quiets is may.0) may.1 over

-- ---- a fault of the peer

abbrev IsNotByPeer : ViewEnd → Type 0
IsNotByPeer ending.Peer = ⊥
IsNotByPeer end = Unit {0}

fault_taken : (found : Option ReplicaFault) → IsNoPeerFault found → MayRefuse IsNotByPeer tt tt found
fault_taken None is = tt
fault_taken (Some fault.BadBase) is = is
fault_taken (Some fault.Unasked) is = is
fault_taken (Some (fault.OutOfOrder expected found)) is = is
fault_taken (Some (fault.Back time)) is = is
fault_taken (Some (fault.Refused about code kept)) is = tt
fault_taken (Some fault.Broken) is = tt
fault_taken (Some fault.WantOfMemory) is = tt

read_taken : (v : Viewer) (found : Option ServerFrame) → IsTaken v found → MayRead IsNotByPeer tt tt v found
read_taken v None is = is
read_taken v (Some frame) is = fault_taken (taken v.worlds v.replica frame).fault is

told_taken : (told : LiveInput) (phase : Phase) → IsTakenWell told phase → MayTell IsNotByPeer tt tt told phase
told_taken input.Linked phase is = tt
told_taken input.LinkFailed phase is = may_miss IsNotByPeer tt tt phase tt
told_taken (input.Line bytes) phase is = tt
told_taken input.Closed phase is = tt
told_taken (input.Says (said.Frame bytes)) (Receiving v aim) is = read_taken v (whole server_at bytes) is
told_taken (input.Says (said.Frame bytes)) (Connecting v how) is = tt
told_taken (input.Says (said.Frame bytes)) (Sending v frame frames task) is = tt
told_taken (input.Says (said.Frame bytes)) (Printing v text) is = tt
told_taken (input.Says (said.Frame bytes)) (Leaving v text) is = tt
told_taken (input.Says (said.Frame bytes)) (PrintingLast text) is = tt
told_taken (input.Says (said.Frame bytes)) (Returning v how) is = tt
told_taken (input.Says (said.Frame bytes)) (Over end) is = tt
told_taken (input.Says said.Quiet) phase is = may_say IsNotByPeer tt tt said.Quiet phase (λ v most. tt)
told_taken (input.Says said.End) phase is = may_say IsNotByPeer tt tt said.End phase (λ v. tt)
told_taken (input.Says said.Failed) phase is = may_say IsNotByPeer tt tt said.Failed phase (λ v. tt)
told_taken (input.Says said.WantOfMemory) phase is = may_say IsNotByPeer tt tt said.WantOfMemory phase (λ v. tt)

pub live_never_by_peer : (s : LiveState) (inputs : List LiveInput) (quiets : ℕ) → LiveKeeps IsNotByPeer tt tt s.phase quiets → TakesAllWell s inputs → (live_run s inputs).phase ≡ Over ending.Peer → ⊥
live_never_by_peer s [] quiets is well over = over_keeps IsNotByPeer tt tt ending.Peer s.phase quiets is over
live_never_by_peer s (told ∷ more) quiets is well over =
    let first = live_step s told in
    live_never_by_peer first.state more (quiets_told IsNotByPeer tt tt told s.phase quiets) (step_keeps IsNotByPeer tt tt s told quiets is (told_taken told s.phase well.0)) well.1 over
