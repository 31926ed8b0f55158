-- A live view whose links are answered hears no frame that it does not take, but for refusals.
use Rattle.std.proofs.Common.{◌≡◌, ℕ, Bool, true, false, List, [], ◌∷◌, ◌++◌, map, Option, Some, None, refl, sym, ap, subst, ◌∙◌, inl, inr, append_assoc, append-nil}
use Rattle.std.specs.Prelude.{nat_lt, ◌⊎◌}
use Rattle.std.specs.List.{AllByRecursion}
use Rattle.tea_base.specs.declared.entry.Entry.{Entry}
use Rattle.tea_base.specs.Legal.{IsLegal}
use Rattle.tea_io.specs.declared.link.Heard.{Heard}
use Rattle.tea_io.specs.declared.link.Heard.TheVariants as said
use Rattle.wire_frames.specs.Frames.{IsClientFrame}
use Rattle.wire_frames.specs.Spelling.{client_spelling}
use Rattle.wire_frames.specs.declared.frame.ClientFrame.{ClientFrame}
use Rattle.replica_plain.specs.Worlds.{AreWorlds}
use Rattle.run_steps.specs.Steps.{Step, Hears, Sends}
use Rattle.view_script.specs.PlainLine.{PlainLine}
use Rattle.view_shell.specs.declared.ending.ViewEnd.{ViewEnd}
use Rattle.view_shell.specs.declared.ending.ViewEnd.TheVariants as ending
use Rattle.view_shell.specs.Phases.{Viewer, Phase, Aim, Task, ToJoin, ToReach, ToSettle, ToCatchUp, ToSnap, ToSee, Connecting, Sending, Receiving, Printing, Leaving, PrintingLast, Returning, Over, after_rest, after_telling, begin_task, enter_session, has_caught_up, leave_session, run, shown_text, with_lines}
use Rattle.view_shell.specs.ViewText.{view_line}
use Rattle.live_view.specs.declared.input.LiveInput.{LiveInput}
use Rattle.live_view.specs.declared.input.LiveInput.TheVariants as input
use Rattle.live_view.specs.Lines.{LineRead, NoLine, Lines, Holds, read_line}
use Rattle.live_view.specs.Live.{LiveState, Told, done_lines, drive, drives, fits_wire, goes_on, has_room, heard_by, heard_step, hears, holds_on, if_room, line_at, line_step, lines_from, lines_kept, link_step, live_run, live_step, more_lines, one_more, phase_step, revived, sends_all, still, unlinked_by, viewer_of, votes_in, waits, wakes, wakes_by}
use Rattle.live_view.proofs.Fitting.{fits_frame, left_of, right_of}
use Rattle.view_follows.specs.Answered.{AreAnswered, new_link}
use Rattle.view_follows.specs.Links.{LinkTalk}
use Rattle.view_follows.specs.LiveAnswers.{AllCount, CountsTold}
use Rattle.view_follows.specs.LiveEnds.{link_steps, told_as}
use Rattle.view_follows.proofs.Answering.{IsAnsweredAt, IsOtherEnd, Knows, Reads, StandsFor, StandsIn, StandsTo, begin_stands, behind_step, enters, first_answered, hearing_stands, leave_stands, reads_know, run_stands, sends_to}
use Rattle.view_follows.proofs.Stands.{HasReplay, RealReplica, RealWorlds, TellsReplay}

-- ---- what was sent on a link

abbrev sent_on : LinkTalk → List (List ℕ) → LinkTalk
sent_on link [] = link
sent_on link (bytes ∷ more) = sent_on (record link { sent = link.sent ++ bytes ∷ [] }) more

-- each of these frames fits the wire, and so does what is sent then
all_fit : (frames : List ClientFrame) (t : Told) → (sends_all frames t).fit ≡ true → AllByRecursion IsClientFrame frames × (t.fit ≡ true)
all_fit [] t fits = (tt, fits)
all_fit (frame ∷ frames) t fits =
    let more = all_fit frames t (right_of (fits_wire frame) _ fits) in
    ((fits_frame frame (left_of (fits_wire frame) _ fits), more.0), more.1)

module _ (m : RealWorlds) (log : List Entry) (view : ℕ) (laws : AreWorlds m) (legal : IsLegal log) where
  sent_answered : (frames : List (List ℕ)) (link : LinkTalk) (rest : List Step) → AreAnswered m log link (map Sends frames ++ rest) → AreAnswered m log (sent_on link frames) rest
  sent_answered [] link rest answered = answered
  sent_answered (bytes ∷ more) link rest answered = sent_answered more (record link { sent = link.sent ++ bytes ∷ [] }) rest answered

  -- where a live view stands between what it is told; it may be done
  abbrev IsNoPeer : ViewEnd → Type 0
  IsNoPeer ending.Peer = ⊥
  IsNoPeer end = Unit {0}

  abbrev pub StandsLive : Phase → LinkTalk → Type 0
  StandsLive (Over end) link = IsNoPeer end
  StandsLive phase link = StandsIn m log view phase link

  other_end : (end : ViewEnd) → IsOtherEnd m log view end → IsNoPeer end
  other_end ending.Peer is = is
  other_end ending.Done is = absurd is
  other_end end is = tt

  -- and behind what it did
  abbrev Stands : Told → LinkTalk → Type 0
  Stands t link = StandsLive t.phase (sent_on link t.frames)

  all_sent : (frames : List ClientFrame) (t : Told) (link : LinkTalk) → Stands t (sent_on link (map client_spelling frames)) → Stands (sends_all frames t) link
  all_sent [] t link stands = stands
  all_sent (frame ∷ frames) t link stands = all_sent frames t (record link { sent = link.sent ++ client_spelling frame ∷ [] }) stands

  sends_list : (task : Task) (own : RealWorlds) (r : RealReplica) (frames : List ClientFrame) (link : LinkTalk) → AllByRecursion IsClientFrame frames → StandsTo m log view task own r link frames
      → StandsTo m log view task own r (sent_on link (map client_spelling frames)) []
  sends_list task own r [] link fits stands = stands
  sends_list task own r (frame ∷ frames) link fits stands =
      sends_list task own r frames (record link { sent = link.sent ++ client_spelling frame ∷ [] }) fits.1
      (sends_to m log view laws legal task own r link frame frames (client_spelling frame) refl fits.0 stands)

  -- ---- up to where it waits

  -- a line is done so, whatever the view
  abbrev GoesOn : (Viewer → Told) → Type 0
  GoesOn next = (v : Viewer) (link : LinkTalk) → (next v).fit ≡ true → Reads m log view v.worlds v.replica link [] → Stands (next v) link

  still_stands : (next : Viewer → Told) (phase : Phase) (link : LinkTalk) → GoesOn next → (still next phase).fit ≡ true → StandsIn m log view phase link → Stands (still next phase) link
  still_stands next (Connecting v how) link on fits stands = stands
  still_stands next (Sending v frame frames task) link on fits stands = stands
  still_stands next (Receiving v aim) link on fits stands = stands
  still_stands next (Printing v text) link on fits stands = on v link fits stands
  still_stands next (Leaving v text) link on fits stands = tt
  still_stands next (PrintingLast text) link on fits stands = tt
  still_stands next (Returning v how) link on fits stands = stands
  still_stands next (Over end) link on fits stands = other_end end stands

  drive_stands : (next : Viewer → Told) (phase : Phase) (link : LinkTalk) → GoesOn next → (drive next phase).fit ≡ true → StandsIn m log view phase link → Stands (drive next phase) link
  drive_stands next (Sending v frame frames task) link on fits stands =
      let w : Viewer = record v { receives = 0 } in
      let sent = sent_on link (map client_spelling (frame ∷ frames)) in
      let all = all_fit (frame ∷ frames) (still next (begin_task w task)) fits in
      all_sent (frame ∷ frames) (still next (begin_task w task)) link
      (still_stands next (begin_task w task) sent on all.1
      (begin_stands m log view w task sent (sends_list task v.worlds v.replica (frame ∷ frames) link all.0 stands)))
  drive_stands next (Connecting v how) link on fits stands = stands
  drive_stands next (Receiving v aim) link on fits stands = stands
  drive_stands next (Printing v text) link on fits stands = on v link fits stands
  drive_stands next (Leaving v text) link on fits stands = tt
  drive_stands next (PrintingLast text) link on fits stands = tt
  drive_stands next (Returning v how) link on fits stands = stands
  drive_stands next (Over end) link on fits stands = other_end end stands

  leaves : (v : Viewer) (link : LinkTalk) → Stands (done_lines true v) link
  unfolding leave_session
  leaves v link = tt

  lines_stands : (closed : Bool) (lines : List PlainLine) (v : Viewer) (link : LinkTalk) → (lines_from closed lines v).fit ≡ true → Reads m log view v.worlds v.replica link [] → Stands (lines_from closed lines v) link
  lines_stands true [] v link fits reads = leaves v link
  lines_stands false [] v link fits reads = reads
  lines_stands closed (line ∷ rest) v link fits reads =
      drive_stands (λ w. lines_from closed rest w) (run v (line ∷ rest)) link (λ w now fit is. lines_stands closed rest w now fit is) fits
      (run_stands m log view laws legal v (line ∷ rest) link reads)

  drives_stands : (closed : Bool) (phase : Phase) (link : LinkTalk) → (drives closed phase).fit ≡ true → StandsIn m log view phase link → Stands (drives closed phase) link
  drives_stands closed phase link fits stands = drive_stands (λ v. goes_on closed v) phase link (λ v now fit is. lines_stands closed v.lines v now fit is) fits stands

  -- ---- a link is there, or none was made

  abbrev told_behind : LinkTalk → LiveInput → Phase → LinkTalk
  told_behind link input.Linked (Connecting v how) = new_link
  told_behind link (input.Says what) (Receiving v aim) = behind_step m log view laws legal link (Hears what)
  told_behind link told phase = link

  linked_stands : (lost closed : Bool) (phase : Phase) (link : LinkTalk) → StandsLive phase link → (link_step closed (revived lost phase)).fit ≡ true → Stands (link_step closed (revived lost phase)) (told_behind link input.Linked phase)
  linked_stands lost closed (Connecting v how) link stands fits =
      let w : Viewer = with_lines v (lines_kept lost v.lines) in
      drives_stands closed (enter_session w how) new_link fits (enters m log view laws legal w how stands)
  linked_stands lost closed (Sending v frame frames task) link stands fits = stands
  linked_stands lost closed (Receiving v aim) link stands fits = stands
  linked_stands lost closed (Printing v text) link stands fits = stands
  linked_stands lost closed (Leaving v text) link stands fits = stands
  linked_stands lost closed (PrintingLast text) link stands fits = stands
  linked_stands lost closed (Returning v how) link stands fits = stands
  linked_stands lost closed (Over end) link stands fits = stands

  missed_stands : (held : Bool) (phase : Phase) (link : LinkTalk) → StandsLive phase link → StandsLive (unlinked_by held phase) link
  missed_stands true phase link stands = stands
  missed_stands false (Connecting v how) link stands = tt
  missed_stands false (Sending v frame frames task) link stands = stands
  missed_stands false (Receiving v aim) link stands = stands
  missed_stands false (Printing v text) link stands = stands
  missed_stands false (Leaving v text) link stands = stands
  missed_stands false (PrintingLast text) link stands = stands
  missed_stands false (Returning v how) link stands = stands
  missed_stands false (Over end) link stands = stands

  -- ---- the link says something

  knows_for : (aim : Aim) (own : RealWorlds) (r : RealReplica) (link : LinkTalk) → StandsFor m log view aim own r link [] → Knows m log view own r
  knows_for (ToJoin how) own r link stands = stands.knows
  knows_for (ToReach time) own r link stands = reads_know m log view own r link stands
  knows_for ToSettle own r link stands = reads_know m log view own r link stands
  knows_for ToCatchUp own r link stands = reads_know m log view own r link stands
  knows_for ToSnap own r link stands = reads_know m log view own r link stands
  knows_for (ToSee at) own r link stands = reads_know m log view own r link stands

  abbrev AnsweredAt : LinkTalk → Heard → Type 0
  AnsweredAt link what = IsAnsweredAt m log view laws legal link (Hears what)

  heard_stands : (held closed : Bool) (v : Viewer) (aim : Aim) (what : Heard) (link : LinkTalk) → StandsFor m log view aim v.worlds v.replica link [] → (heard_by held closed v aim what).fit ≡ true → AnsweredAt link what → CountsTold (input.Says what) (Receiving v aim)
      → Stands (heard_by held closed v aim what) (behind_step m log view laws legal link (Hears what))
  heard_stands true closed v aim what link stands fits answered counts = knows_for aim v.worlds v.replica link stands
  heard_stands false closed v aim (said.Frame bytes) link stands fits answered counts =
      drives_stands closed (hears v aim (said.Frame bytes)) (behind_step m log view laws legal link (Hears (said.Frame bytes))) fits (hearing_stands m log view laws legal v aim (said.Frame bytes) (hears v aim (said.Frame bytes)) link stands answered counts refl)
  heard_stands false closed v aim said.Quiet link stands fits answered counts =
      drives_stands closed (hears v aim said.Quiet) link fits (hearing_stands m log view laws legal v aim said.Quiet (hears v aim said.Quiet) link stands tt tt refl)
  heard_stands false closed v aim said.End link stands fits answered counts = tt
  heard_stands false closed v aim said.Failed link stands fits answered counts = tt
  heard_stands false closed v aim said.WantOfMemory link stands fits answered counts = tt

  abbrev AnsweredTold : LinkTalk → LiveInput → Phase → Type 0
  AnsweredTold link (input.Says what) (Receiving v aim) = AnsweredAt link what
  AnsweredTold link told phase = Unit {0}

  says_stands : (closed : Bool) (holds : ℕ) (phase : Phase) (what : Heard) (link : LinkTalk) → StandsLive phase link → (heard_step closed holds phase what).fit ≡ true → AnsweredTold link (input.Says what) phase → CountsTold (input.Says what) phase
      → Stands (heard_step closed holds phase what) (told_behind link (input.Says what) phase)
  says_stands closed holds (Receiving v aim) what link stands fits answered counts = heard_stands (holds_on holds v what) closed v aim what link stands fits answered counts
  says_stands closed holds (Connecting v how) what link stands fits answered counts = stands
  says_stands closed holds (Sending v frame frames task) what link stands fits answered counts = stands
  says_stands closed holds (Printing v text) what link stands fits answered counts = stands
  says_stands closed holds (Leaving v text) what link stands fits answered counts = stands
  says_stands closed holds (PrintingLast text) what link stands fits answered counts = stands
  says_stands closed holds (Returning v how) what link stands fits answered counts = stands
  says_stands closed holds (Over end) what link stands fits answered counts = stands

  -- ---- a line comes, or none will

  rested_stands : (rested closed : Bool) (v : Viewer) (link : LinkTalk) → (wakes_by rested closed (Receiving v ToCatchUp)).fit ≡ true → Reads m log view v.worlds v.replica link [] → Stands (wakes_by rested closed (Receiving v ToCatchUp)) link
  rested_stands true closed v link fits reads = lines_stands closed v.lines v link fits reads
  rested_stands false closed v link fits reads = reads

  wakes_stands : (closed : Bool) (phase : Phase) (link : LinkTalk) → StandsLive phase link → (wakes closed phase).fit ≡ true → Stands (wakes closed phase) link
  wakes_stands closed (Receiving v ToCatchUp) link stands fits = rested_stands (has_caught_up v.replica) closed v link fits stands
  wakes_stands closed (Receiving v (ToJoin how)) link stands fits = stands
  wakes_stands closed (Receiving v (ToReach time)) link stands fits = stands
  wakes_stands closed (Receiving v ToSettle) link stands fits = stands
  wakes_stands closed (Receiving v ToSnap) link stands fits = stands
  wakes_stands closed (Receiving v (ToSee at)) link stands fits = stands
  wakes_stands closed (Connecting v how) link stands fits = stands
  wakes_stands closed (Sending v frame frames task) link stands fits = stands
  wakes_stands closed (Printing v text) link stands fits = stands
  wakes_stands closed (Leaving v text) link stands fits = stands
  wakes_stands closed (PrintingLast text) link stands fits = stands
  wakes_stands closed (Returning v how) link stands fits = stands
  wakes_stands closed (Over end) link stands fits = stands

  more_stands : (phase : Phase) (more : List PlainLine) (link : LinkTalk) → StandsLive phase link → StandsLive (more_lines phase more) link
  more_stands (Connecting v how) more link stands = stands
  more_stands (Receiving v (ToJoin how)) more link stands = stands
  more_stands (Receiving v (ToReach time)) more link stands = stands
  more_stands (Receiving v ToSettle) more link stands = stands
  more_stands (Receiving v ToCatchUp) more link stands = stands
  more_stands (Receiving v ToSnap) more link stands = stands
  more_stands (Receiving v (ToSee at)) more link stands = stands
  more_stands (Sending v frame frames task) more link stands = stands
  more_stands (Printing v text) more link stands = stands
  more_stands (Leaving v text) more link stands = stands
  more_stands (PrintingLast text) more link stands = stands
  more_stands (Returning v how) more link stands = stands
  more_stands (Over end) more link stands = stands

  room_stands : (room : Bool) (number : ℕ) (phase : Phase) (more : List PlainLine) (link : LinkTalk) → StandsLive phase link → (if_room room number phase more).fit ≡ true → Stands (if_room room number phase more) link
  room_stands true number phase more link stands fits = wakes_stands false (more_lines phase more) link (more_stands phase more link stands) fits
  room_stands false number phase more link stands fits = stands

  read_stands : (number : ℕ) (found : Option Viewer) (phase : Phase) (read : LineRead) (link : LinkTalk) → StandsLive phase link → (line_at number found phase read).fit ≡ true → Stands (line_at number found phase read) link
  read_stands number None phase read link stands fits = stands
  read_stands number (Some v) phase NoLine link stands fits = stands
  read_stands number (Some v) phase (Lines more) link stands fits = room_stands (has_room (votes_in phase) v more) number phase more link stands fits
  read_stands number (Some v) phase (Holds count) link stands fits = stands

  line_stands : (closed : Bool) (number : ℕ) (phase : Phase) (read : LineRead) (link : LinkTalk) → StandsLive phase link → (line_step closed number phase read).fit ≡ true → Stands (line_step closed number phase read) link
  line_stands true number phase read link stands fits = stands
  line_stands false number phase read link stands fits = read_stands number (viewer_of phase) phase read link stands fits

  -- ---- a step

  step_stands : (s : LiveState) (told : LiveInput) (link : LinkTalk) → StandsLive s.phase link → (phase_step s told).fit ≡ true → AnsweredTold link told s.phase → CountsTold told s.phase → Stands (phase_step s told) (told_behind link told s.phase)
  step_stands s input.Linked link stands fits answered counts = linked_stands s.lost s.closed s.phase link stands fits
  step_stands s input.LinkFailed link stands fits answered counts = missed_stands (nat_lt 0 s.holds) s.phase link stands
  step_stands s (input.Says what) link stands fits answered counts = says_stands s.closed s.holds s.phase what link stands fits answered counts
  step_stands s (input.Line bytes) link stands fits answered counts = line_stands s.closed (one_more s.count) s.phase (read_line bytes) link stands fits
  step_stands s input.Closed link stands fits answered counts = wakes_stands true s.phase link stands fits

  told_answered : (link : LinkTalk) (told : LiveInput) (phase : Phase) (rest : List Step) → AreAnswered m log link (told_as told phase ++ rest) → AnsweredTold link told phase × AreAnswered m log (told_behind link told phase) rest
  told_answered link (input.Line bytes) phase rest answered = (tt, answered)
  told_answered link input.Closed phase rest answered = (tt, answered)
  told_answered link input.LinkFailed phase rest answered = (tt, answered)
  told_answered link input.Linked (Connecting v how) rest answered = (tt, answered)
  told_answered link input.Linked (Receiving v aim) rest answered = (tt, answered)
  told_answered link input.Linked (Sending v frame frames task) rest answered = (tt, answered)
  told_answered link input.Linked (Printing v text) rest answered = (tt, answered)
  told_answered link input.Linked (Leaving v text) rest answered = (tt, answered)
  told_answered link input.Linked (PrintingLast text) rest answered = (tt, answered)
  told_answered link input.Linked (Returning v how) rest answered = (tt, answered)
  told_answered link input.Linked (Over end) rest answered = (tt, answered)
  told_answered link (input.Says what) (Receiving v aim) rest answered = first_answered m log view laws legal link (Hears what) rest answered
  told_answered link (input.Says what) (Connecting v how) rest answered = (tt, answered)
  told_answered link (input.Says what) (Sending v frame frames task) rest answered = (tt, answered)
  told_answered link (input.Says what) (Printing v text) rest answered = (tt, answered)
  told_answered link (input.Says what) (Leaving v text) rest answered = (tt, answered)
  told_answered link (input.Says what) (PrintingLast text) rest answered = (tt, answered)
  told_answered link (input.Says what) (Returning v how) rest answered = (tt, answered)
  told_answered link (input.Says what) (Over end) rest answered = (tt, answered)

  by_peer : (phase : Phase) (link : LinkTalk) → StandsLive phase link → phase ≡ Over ending.Peer → ⊥
  by_peer phase link stands is = subst (λ (p : Phase). StandsLive p link) is stands

  -- a live view whose links are answered never ends by its peer
  pub live_answered : (s : LiveState) (inputs : List LiveInput) (link : LinkTalk) → StandsLive s.phase link → (live_run s inputs).fit ≡ true → AreAnswered m log link (link_steps s inputs) → AllCount s inputs → (live_run s inputs).phase ≡ Over ending.Peer → ⊥
  live_answered s [] link stands fits answered counts over = by_peer s.phase link stands over
  live_answered s (told ∷ more) link stands fits answered counts over =
      let first = live_step s told in
      let own = left_of first.fit _ fits in
      let rest = right_of first.fit _ fits in
      let behind = told_answered link told s.phase (map Sends first.frames ++ link_steps first.state more) answered in
      let now = told_behind link told s.phase in
      live_answered first.state more (sent_on now first.frames) (step_stands s told link stands own behind.0 counts.0) rest (sent_answered first.frames now (link_steps first.state more) behind.1) counts.1 over

-- ---- what a live view that is done printed last

live_end_is : (one other : ViewEnd) → Over one ≡ Over other → one ≡ other
live_end_is one other is = cc

-- a view that has ended does nothing
unlinked_over : (held : Bool) (end : ViewEnd) → unlinked_by held (Over end) ≡ Over end
unlinked_over true end = refl
unlinked_over false end = refl

line_over : (closed : Bool) (number : ℕ) (end : ViewEnd) (read : LineRead) → line_step closed number (Over end) read ≡ waits (Over end)
line_over true number end read = refl
line_over false number end read = refl

step_over : (s : LiveState) (told : LiveInput) (end : ViewEnd) → s.phase ≡ Over end → phase_step s told ≡ waits (Over end)
step_over s input.Linked end is = ap (λ (p : Phase). link_step s.closed (revived s.lost p)) is
step_over s input.LinkFailed end is = ap (λ (p : Phase). waits (unlinked_by (nat_lt 0 s.holds) p)) is ∙ ap waits (unlinked_over (nat_lt 0 s.holds) end)
step_over s (input.Says what) end is = ap (λ (p : Phase). heard_step s.closed s.holds p what) is
step_over s (input.Line bytes) end is = ap (λ (p : Phase). line_step s.closed (one_more s.count) p (read_line bytes)) is ∙ line_over s.closed (one_more s.count) end (read_line bytes)
step_over s input.Closed end is = ap (λ (p : Phase). wakes true p) is

record StaysOver (t : Told) (end : ViewEnd) : Type 0 where
  text : t.text ≡ []
  phase : t.phase ≡ Over end

over_stays : (s : LiveState) (inputs : List LiveInput) (end : ViewEnd) → s.phase ≡ Over end → StaysOver (live_run s inputs) end
over_stays s [] end is = record { text = refl; phase = is }
over_stays s (told ∷ more) end is =
    let first = live_step s told in
    let step = step_over s told end is in
    let rest = over_stays first.state more end (ap (λ (t : Told). t.phase) step) in
    record { text = ap (λ (text : List ℕ). text ++ (live_run first.state more).text) (ap (λ (t : Told). t.text) step) ∙ rest.text; phase = rest.phase }

-- a view that has not ended
abbrev IsUnended : Phase → Type 0
IsUnended (Over end) = ⊥
IsUnended phase = Unit {0}

record HasEnded (phase : Phase) : Type 0 where
  end : ViewEnd
  is : phase ≡ Over end

ended_or_not : (phase : Phase) → HasEnded phase ⊎ IsUnended phase
ended_or_not (Over end) = inl (record { end = end; is = refl })
ended_or_not phase = inr tt

module _ (m : RealWorlds) (log : List Entry) (view : ℕ) (laws : AreWorlds m) (legal : IsLegal log) where
  pub record EndsText (text : List ℕ) : Type 0 where
    pub front : List ℕ
    pub line : List ℕ
    pub is : text ≡ front ++ line
    pub tells : TellsReplay m log view line

  abbrev EndsBy : ViewEnd → List ℕ → Type 0
  EndsBy ending.Done text = EndsText text
  EndsBy end text = Unit {0}

  abbrev EndsIn : Phase → List ℕ → Type 0
  EndsIn (Over end) text = EndsBy end text
  EndsIn phase text = Unit {0}

  abbrev Ends : Told → Type 0
  Ends t = EndsIn t.phase t.text

  more_text : (text more : List ℕ) → EndsText more → EndsText (text ++ more)
  more_text text more ends = record { front = text ++ ends.front; line = ends.line; is = ap (λ (l : List ℕ). text ++ l) ends.is ∙ sym (append_assoc text ends.front ends.line); tells = ends.tells }

  more_by : (end : ViewEnd) (text more : List ℕ) → EndsBy end more → EndsBy end (text ++ more)
  more_by ending.Done text more ends = more_text text more ends
  more_by end text more ends = tt

  more_ends : (phase : Phase) (text more : List ℕ) → EndsIn phase more → EndsIn phase (text ++ more)
  more_ends (Over end) text more ends = more_by end text more ends
  more_ends phase text more ends = tt

  other_ends : (end : ViewEnd) (text : List ℕ) → IsOtherEnd m log view end → EndsBy end text
  other_ends ending.Done text is = absurd is
  other_ends end text is = tt

  left_ends : (v : Viewer) (text : List ℕ) → HasReplay m log view v.replica → EndsText (text ++ (view_line v.replica ++ []))
  left_ends v text has = record { front = text; line = view_line v.replica; is = ap (λ (l : List ℕ). text ++ l) (append-nil (view_line v.replica)); tells = record { replica = v.replica; has = has; told = refl } }

  last_ends : (text : List ℕ) → TellsReplay m log view text → EndsText (text ++ [])
  last_ends text tells = record { front = []; line = text; is = append-nil text; tells = tells }

  sent_ends : (frames : List ClientFrame) (t : Told) → Ends t → Ends (sends_all frames t)
  sent_ends [] t ends = ends
  sent_ends (frame ∷ frames) t ends = sent_ends frames t ends

  abbrev EndsOn : (Viewer → Told) → Type 0
  EndsOn next = (v : Viewer) (link : LinkTalk) → (next v).fit ≡ true → Reads m log view v.worlds v.replica link [] → Ends (next v)

  still_ends : (next : Viewer → Told) (phase : Phase) (link : LinkTalk) → EndsOn next → (still next phase).fit ≡ true → StandsIn m log view phase link → Ends (still next phase)
  still_ends next (Printing v text) link on fits stands = more_ends (next v).phase text (next v).text (on v link fits stands)
  still_ends next (Leaving v text) link on fits stands = left_ends v text stands
  still_ends next (PrintingLast text) link on fits stands = last_ends text stands
  still_ends next (Over end) link on fits stands = other_ends end [] stands
  still_ends next (Connecting v how) link on fits stands = tt
  still_ends next (Sending v frame frames task) link on fits stands = tt
  still_ends next (Receiving v aim) link on fits stands = tt
  still_ends next (Returning v how) link on fits stands = tt

  drive_ends : (next : Viewer → Told) (phase : Phase) (link : LinkTalk) → EndsOn next → (drive next phase).fit ≡ true → StandsIn m log view phase link → Ends (drive next phase)
  drive_ends next (Sending v frame frames task) link on fits stands =
      let w : Viewer = record v { receives = 0 } in
      let sent = sent_on link (map client_spelling (frame ∷ frames)) in
      let all = all_fit (frame ∷ frames) (still next (begin_task w task)) fits in
      sent_ends (frame ∷ frames) (still next (begin_task w task))
      (still_ends next (begin_task w task) sent on all.1
      (begin_stands m log view w task sent (sends_list m log view laws legal task v.worlds v.replica (frame ∷ frames) link all.0 stands)))
  drive_ends next (Printing v text) link on fits stands = more_ends (next v).phase text (next v).text (on v link fits stands)
  drive_ends next (Leaving v text) link on fits stands = left_ends v text stands
  drive_ends next (PrintingLast text) link on fits stands = last_ends text stands
  drive_ends next (Over end) link on fits stands = other_ends end [] stands
  drive_ends next (Connecting v how) link on fits stands = tt
  drive_ends next (Receiving v aim) link on fits stands = tt
  drive_ends next (Returning v how) link on fits stands = tt

  leave_ends : (v : Viewer) (link : LinkTalk) → Reads m log view v.worlds v.replica link [] → Ends (done_lines true v)
  unfolding leave_session
  leave_ends v link reads = left_ends (after_telling (after_rest v)) (shown_text (after_rest v) []) (leave_stands m log view laws legal v link reads)

  lines_ends : (closed : Bool) (lines : List PlainLine) (v : Viewer) (link : LinkTalk) → (lines_from closed lines v).fit ≡ true → Reads m log view v.worlds v.replica link [] → Ends (lines_from closed lines v)
  lines_ends true [] v link fits reads = leave_ends v link reads
  lines_ends false [] v link fits reads = tt
  lines_ends closed (line ∷ rest) v link fits reads =
      drive_ends (λ w. lines_from closed rest w) (run v (line ∷ rest)) link (λ w now fit is. lines_ends closed rest w now fit is) fits
      (run_stands m log view laws legal v (line ∷ rest) link reads)

  drives_ends : (closed : Bool) (phase : Phase) (link : LinkTalk) → (drives closed phase).fit ≡ true → StandsIn m log view phase link → Ends (drives closed phase)
  drives_ends closed phase link fits stands = drive_ends (λ v. goes_on closed v) phase link (λ v now fit is. lines_ends closed v.lines v now fit is) fits stands

  -- ---- what it is told

  abbrev LiveAt : Phase → LinkTalk → Type 0
  LiveAt phase link = StandsLive m log view laws legal phase link

  linked_ends : (lost closed : Bool) (phase : Phase) (link : LinkTalk) → IsUnended phase → LiveAt phase link → (link_step closed (revived lost phase)).fit ≡ true → Ends (link_step closed (revived lost phase))
  linked_ends lost closed (Connecting v how) link un stands fits =
      let w : Viewer = with_lines v (lines_kept lost v.lines) in
      drives_ends closed (enter_session w how) new_link fits (enters m log view laws legal w how stands)
  linked_ends lost closed (Over end) link un stands fits = absurd un
  linked_ends lost closed (Sending v frame frames task) link un stands fits = tt
  linked_ends lost closed (Receiving v aim) link un stands fits = tt
  linked_ends lost closed (Printing v text) link un stands fits = tt
  linked_ends lost closed (Leaving v text) link un stands fits = tt
  linked_ends lost closed (PrintingLast text) link un stands fits = tt
  linked_ends lost closed (Returning v how) link un stands fits = tt

  missed_ends : (held : Bool) (phase : Phase) → IsUnended phase → Ends (waits (unlinked_by held phase))
  missed_ends true (Over end) un = absurd un
  missed_ends true (Connecting v how) un = tt
  missed_ends true (Sending v frame frames task) un = tt
  missed_ends true (Receiving v aim) un = tt
  missed_ends true (Printing v text) un = tt
  missed_ends true (Leaving v text) un = tt
  missed_ends true (PrintingLast text) un = tt
  missed_ends true (Returning v how) un = tt
  missed_ends false (Over end) un = absurd un
  missed_ends false (Connecting v how) un = tt
  missed_ends false (Sending v frame frames task) un = tt
  missed_ends false (Receiving v aim) un = tt
  missed_ends false (Printing v text) un = tt
  missed_ends false (Leaving v text) un = tt
  missed_ends false (PrintingLast text) un = tt
  missed_ends false (Returning v how) un = tt

  abbrev AnsweredIn : LinkTalk → LiveInput → Phase → Type 0
  AnsweredIn link told phase = AnsweredTold m log view laws legal link told phase

  heard_ends : (held closed : Bool) (v : Viewer) (aim : Aim) (what : Heard) (link : LinkTalk) → StandsFor m log view aim v.worlds v.replica link [] → (heard_by held closed v aim what).fit ≡ true → AnsweredIn link (input.Says what) (Receiving v aim)
      → CountsTold (input.Says what) (Receiving v aim) → Ends (heard_by held closed v aim what)
  heard_ends true closed v aim what link stands fits answered counts = tt
  heard_ends false closed v aim (said.Frame bytes) link stands fits answered counts =
      drives_ends closed (hears v aim (said.Frame bytes)) (behind_step m log view laws legal link (Hears (said.Frame bytes))) fits (hearing_stands m log view laws legal v aim (said.Frame bytes) (hears v aim (said.Frame bytes)) link stands answered counts refl)
  heard_ends false closed v aim said.Quiet link stands fits answered counts =
      drives_ends closed (hears v aim said.Quiet) link fits (hearing_stands m log view laws legal v aim said.Quiet (hears v aim said.Quiet) link stands tt tt refl)
  heard_ends false closed v aim said.End link stands fits answered counts = tt
  heard_ends false closed v aim said.Failed link stands fits answered counts = tt
  heard_ends false closed v aim said.WantOfMemory link stands fits answered counts = tt

  says_ends : (closed : Bool) (holds : ℕ) (phase : Phase) (what : Heard) (link : LinkTalk) → IsUnended phase → LiveAt phase link → (heard_step closed holds phase what).fit ≡ true → AnsweredIn link (input.Says what) phase → CountsTold (input.Says what) phase
      → Ends (heard_step closed holds phase what)
  says_ends closed holds (Receiving v aim) what link un stands fits answered counts = heard_ends (holds_on holds v what) closed v aim what link stands fits answered counts
  says_ends closed holds (Over end) what link un stands fits answered counts = absurd un
  says_ends closed holds (Connecting v how) what link un stands fits answered counts = tt
  says_ends closed holds (Sending v frame frames task) what link un stands fits answered counts = tt
  says_ends closed holds (Printing v text) what link un stands fits answered counts = tt
  says_ends closed holds (Leaving v text) what link un stands fits answered counts = tt
  says_ends closed holds (PrintingLast text) what link un stands fits answered counts = tt
  says_ends closed holds (Returning v how) what link un stands fits answered counts = tt

  rested_ends : (rested closed : Bool) (v : Viewer) (link : LinkTalk) → (wakes_by rested closed (Receiving v ToCatchUp)).fit ≡ true → Reads m log view v.worlds v.replica link [] → Ends (wakes_by rested closed (Receiving v ToCatchUp))
  rested_ends true closed v link fits reads = lines_ends closed v.lines v link fits reads
  rested_ends false closed v link fits reads = tt

  wakes_ends : (closed : Bool) (phase : Phase) (link : LinkTalk) → IsUnended phase → LiveAt phase link → (wakes closed phase).fit ≡ true → Ends (wakes closed phase)
  wakes_ends closed (Receiving v ToCatchUp) link un stands fits = rested_ends (has_caught_up v.replica) closed v link fits stands
  wakes_ends closed (Receiving v (ToJoin how)) link un stands fits = tt
  wakes_ends closed (Receiving v (ToReach time)) link un stands fits = tt
  wakes_ends closed (Receiving v ToSettle) link un stands fits = tt
  wakes_ends closed (Receiving v ToSnap) link un stands fits = tt
  wakes_ends closed (Receiving v (ToSee at)) link un stands fits = tt
  wakes_ends closed (Over end) link un stands fits = absurd un
  wakes_ends closed (Connecting v how) link un stands fits = tt
  wakes_ends closed (Sending v frame frames task) link un stands fits = tt
  wakes_ends closed (Printing v text) link un stands fits = tt
  wakes_ends closed (Leaving v text) link un stands fits = tt
  wakes_ends closed (PrintingLast text) link un stands fits = tt
  wakes_ends closed (Returning v how) link un stands fits = tt

  more_unended : (phase : Phase) (more : List PlainLine) → IsUnended phase → IsUnended (more_lines phase more)
  more_unended (Over end) more un = un
  more_unended phase more un = tt

  same_ends : (phase : Phase) (text : List ℕ) → IsUnended phase → EndsIn phase text
  same_ends (Over end) text un = absurd un
  same_ends phase text un = tt

  room_ends : (room : Bool) (number : ℕ) (phase : Phase) (more : List PlainLine) (link : LinkTalk) → IsUnended phase → LiveAt phase link → (if_room room number phase more).fit ≡ true → Ends (if_room room number phase more)
  room_ends true number phase more link un stands fits =
      wakes_ends false (more_lines phase more) link (more_unended phase more un) (more_stands m log view laws legal phase more link stands) fits
  room_ends false number phase more link un stands fits = same_ends phase _ un

  read_ends : (number : ℕ) (found : Option Viewer) (phase : Phase) (read : LineRead) (link : LinkTalk) → IsUnended phase → LiveAt phase link → (line_at number found phase read).fit ≡ true → Ends (line_at number found phase read)
  read_ends number None phase read link un stands fits = same_ends phase [] un
  read_ends number (Some v) phase NoLine link un stands fits = same_ends phase _ un
  read_ends number (Some v) phase (Lines more) link un stands fits = room_ends (has_room (votes_in phase) v more) number phase more link un stands fits
  read_ends number (Some v) phase (Holds count) link un stands fits = same_ends phase [] un

  line_ends : (closed : Bool) (number : ℕ) (phase : Phase) (read : LineRead) (link : LinkTalk) → IsUnended phase → LiveAt phase link → (line_step closed number phase read).fit ≡ true → Ends (line_step closed number phase read)
  line_ends true number phase read link un stands fits = same_ends phase [] un
  line_ends false number phase read link un stands fits = read_ends number (viewer_of phase) phase read link un stands fits

  step_ends : (s : LiveState) (told : LiveInput) (link : LinkTalk) → IsUnended s.phase → LiveAt s.phase link → (phase_step s told).fit ≡ true → AnsweredIn link told s.phase → CountsTold told s.phase → Ends (phase_step s told)
  step_ends s input.Linked link un stands fits answered counts = linked_ends s.lost s.closed s.phase link un stands fits
  step_ends s input.LinkFailed link un stands fits answered counts = missed_ends (nat_lt 0 s.holds) s.phase un
  step_ends s (input.Says what) link un stands fits answered counts = says_ends s.closed s.holds s.phase what link un stands fits answered counts
  step_ends s (input.Line bytes) link un stands fits answered counts = line_ends s.closed (one_more s.count) s.phase (read_line bytes) link un stands fits
  step_ends s input.Closed link un stands fits answered counts = wakes_ends true s.phase link un stands fits

  unended_not : (phase : Phase) → IsUnended phase → phase ≡ Over ending.Done → ⊥
  unended_not phase un is = subst IsUnended is un

  ends_done : (phase : Phase) (text : List ℕ) → phase ≡ Over ending.Done → EndsIn phase text → EndsText text
  ends_done phase text is ends = subst (λ (p : Phase). EndsIn p text) is ends

  -- a live view that is done, and whose links are answered, printed the line of the replay last
  pub live_replays : (s : LiveState) (inputs : List LiveInput) (link : LinkTalk) → IsUnended s.phase → LiveAt s.phase link → (live_run s inputs).fit ≡ true → AreAnswered m log link (link_steps s inputs) → AllCount s inputs → (live_run s inputs).phase ≡ Over ending.Done
      → EndsText (live_run s inputs).text
  live_replays s [] link un stands fits answered counts over = absurd (unended_not s.phase un over)
  live_replays s (told ∷ more) link un stands fits answered counts over =
      let first = live_step s told in
      let fit = left_of first.fit _ fits in
      let fit_on = right_of first.fit _ fits in
      let behind = told_answered m log view laws legal link told s.phase (map Sends first.frames ++ link_steps first.state more) answered in
      let now = told_behind m log view laws legal link told s.phase in
      let rest = (live_run first.state more).text in
      elim (ended_or_not first.state.phase) [
        | inl ended ↦
            let stays = over_stays first.state more ended.end ended.is in
            let done = ended.is ∙ sym stays.phase ∙ over in
            let own = ends_done first.state.phase first.text done (step_ends s told link un stands fit behind.0 counts.0) in
            subst EndsText (sym (ap (λ (text : List ℕ). first.text ++ text) stays.text ∙ append-nil first.text)) own
        | inr on ↦
            more_text first.text rest
            (live_replays first.state more (sent_on now first.frames) on (step_stands m log view laws legal s told link stands fit behind.0 counts.0) fit_on
            (sent_answered m log view laws legal first.frames now (link_steps first.state more) behind.1) counts.1 over)
      ]
