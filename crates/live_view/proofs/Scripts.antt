-- A live view does what the script of its lines does.
use Rattle.std.proofs.Common.{arith, ◌≡◌, ◌≤◌, ℕ, ◌+◌, ◌==◌, inl, inr, Bool, true, false, if◌then◌else◌, List, [], ◌∷◌, ◌++◌, map, Option, Some, None, refl, sym, ap, subst, ◌∙◌, append_assoc, append-nil}
use Rattle.std.specs.Prelude.{◌&&◌, nat_le}
use Rattle.tea_io.specs.Links.{most_quiets}
use Rattle.std.proofs.lemmas.Bool.Decides.{nat_tests}
use Rattle.tea_io.specs.declared.link.Heard.{Heard}
use Rattle.tea_io.specs.declared.link.Heard.TheVariants as heard
use Rattle.wire_frames.specs.declared.frame.ClientFrame.{ClientFrame}
use Rattle.wire_frames.specs.declared.frame.ClientFrame.TheVariants as client
use Rattle.replica_plain.specs.declared.how.How.{How}
use Rattle.replica_plain.specs.declared.how.How.TheVariants.{Fresh}
use Rattle.replica_plain.specs.Calls.{unsent}
use Rattle.replica_plain.specs.PlainReplica.{published_count}
use Rattle.run_steps.specs.Steps.{Step, Prints, Connects, Returns, Hears, Sends}
use Rattle.view_script.specs.PlainLine.{PlainLine, Publish, Watch, Wait, WaitFor, Settle, Snap, Cut, Quit, Mark, Vote, Show, publish_count, most_publishes}
use Rattle.model_value.specs.Payload.{payload_spelling}
use Rattle.view_shell.specs.declared.ending.ViewEnd.TheVariants as ending
use Rattle.view_shell.specs.Phases.{Viewer, Phase, Aim, Task, ToJoin, ToReach, ToSettle, ToCatchUp, ToSnap, ToSee, Receives, Begins, TellsText, Leaves, Connecting, Sending, Receiving, Printing, Leaving, PrintingLast, Returning, Over, Hearing, Walks, after_giving, after_publish, begin_task, enter_session, has_caught_up, heard_quiet, leave_session, most_receives, receive, run, send_all, settle_on, show_world, time_after, vote_by, with_lines}
use Rattle.view_shell.specs.Viewers.{first_phase, first_viewer}
use Rattle.live_view.specs.declared.input.LiveInput.{LiveInput}
use Rattle.live_view.specs.declared.input.LiveInput.TheVariants as input
use Rattle.live_view.specs.Lines.{LineRead, NoLine, Lines, Holds, lines_in, read_line}
use Rattle.wire_frames.specs.Spelling.{client_spelling}
use Rattle.live_view.proofs.Fitting.{and_assoc, frame_fits}
use Rattle.live_view.specs.Live.{LiveState, LiveTold, Told, arrives, awaited, drive, drives, fits_wire, goes_on, has_arrived, hears, holds_by, if_room, joined_as, line_at, lines_from, live_run, live_step, more_lines, one_more, or_joined, sends_all, still, then_prints, then_sends, then_told, told_in, waits, with_more}
use Rattle.live_view.specs.Script.{ComeBeforeFrames, IsBeforeFrames, IsWaiting, LiveIsScript, inputs_of, joined_lines, printed_in, read_in, sent_in}

-- ---- the lines that are left, along a phase

-- where a text is to be printed, or frames are sent before, these lines are left
abbrev HasLines : List PlainLine → Phase → Type 0
HasLines rest (Printing v text) = v.lines ≡ rest
HasLines rest (Sending v frame frames task) = v.lines ≡ rest
HasLines rest phase = Unit {0}

if_has : (rest : List PlainLine) (b : Bool) (p q : Phase) → HasLines rest p → HasLines rest q → HasLines rest (if b then p else q)
if_has rest true p q first second = first
if_has rest false p q first second = second

settle_has : (rest : List PlainLine) (v : Viewer) (outbox : List (List ℕ)) → v.lines ≡ rest → HasLines rest (settle_on v outbox)
settle_has rest v [] is = is
settle_has rest v (payload ∷ more) is = tt

receive_has : (rest : List PlainLine) (v : Viewer) (aim : Aim) → v.lines ≡ rest → HasLines rest (receive v aim)
receive_has rest v (ToReach time) is = if_has rest (nat_le time v.replica.world.time) _ _ is tt
receive_has rest v ToSettle is = settle_has rest v v.replica.outbox is
receive_has rest v ToCatchUp is = if_has rest (has_caught_up v.replica) _ _ is tt
receive_has rest v (ToJoin how) is = tt
receive_has rest v ToSnap is = tt
receive_has rest v (ToSee at) is = tt

task_has : (rest : List PlainLine) (v : Viewer) (task : Task) → v.lines ≡ rest → HasLines rest (begin_task v task)
task_has rest v (Receives aim) is = receive_has rest v aim is
task_has rest v Begins is = is
task_has rest v (TellsText text) is = is
task_has rest v Leaves is = tt

send_has : (rest : List PlainLine) (v : Viewer) (frames : List ClientFrame) (task : Task) → v.lines ≡ rest → HasLines rest (send_all v frames task)
send_has rest v [] task is = task_has rest v task is
send_has rest v (frame ∷ frames) task is = is

leave_has : (rest : List PlainLine) (v : Viewer) → HasLines rest (leave_session v)
unfolding leave_session
leave_has rest v = tt

vote_has : (rest : List PlainLine) (has : Bool) (v : Viewer) (at : ℕ) → v.lines ≡ rest → HasLines rest (vote_by has v at)
vote_has rest true v at is = is
vote_has rest false v at is = tt

show_has : (rest : List PlainLine) (v : Viewer) → v.lines ≡ rest → HasLines rest (show_world v)
unfolding show_world
show_has rest v is = is

run_has : (rest : List PlainLine) (v : Viewer) (line : PlainLine) → HasLines rest (run v (line ∷ rest))
run_has rest v (Publish scope event value) =
    let w = after_publish (with_lines v rest) (payload_spelling (record { scope = scope; event = event; value = value })) in
    send_has rest (after_giving w) (unsent w.replica) (Receives ToCatchUp) refl
run_has rest v (Watch scope event handling) = refl
run_has rest v (Wait time) = receive_has rest (with_lines v rest) (ToReach time) refl
run_has rest v (WaitFor span) = receive_has rest (with_lines v rest) (ToReach (time_after v.replica.world.time span)) refl
run_has rest v Settle = send_has rest (after_giving (with_lines v rest)) (unsent v.replica) (Receives ToSettle) refl
run_has rest v Snap = refl
run_has rest v Cut = tt
run_has rest v Quit = leave_has rest (with_lines v rest)
run_has rest v (Mark word) = refl
run_has rest v (Vote at) = vote_has rest (nat_le at v.replica.seen) (with_lines v rest) at refl
run_has rest v Show = show_has rest (with_lines v rest) refl

-- ---- what is done once a line is told matters only for the lines that are left

module _ (rest : List PlainLine) (next other : Viewer → Told) (same : (w : Viewer) → w.lines ≡ rest → next w ≡ other w) where
  still_same : (phase : Phase) → HasLines rest phase → still next phase ≡ still other phase
  still_same (Printing v text) is = ap (then_prints text) (same v is)
  still_same (Sending v frame frames task) is = refl
  still_same (Connecting v how) is = refl
  still_same (Receiving v aim) is = refl
  still_same (Leaving v text) is = refl
  still_same (PrintingLast text) is = refl
  still_same (Returning v how) is = refl
  still_same (Over end) is = refl

  pub drive_same : (phase : Phase) → HasLines rest phase → drive next phase ≡ drive other phase
  drive_same (Sending v frame frames task) is = ap (sends_all (frame ∷ frames)) (still_same (begin_task (record v { receives = 0 }) task) (task_has rest (record v { receives = 0 }) task is))
  drive_same (Printing v text) is = ap (then_prints text) (same v is)
  drive_same (Connecting v how) is = refl
  drive_same (Receiving v aim) is = refl
  drive_same (Leaving v text) is = refl
  drive_same (PrintingLast text) is = refl
  drive_same (Returning v how) is = refl
  drive_same (Over end) is = refl

leave_drives : (next other : Viewer → Told) (v : Viewer) → drive next (leave_session v) ≡ drive other (leave_session v)
unfolding leave_session
leave_drives next other v = refl

-- these lines are left: the phase that they lead to is walked on
lines_drive : (lines : List PlainLine) (v : Viewer) → lines_from true lines v ≡ drives true (run v lines)
lines_drive [] v = leave_drives _ _ v
lines_drive (line ∷ rest) v =
    drive_same rest (λ w. lines_from true rest w) (λ w. goes_on true w) (λ w is. ap (λ l. lines_from true l w) (sym is)) (run v (line ∷ rest)) (run_has rest v line)

-- ---- a step

if_stills : (next : Viewer → Told) (b : Bool) (p q : Phase) → drive next p ≡ still next p → drive next q ≡ still next q → drive next (if b then p else q) ≡ still next (if b then p else q)
if_stills next true p q first second = first
if_stills next false p q first second = second

settle_stills : (next : Viewer → Told) (v : Viewer) (outbox : List (List ℕ)) → drive next (settle_on v outbox) ≡ still next (settle_on v outbox)
settle_stills next v [] = refl
settle_stills next v (payload ∷ more) = refl

receive_stills : (next : Viewer → Told) (v : Viewer) (aim : Aim) → drive next (receive v aim) ≡ still next (receive v aim)
receive_stills next v (ToReach time) = if_stills next (nat_le time v.replica.world.time) _ _ refl refl
receive_stills next v ToSettle = settle_stills next v v.replica.outbox
receive_stills next v ToCatchUp = if_stills next (has_caught_up v.replica) _ _ refl refl
receive_stills next v (ToJoin how) = refl
receive_stills next v ToSnap = refl
receive_stills next v (ToSee at) = refl

task_stills : (next : Viewer → Told) (v : Viewer) (task : Task) → drive next (begin_task v task) ≡ still next (begin_task v task)
task_stills next v (Receives aim) = receive_stills next v aim
task_stills next v Begins = refl
task_stills next v (TellsText text) = refl
task_stills next v Leaves = refl

pub drive_sends : (next : Viewer → Told) (v : Viewer) (frame : ClientFrame) (frames : List ClientFrame) (task : Task)
    → drive next (Sending v frame frames task) ≡ then_sends frame (drive next (send_all (record v { receives = 0 }) frames task))
drive_sends next v frame [] task = ap (then_sends frame) (sym (task_stills next (record v { receives = 0 }) task))
drive_sends next v frame (more ∷ frames) task = refl

-- ---- a walk

-- the view behind the end of its lines
abbrev state_at : ℕ → Option ℕ → Phase → LiveState
state_at count joined phase = record { phase = phase; closed = true; count = count; holds = 0; joined = joined; lost = false }

-- the entry that is awaited in a phase that a step led to
abbrev come_to : Option ℕ → Phase → Option ℕ
come_to joined phase = awaited (has_arrived phase joined) phase joined

-- walked on from a phase, and then told
abbrev live_from : ℕ → Option ℕ → Phase → List LiveInput → Told
live_from count joined phase inputs = then_told (drives true phase) (live_run (state_at count joined (drives true phase).phase) inputs)

-- what steps sent and printed, up to a phase
abbrev told_by : List Step → Phase → Told
told_by steps last = record { frames = sent_in steps; text = printed_in steps; fit = true; phase = last }

waiting_from : (count : ℕ) (joined : Option ℕ) (last : Phase) → IsWaiting last → live_from count joined last [] ≡ told_by [] last
waiting_from count joined (Connecting v how) is = refl
waiting_from count joined (Receiving v aim) is = refl
waiting_from count joined (Over end) is = refl
waiting_from count joined (Sending v frame frames task) is = absurd is
waiting_from count joined (Printing v text) is = absurd is
waiting_from count joined (Leaving v text) is = absurd is
waiting_from count joined (PrintingLast text) is = absurd is
waiting_from count joined (Returning v how) is = absurd is

-- two things that are done, and what is told then
module _ (count : ℕ) (joined : Option ℕ) (inputs : List LiveInput) where
  abbrev then_live : Told → Told
  then_live first = then_told first (live_run (state_at count joined first.phase) inputs)

  after_print : (text : List ℕ) (first : Told) → then_live (then_prints text first) ≡ then_prints text (then_live first)
  after_print text first =
      let rest = live_run (state_at count joined first.phase) inputs in
      ap (λ (t : List ℕ). record { frames = first.frames ++ rest.frames; text = t; fit = first.fit && rest.fit; phase = rest.phase }) (append_assoc text first.text rest.text)

  from_print : (text : List ℕ) (here first more : Told) → here ≡ then_prints text first → then_live first ≡ more → then_live here ≡ then_prints text more
  from_print text here first more is rest = ap then_live is ∙ after_print text first ∙ ap (then_prints text) rest

  after_sends : (frame : ClientFrame) (first : Told) → then_live (then_sends frame first) ≡ then_sends frame (then_live first)
  after_sends frame first =
      let rest = live_run (state_at count joined first.phase) inputs in
      ap (λ (b : Bool). record { frames = client_spelling frame ∷ first.frames ++ rest.frames; text = first.text ++ rest.text; fit = b; phase = rest.phase }) (and_assoc (fits_wire frame) first.fit rest.fit)

  from_send : (frame : ClientFrame) (here first more : Told) → here ≡ then_sends frame first → then_live first ≡ more → then_live here ≡ then_sends frame more
  from_send frame here first more is rest = ap then_live is ∙ after_sends frame first ∙ ap (then_sends frame) rest

hears_are : (v : Viewer) (aim : Aim) (what : Heard) (next : Phase) → Hearing v aim what next → next ≡ hears v aim what
hears_are v aim (heard.Frame bytes) next is = is
hears_are v aim heard.Quiet next is = is
hears_are v aim heard.End next is = is
hears_are v aim heard.Failed next is = absurd is
hears_are v aim heard.WantOfMemory next is = absurd is

walk_told : (count : ℕ) (joined : Option ℕ) (from last : Phase) (steps : List Step) → Walks from steps last → IsWaiting last → live_from count joined from (inputs_of steps) ≡ told_by steps last
walk_told count joined from last [] walks waiting = subst (λ (p : Phase). live_from count joined p [] ≡ told_by [] last) (sym walks) (waiting_from count joined last waiting)
walk_told count joined (Connecting v how) last (Connects address ∷ steps) (next, (at, is), walks) waiting =
    subst (λ (p : Phase). live_from count (come_to joined (drives true p).phase) p (inputs_of steps) ≡ told_by steps last) is
    (walk_told count (come_to joined (drives true next).phase) next last steps walks waiting)
walk_told count joined (Sending v frame frames task) last (Sends bytes ∷ steps) (next, (spells, fits, reads, is), walks) waiting =
    from_send count joined (inputs_of steps) frame (drives true (Sending v frame frames task)) (drives true (send_all (record v { receives = 0 }) frames task)) (told_by steps last)
    (drive_sends (λ w. goes_on true w) v frame frames task)
    (subst (λ (p : Phase). live_from count joined p (inputs_of steps) ≡ told_by steps last) is (walk_told count joined next last steps walks waiting))
    ∙ ap (λ (b : Bool). record { frames = client_spelling frame ∷ sent_in steps; text = printed_in steps; fit = b && true; phase = last }) (frame_fits frame fits)
    ∙ ap (λ (b : List ℕ). told_by (Sends b ∷ steps) last) (sym spells)
walk_told count joined (Receiving v aim) last (Hears what ∷ steps) (next, moves, walks) waiting =
    let now = or_joined (joined_as aim what) joined in
    subst (λ (p : Phase). live_from count (come_to now (drives true p).phase) p (inputs_of steps) ≡ told_by steps last) (hears_are v aim what next moves)
    (walk_told count (come_to now (drives true next).phase) next last steps walks waiting)
walk_told count joined (Printing v text) last (Prints piece ∷ steps) (next, (spells, is), walks) waiting =
    from_print count joined (inputs_of steps) text (drives true (Printing v text)) (drives true (run v v.lines)) (told_by steps last)
    (ap (then_prints text) (lines_drive v.lines v))
    (subst (λ (p : Phase). live_from count joined p (inputs_of steps) ≡ told_by steps last) is (walk_told count joined next last steps walks waiting))
    ∙ ap (λ (b : List ℕ). told_by (Prints b ∷ steps) last) (sym spells)
walk_told count joined (Leaving v text) last (Prints piece ∷ steps) (next, (spells, is), walks) waiting =
    from_print count joined (inputs_of steps) text (drives true (Leaving v text)) (drives true (Sending v client.Leave [] Leaves)) (told_by steps last) refl
    (subst (λ (p : Phase). live_from count joined p (inputs_of steps) ≡ told_by steps last) is (walk_told count joined next last steps walks waiting))
    ∙ ap (λ (b : List ℕ). told_by (Prints b ∷ steps) last) (sym spells)
walk_told count joined (PrintingLast text) last (Prints piece ∷ steps) (next, (spells, is), walks) waiting =
    from_print count joined (inputs_of steps) text (drives true (PrintingLast text)) (drives true (Over ending.Done)) (told_by steps last) refl
    (subst (λ (p : Phase). live_from count joined p (inputs_of steps) ≡ told_by steps last) is (walk_told count joined next last steps walks waiting))
    ∙ ap (λ (b : List ℕ). told_by (Prints b ∷ steps) last) (sym spells)
walk_told count joined (Returning v how) last (Returns ∷ steps) (next, is, walks) waiting =
    subst (λ (p : Phase). live_from count joined p (inputs_of steps) ≡ told_by steps last) is (walk_told count joined next last steps walks waiting)
walk_told count joined from last (step ∷ steps) (next, moves, walks) waiting = absurd moves

-- ---- the lines that come first

record Joined (read rest : Option (List PlainLine)) (script : List PlainLine) : Type 0 where
  first : List PlainLine
  more : List PlainLine
  read_as : read ≡ Some first
  rest_as : rest ≡ Some more
  both : first ++ more ≡ script

joined_of : (read rest : Option (List PlainLine)) (script : List PlainLine) → joined_lines read rest ≡ Some script → Joined read rest script
joined_of None rest script is = absurd cc
joined_of (Some first) None script is = absurd cc
joined_of (Some first) (Some more) script is = record { first = first; more = more; read_as = refl; rest_as = refl; both = cc }

pub count_both : (first more : List PlainLine) → publish_count (first ++ more) ≡ publish_count first + publish_count more
count_both [] more = omega arith
count_both (line ∷ first) more = grind (arith, count_both first more)

fits_room : (n : ℕ) → n ≤ most_publishes → nat_le n most_publishes ≡ true
fits_room n few = grind (arith, nat_tests, few)

few_with : (published queued first more all : ℕ) → published ≡ 0 → all ≡ first + more → queued + all ≤ most_publishes → published + 0 + queued + first ≤ most_publishes
few_with published queued first more all none both few = omega (arith, none, both, few)

few_then : (lines first more script : List PlainLine) → first ++ more ≡ script → publish_count lines + publish_count script ≤ most_publishes
    → publish_count (lines ++ first) + publish_count more ≤ most_publishes
few_then lines first more script both few =
    omega (arith, count_both lines first, count_both first more, ap publish_count both, few)

same_some : (x y : List PlainLine) → ◌≡◌ {A = Option (List PlainLine)} (Some x) (Some y) → x ≡ y
same_some x y e = cc

-- what came was these lines
lines_are : (read : LineRead) (lines : List PlainLine) → lines_in read ≡ Some lines → read ≡ Lines lines
lines_are NoLine lines is = absurd cc
lines_are (Lines some) lines is = ap Lines (same_some some lines is)
lines_are (Holds count) lines is = absurd cc

-- ---- a view that heard no frame yet

-- no line has ended yet, so many came
abbrev before : ℕ → Phase → LiveState
before count phase = record { phase = phase; closed = false; count = count; holds = 0; joined = None; lost = false }

-- it published nothing, and there is room for so many events
abbrev HasRoomFor : ℕ → Phase → Type 0
HasRoomFor events (Connecting v how) = (published_count v.replica ≡ 0) × (publish_count v.lines + events ≤ most_publishes)
HasRoomFor events (Receiving v (ToJoin how)) = (published_count v.replica ≡ 0) × (publish_count v.lines + events ≤ most_publishes)
HasRoomFor events (Over end) = Unit {0}
HasRoomFor events phase = ⊥

-- what a link tells it leads to this
abbrev early : Phase → LiveInput → Told
early (Connecting v how) input.Linked = drives false (enter_session v how)
early (Receiving v aim) (input.Says what) = drives false (hears v aim what)
early phase told = waits phase

-- So it is too behind the end of the lines, where more of them are left.
record Early (events : ℕ) (more : List PlainLine) (phase : Phase) (told : LiveInput) : Type 0 where
  step : (count : ℕ) → live_step (before count phase) told ≡ record { frames = (early phase told).frames; text = (early phase told).text; fit = (early phase told).fit; here = false; state = before count (early phase told).phase }
  closed : (count : ℕ) → live_step (state_at count None (more_lines phase more)) told ≡ record { frames = (early phase told).frames; text = (early phase told).text; fit = (early phase told).fit; here = false; state = state_at count None (more_lines (early phase told).phase more) }
  room : HasRoomFor events (early phase told).phase

-- a quiet link: it may have been quiet too often, and the view may say that it is alive
abbrev quiet_by : Bool → Bool → Viewer → How → Phase
quiet_by often due v how = if often then Over ending.Ended else send_all v ((if due then client.Alive ∷ [] else []) ++ []) (Receives (ToJoin how))

abbrev quiet_told : Bool → Phase → ℕ → Phase → LiveTold
quiet_told closed phase count next =
    let t = drives closed next in
    arrives t (record { phase = t.phase; closed = closed; count = count; holds = 0; joined = None; lost = false })

quiet_steps : (often due : Bool) (v : Viewer) (how : How) (count : ℕ) (phase : Phase)
    → quiet_told false phase count (quiet_by often due v how)
    ≡ record { frames = (drives false (quiet_by often due v how)).frames; text = (drives false (quiet_by often due v how)).text; fit = (drives false (quiet_by often due v how)).fit; here = false; state = before count (drives false (quiet_by often due v how)).phase }
quiet_steps true due v how count phase = refl
quiet_steps false true v how count phase = refl
quiet_steps false false v how count phase = refl

quiet_closed : (often due : Bool) (more : List PlainLine) (v : Viewer) (how : How) (count : ℕ) (phase : Phase)
    → quiet_told true phase count (quiet_by often due (with_more v more) how)
    ≡ record { frames = (drives false (quiet_by often due v how)).frames; text = (drives false (quiet_by often due v how)).text; fit = (drives false (quiet_by often due v how)).fit; here = false; state = state_at count None (more_lines (drives false (quiet_by often due v how)).phase more) }
quiet_closed true due more v how count phase = refl
quiet_closed false true more v how count phase = refl
quiet_closed false false more v how count phase = refl

quiet_room : (often due : Bool) (events : ℕ) (v : Viewer) (how : How) → HasRoomFor events (Receiving v (ToJoin how)) → HasRoomFor events (drives false (quiet_by often due v how)).phase
quiet_room true due events v how room = tt
quiet_room false true events v how room = room
quiet_room false false events v how room = room

early_is : (events : ℕ) (more : List PlainLine) (phase : Phase) (told : LiveInput) → HasRoomFor events phase → IsBeforeFrames told → Early events more phase told
early_is events more (Connecting v how) input.Linked room is = record { step = λ count. refl; closed = λ count. refl; room = room }
early_is events more (Connecting v how) (input.Says heard.Quiet) room is = record { step = λ count. refl; closed = λ count. refl; room = room }
early_is events more (Connecting v how) (input.Says heard.End) room is = record { step = λ count. refl; closed = λ count. refl; room = room }
early_is events more (Receiving v (ToJoin how)) input.Linked room is = record { step = λ count. refl; closed = λ count. refl; room = room }
early_is events more (Receiving v (ToJoin how)) (input.Says heard.Quiet) room is =
    let w = heard_quiet v in
    let often = w.quiets == most_quiets in
    let due = w.receives == most_receives in
    record {
      step = λ count. quiet_steps often due w how count (Receiving v (ToJoin how));
      closed = λ count. quiet_closed often due more w how count (Receiving v (ToJoin how));
      room = quiet_room often due events w how room;
    }
early_is events more (Receiving v (ToJoin how)) (input.Says heard.End) room is = record { step = λ count. refl; closed = λ count. refl; room = tt }
early_is events more (Over end) input.Linked room is = record { step = λ count. refl; closed = λ count. refl; room = tt }
early_is events more (Over end) (input.Says heard.Quiet) room is = record { step = λ count. refl; closed = λ count. refl; room = tt }
early_is events more (Over end) (input.Says heard.End) room is = record { step = λ count. refl; closed = λ count. refl; room = tt }
early_is events more (Receiving v (ToReach time)) told room is = absurd room
early_is events more (Receiving v ToSettle) told room is = absurd room
early_is events more (Receiving v ToCatchUp) told room is = absurd room
early_is events more (Receiving v ToSnap) told room is = absurd room
early_is events more (Receiving v (ToSee at)) told room is = absurd room
early_is events more (Sending v frame frames task) told room is = absurd room
early_is events more (Printing v text) told room is = absurd room
early_is events more (Leaving v text) told room is = absurd room
early_is events more (PrintingLast text) told room is = absurd room
early_is events more (Returning v how) told room is = absurd room
early_is events more phase told room is = absurd is

-- ---- its lines

-- what is told once a line came, and said this
abbrev said : ℕ → Viewer → Phase → LineRead → LiveTold
said count v phase read =
    let t = line_at count (Some v) phase read in
    arrives t (record { phase = t.phase; closed = false; count = count; holds = holds_by false (Some v) read 0; joined = None; lost = false })

-- and did this
abbrev line_told : ℕ → Told → LiveTold
line_told count t = arrives t (before count t.phase)

abbrev lines_more : ℕ → Phase → List PlainLine → LiveTold
lines_more count phase more = record { frames = []; text = []; fit = true; here = false; state = before count (more_lines phase more) }

line_steps : (count : ℕ) (text : List ℕ) (phase : Phase) (first more script : List PlainLine) → lines_in (read_line text) ≡ Some first → first ++ more ≡ script → HasRoomFor (publish_count script) phase
    → live_step (before count phase) (input.Line text) ≡ lines_more (one_more count) phase first
line_steps count text (Connecting v how) first more script read both (none, few) =
    let counts = few_with (published_count v.replica) (publish_count v.lines) (publish_count first) (publish_count more) (publish_count script) none (sym (ap publish_count both) ∙ count_both first more) few in
    ap (said (one_more count) v (Connecting v how)) (lines_are (read_line text) first read) ∙ ap (λ (b : Bool). line_told (one_more count) (if_room b (one_more count) (Connecting v how) first)) (fits_room _ counts)
line_steps count text (Receiving v (ToJoin how)) first more script read both (none, few) =
    let counts = few_with (published_count v.replica) (publish_count v.lines) (publish_count first) (publish_count more) (publish_count script) none (sym (ap publish_count both) ∙ count_both first more) few in
    ap (said (one_more count) v (Receiving v (ToJoin how))) (lines_are (read_line text) first read) ∙ ap (λ (b : Bool). line_told (one_more count) (if_room b (one_more count) (Receiving v (ToJoin how)) first)) (fits_room _ counts)
line_steps count text (Over end) first more script read both room = refl
line_steps count text (Receiving v (ToReach time)) first more script read both room = absurd room
line_steps count text (Receiving v ToSettle) first more script read both room = absurd room
line_steps count text (Receiving v ToCatchUp) first more script read both room = absurd room
line_steps count text (Receiving v ToSnap) first more script read both room = absurd room
line_steps count text (Receiving v (ToSee at)) first more script read both room = absurd room
line_steps count text (Sending v frame frames task) first more script read both room = absurd room
line_steps count text (Printing v piece) first more script read both room = absurd room
line_steps count text (Leaving v piece) first more script read both room = absurd room
line_steps count text (PrintingLast piece) first more script read both room = absurd room
line_steps count text (Returning v how) first more script read both room = absurd room

-- room for the lines that are still to come
room_then : (phase : Phase) (first more script : List PlainLine) → first ++ more ≡ script → HasRoomFor (publish_count script) phase → HasRoomFor (publish_count more) (more_lines phase first)
room_then (Connecting v how) first more script both (none, few) = (none, few_then v.lines first more script both few)
room_then (Receiving v (ToJoin how)) first more script both (none, few) = (none, few_then v.lines first more script both few)
room_then (Over end) first more script both room = tt
room_then (Receiving v (ToReach time)) first more script both room = absurd room
room_then (Receiving v ToSettle) first more script both room = absurd room
room_then (Receiving v ToCatchUp) first more script both room = absurd room
room_then (Receiving v ToSnap) first more script both room = absurd room
room_then (Receiving v (ToSee at)) first more script both room = absurd room
room_then (Sending v frame frames task) first more script both room = absurd room
room_then (Printing v piece) first more script both room = absurd room
room_then (Leaving v piece) first more script both room = absurd room
room_then (PrintingLast piece) first more script both room = absurd room
room_then (Returning v how) first more script both room = absurd room

-- lines come, and then more
more_again : (phase : Phase) (first more script : List PlainLine) → first ++ more ≡ script → more_lines (more_lines phase first) more ≡ more_lines phase script
more_again (Connecting v how) first more script both = ap (λ (l : List PlainLine). Connecting (with_lines v l) how) (append_assoc v.lines first more ∙ ap (λ (l : List PlainLine). v.lines ++ l) both)
more_again (Receiving v aim) first more script both = ap (λ (l : List PlainLine). Receiving (with_lines v l) aim) (append_assoc v.lines first more ∙ ap (λ (l : List PlainLine). v.lines ++ l) both)
more_again (Over end) first more script both = refl
more_again (Sending v frame frames task) first more script both = refl
more_again (Printing v piece) first more script both = refl
more_again (Leaving v piece) first more script both = refl
more_again (PrintingLast piece) first more script both = refl
more_again (Returning v how) first more script both = refl

-- no line more comes
none_more : (phase : Phase) → phase ≡ more_lines phase []
none_more (Connecting v how) = ap (λ (l : List PlainLine). Connecting (with_lines v l) how) (sym (append-nil v.lines))
none_more (Receiving v aim) = ap (λ (l : List PlainLine). Receiving (with_lines v l) aim) (sym (append-nil v.lines))
none_more (Over end) = refl
none_more (Sending v frame frames task) = refl
none_more (Printing v piece) = refl
none_more (Leaving v piece) = refl
none_more (PrintingLast piece) = refl
none_more (Returning v how) = refl

-- the end of the lines cuts nothing short
closed_steps : (count events : ℕ) (phase : Phase) → HasRoomFor events phase → live_step (before count phase) input.Closed ≡ record { frames = []; text = []; fit = true; here = false; state = state_at count None phase }
closed_steps count events (Connecting v how) room = refl
closed_steps count events (Receiving v (ToJoin how)) room = refl
closed_steps count events (Over end) room = refl
closed_steps count events (Receiving v (ToReach time)) room = absurd room
closed_steps count events (Receiving v ToSettle) room = absurd room
closed_steps count events (Receiving v ToCatchUp) room = absurd room
closed_steps count events (Receiving v ToSnap) room = absurd room
closed_steps count events (Receiving v (ToSee at)) room = absurd room
closed_steps count events (Sending v frame frames task) room = absurd room
closed_steps count events (Printing v piece) room = absurd room
closed_steps count events (Leaving v piece) room = absurd room
closed_steps count events (PrintingLast piece) room = absurd room
closed_steps count events (Returning v how) room = absurd room

abbrev counted : ℕ → List (List ℕ) → ℕ
counted count [] = count
counted count (text ∷ texts) = counted (one_more count) texts

-- what is told first, and then the rest
abbrev run_on : LiveTold → List LiveInput → Told
run_on first inputs = then_told (told_in first) (live_run first.state inputs)

-- the lines that are to come, and their end
abbrev to_come : List (List ℕ) → List LiveInput
to_come texts = map input.Line texts ++ input.Closed ∷ []

-- told what a link tells before its frames
link_first : (count after : ℕ) (phase : Phase) (script : List PlainLine) (told : LiveInput) (inputs rest : List LiveInput) → Early (publish_count script) script phase told
    → live_run (before count (early phase told).phase) inputs ≡ live_run (state_at after None (more_lines (early phase told).phase script)) rest
    → live_run (before count phase) (told ∷ inputs) ≡ live_run (state_at after None (more_lines phase script)) (told ∷ rest)
link_first count after phase script told inputs rest e on =
    ap (λ (first : LiveTold). run_on first inputs) (e.step count) ∙ ap (then_told (early phase told)) on ∙ ap (λ (first : LiveTold). run_on first rest) (sym (e.closed after))

-- told a line
line_first : (count after : ℕ) (text : List ℕ) (phase : Phase) (script : List PlainLine) (told : LiveInput) (inputs links : List LiveInput) (rest : Option (List PlainLine)) (j : Joined (lines_in (read_line text)) rest script)
    → HasRoomFor (publish_count script) phase → told ≡ input.Line text
    → live_run (before (one_more count) (more_lines phase j.first)) inputs ≡ live_run (state_at after None (more_lines (more_lines phase j.first) j.more)) links
    → live_run (before count phase) (told ∷ inputs) ≡ live_run (state_at after None (more_lines phase script)) links
line_first count after text phase script told inputs links rest j room is on =
    ap (λ (i : LiveInput). live_run (before count phase) (i ∷ inputs)) is
    ∙ ap (λ (first : LiveTold). run_on first inputs) (line_steps count text phase j.first j.more script j.read_as j.both room)
    ∙ on ∙ ap (λ (p : Phase). live_run (state_at after None p) links) (more_again phase j.first j.more script j.both)

-- told that no line will come
end_first : (count : ℕ) (phase : Phase) (script : List PlainLine) (told : LiveInput) (inputs links : List LiveInput) → HasRoomFor (publish_count script) phase → told ≡ input.Closed → inputs ≡ links → read_in [] ≡ Some script
    → live_run (before count phase) (told ∷ inputs) ≡ live_run (state_at count None (more_lines phase script)) links
end_first count phase script told inputs links room is same read =
    ap (λ (i : LiveInput). live_run (before count phase) (i ∷ inputs)) is
    ∙ ap (λ (first : LiveTold). run_on first inputs) (closed_steps count (publish_count script) phase room)
    ∙ ap (λ (more : List LiveInput). live_run (state_at count None phase) more) same
    ∙ ap (λ (p : Phase). live_run (state_at count None p) links) (none_more phase)
    ∙ ap (λ (l : List PlainLine). live_run (state_at count None (more_lines phase l)) links) (same_some [] script read)

lines_before : (count : ℕ) (texts : List (List ℕ)) (phase : Phase) (script : List PlainLine) (links inputs : List LiveInput)
    → read_in texts ≡ Some script → HasRoomFor (publish_count script) phase → ComeBeforeFrames (to_come texts) links inputs
    → live_run (before count phase) inputs ≡ live_run (state_at (counted count texts) None (more_lines phase script)) links
lines_before count [] phase script links [] read room meets = absurd meets
lines_before count [] phase script links (told ∷ inputs) read room (inl (is, meets)) = end_first count phase script told inputs links room is meets read
lines_before count [] phase script links (told ∷ inputs) read room (inr (rest, is, early_told, meets)) =
    let e = early_is (publish_count script) script phase told room early_told in
    link_first count count phase script told inputs rest e (lines_before count [] (early phase told).phase script rest inputs read e.room meets)
    ∙ ap (live_run (state_at count None (more_lines phase script))) (sym is)
lines_before count (text ∷ texts) phase script links [] read room meets = absurd meets
lines_before count (text ∷ texts) phase script links (told ∷ inputs) read room (inl (is, meets)) =
    let j = joined_of (lines_in (read_line text)) (read_in texts) script read in
    line_first count (counted (one_more count) texts) text phase script told inputs links (read_in texts) j room is
    (lines_before (one_more count) texts (more_lines phase j.first) j.more links inputs j.rest_as (room_then phase j.first j.more script j.both room) meets)
lines_before count (text ∷ texts) phase script links (told ∷ inputs) read room (inr (rest, is, early_told, meets)) =
    let e = early_is (publish_count script) script phase told room early_told in
    link_first count (counted count (text ∷ texts)) phase script told inputs rest e (lines_before count (text ∷ texts) (early phase told).phase script rest inputs read e.room meets)
    ∙ ap (live_run (state_at (counted count (text ∷ texts)) None (more_lines phase script))) (sym is)

-- ---- the law

pub live_is_script : LiveIsScript
live_is_script founding id view address texts script steps last inputs read few walks waiting meets =
    let v = first_viewer founding id view address [] in
    lines_before 0 texts (Connecting v Fresh) script (inputs_of steps) inputs read (refl, omega (arith, few)) meets
    ∙ walk_told (counted 0 texts) None (first_phase founding id view address script) last steps walks waiting
