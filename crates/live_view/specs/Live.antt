-- What a live view does at each thing that it is told: the phases of a script, walked up to where the view waits.
use Rattle.std.specs.Prelude.{ℕ, ◌+◌, ◌-◌, ◌^◌, ◌==◌, min, nat_le, nat_lt, Bool, true, false, ◌&&◌, List, [], ◌∷◌, ◌++◌, length, Option, Some, None, codes}
use Rattle.byte_fields.specs.Fields.{whole}
use Rattle.tea_base.specs.Limits.{time_limit}
use Rattle.tea_io.specs.Links.{most_quiets}
use Rattle.tea_io.specs.declared.link.Heard.{Heard}
use Rattle.tea_io.specs.declared.link.Heard.TheVariants as heard
use Rattle.wire_frames.specs.Reading.{server_at}
use Rattle.wire_frames.specs.declared.start.Want.{Want}
use Rattle.wire_frames.specs.declared.start.Want.TheVariants as wants
use Rattle.wire_frames.specs.Spelling.{client_spelling}
use Rattle.wire_frames.specs.declared.frame.ClientFrame.{ClientFrame}
use Rattle.wire_frames.specs.declared.frame.ClientFrame.TheVariants as client
use Rattle.wire_frames.specs.declared.frame.ServerFrame.{ServerFrame}
use Rattle.wire_frames.specs.declared.frame.ServerFrame.TheVariants as server
use Rattle.replica_plain.specs.declared.how.How.{How}
use Rattle.replica_plain.specs.declared.how.How.TheVariants.{Resume}
use Rattle.replica_plain.specs.PlainReplica.{published_count}
use Rattle.view_script.specs.PlainLine.{PlainLine, Wait, Settle, Snap, Vote, publish_count, most_publishes}
use Rattle.view_shell.specs.declared.ending.ViewEnd.TheVariants as ending
use Rattle.view_shell.specs.Phases.{Viewer, Phase, Aim, ToJoin, ToReach, ToSettle, ToCatchUp, ToSnap, ToSee, Connecting, Sending, Receiving, Printing, Leaving, PrintingLast, Returning, Over, begin_task, enter_session, has_caught_up, heard_frame, heard_quiet, leave_session, quiet, reads, run, with_lines}
use Rattle.view_shell.specs.ViewText.{numbers_line, view_line}
use Rattle.live_view.specs.declared.input.LiveInput.{LiveInput}
use Rattle.live_view.specs.declared.input.LiveInput.TheVariants as input
use Rattle.live_view.specs.declared.outcome.LiveWant.{LiveWant}
use Rattle.live_view.specs.declared.outcome.LiveWant.TheVariants as want
use Rattle.live_view.specs.Lines.{LineRead, NoLine, Lines, Holds, read_line}

-- ---- frames that fit the wire

-- bytes that their length of 32 bits counts
abbrev pub is_short : List ℕ → Bool
is_short bytes = nat_lt (length bytes) (2 ^ 32)

abbrev pub fits_want : Want → Bool
fits_want wants.Fresh = true
fits_want wants.Whole = true
fits_want (wants.After time) = nat_lt time time_limit

-- each number and each length of a frame is within its field
abbrev pub fits_wire : ClientFrame → Bool
fits_wire (client.Join session view want) = fits_want want && ((length session.0 == 32) && nat_lt view (2 ^ 32))
fits_wire (client.Send number payload) = is_short payload && nat_lt number (2 ^ 32)
fits_wire (client.Snap time bytes) = nat_lt time time_limit && is_short bytes
fits_wire client.Leave = true
fits_wire client.Alive = true

-- ---- what is done

-- the frames that are sent and the text that is printed, whether each of the frames fits the wire, and the phase in which the view waits then
pub record Told : Type 0 where
  pub frames : List (List ℕ)
  pub text : List ℕ
  pub fit : Bool
  pub phase : Phase

abbrev pub waits : Phase → Told
waits p = record { frames = []; text = []; fit = true; phase = p }

abbrev pub then_sends : ClientFrame → Told → Told
then_sends frame t = record {
  frames = client_spelling frame ∷ t.frames;
  text = t.text;
  fit = fits_wire frame && t.fit;
  phase = t.phase;
}

abbrev pub then_prints : List ℕ → Told → Told
then_prints text t = record { frames = t.frames; text = text ++ t.text; fit = t.fit; phase = t.phase }

abbrev pub sends_all : List ClientFrame → Told → Told
sends_all [] t = t
sends_all (frame ∷ frames) t = then_sends frame (sends_all frames t)

-- ---- up to where it waits

-- from a phase that sends nothing; `next` is what is done once a line is told
abbrev pub still : (Viewer → Told) → Phase → Told
still next (Printing v text) = then_prints text (next v)
still next (PrintingLast text) = then_prints text (waits (Over ending.Done))
still next (Leaving v text) =
    then_prints text (then_sends client.Leave (then_prints (view_line v.replica) (waits (Over ending.Done))))
still next (Returning v how) = waits (Connecting v how)
still next phase = waits phase

-- from any phase
abbrev pub drive : (Viewer → Told) → Phase → Told
drive next (Sending v frame frames task) =
    sends_all (frame ∷ frames) (still next (begin_task (record v { receives = 0 }) task))
drive next phase = still next phase

-- No line is left: the view leaves if none will come. Else it rests: it hears its link as it does behind a line that publishes, and what
-- its models publish is told with each frame.
abbrev pub done_lines : Bool → Viewer → Told
done_lines true v = drive (λ w. waits (Over ending.Done)) (leave_session v)
done_lines false v = waits (Receiving v ToCatchUp)

-- these lines are done, up to where one waits
abbrev pub lines_from : Bool → List PlainLine → Viewer → Told
lines_from closed [] v = done_lines closed v
lines_from closed (line ∷ rest) v = drive (λ w. lines_from closed rest w) (run v (line ∷ rest))

abbrev pub goes_on : Bool → Viewer → Told
goes_on closed v = lines_from closed v.lines v

abbrev pub drives : Bool → Phase → Told
drives closed phase = drive (λ v. goes_on closed v) phase

-- ---- the phases behind what it is told

-- a link is there
abbrev pub link_step : Bool → Phase → Told
link_step closed (Connecting v how) = drives closed (enter_session v how)
link_step closed phase = waits phase

-- the link said this
abbrev pub hears : Viewer → Aim → Heard → Phase
hears v aim (heard.Frame bytes) = reads (heard_frame v) aim (whole server_at bytes)
hears v aim heard.Quiet = quiet (heard_quiet v) aim
hears v aim heard.End = Over ending.Ended
hears v aim heard.Failed = Over ending.NetFault
hears v aim heard.WantOfMemory = Over ending.WantOfMemory

-- the link is gone: it said so, a call of it failed, or it was quiet too often in a row
abbrev pub link_ends : Viewer → Heard → Bool
link_ends v (heard.Frame bytes) = false
link_ends v heard.Quiet = v.quiets + 1 == most_quiets
link_ends v heard.End = true
link_ends v heard.Failed = true
link_ends v heard.WantOfMemory = false

-- how a view joins on the next link, where it heard one that is gone for this
abbrev pub join_behind : Aim → How
join_behind (ToJoin how) = how
join_behind aim = Resume

-- The line that was at work is done anew there. A wait is for the same time, or for the last one that there is.
abbrev pub line_again : Aim → List PlainLine
line_again (ToReach time) = Wait (min time (time_limit - 1)) ∷ []
line_again ToSettle = Settle ∷ []
line_again ToSnap = Snap ∷ []
line_again (ToSee at) = Vote at ∷ []
line_again aim = []

abbrev pub held_on : Viewer → Aim → Phase
held_on v aim = Connecting (with_lines v (line_again aim ++ v.lines)) (join_behind aim)

-- a view that holds on wants another link in place of one that is gone
abbrev pub holds_on : ℕ → Viewer → Heard → Bool
holds_on holds v what = nat_lt 0 holds && link_ends v what

abbrev pub heard_by : Bool → Bool → Viewer → Aim → Heard → Told
heard_by true closed v aim what = waits (held_on v aim)
heard_by false closed v aim what = drives closed (hears v aim what)

abbrev pub heard_step : Bool → ℕ → Phase → Heard → Told
heard_step closed holds (Receiving v aim) what = heard_by (holds_on holds v what) closed v aim what
heard_step closed holds phase what = waits phase

-- no link was made: the view ends, unless it holds on
abbrev pub unlinked_by : Bool → Phase → Phase
unlinked_by false (Connecting v how) = Over ending.NetFault
unlinked_by held phase = phase

-- more lines are behind those that are left
abbrev pub with_more : Viewer → List PlainLine → Viewer
with_more v more = with_lines v (v.lines ++ more)

abbrev pub more_lines : Phase → List PlainLine → Phase
more_lines (Connecting v how) more = Connecting (with_more v more) how
more_lines (Receiving v aim) more = Receiving (with_more v more) aim
more_lines phase more = phase

-- the view rests: no line is at work
abbrev pub rests : Phase → Bool
rests (Receiving v ToCatchUp) = has_caught_up v.replica
rests phase = false

-- a view at rest does the lines that are left, or leaves
abbrev pub wakes_by : Bool → Bool → Phase → Told
wakes_by true closed (Receiving v aim) = goes_on closed v
wakes_by rested closed phase = waits phase

abbrev pub wakes : Bool → Phase → Told
wakes closed phase = wakes_by (rests phase) closed phase

-- the view in a phase in which it waits, but for the end
abbrev pub viewer_of : Phase → Option Viewer
viewer_of (Connecting v how) = Some v
viewer_of (Receiving v aim) = Some v
viewer_of phase = None

-- the view has ended
abbrev pub is_over : Phase → Bool
is_over (Over end) = true
is_over phase = false

-- so many votes are at work
abbrev pub votes_in : Phase → ℕ
votes_in (Receiving v (ToSee at)) = 1
votes_in phase = 0

-- with these lines, and the votes that are at work, no more events are published than a view may publish
abbrev pub has_room : ℕ → Viewer → List PlainLine → Bool
has_room votes v more = nat_le (published_count v.replica + votes + publish_count v.lines
    + publish_count more) most_publishes

-- the line of this number is none
abbrev pub bad_line : ℕ → Phase → Told
bad_line number phase = record {
  frames = [];
  text = numbers_line (codes "bad-line") (number ∷ []);
  fit = true;
  phase = phase;
}

abbrev pub if_room : Bool → ℕ → Phase → List PlainLine → Told
if_room true number phase more = wakes false (more_lines phase more)
if_room false number phase more = bad_line number phase

-- A line that is none, or that publishes one event too many, does nothing and says so.
abbrev pub line_at : ℕ → Option Viewer → Phase → LineRead → Told
line_at number None phase read = waits phase
line_at number (Some v) phase NoLine = bad_line number phase
line_at number (Some v) phase (Lines more) = if_room (has_room (votes_in phase) v more) number phase more
line_at number (Some v) phase (Holds holds) = waits phase

-- A line that comes behind the end does nothing.
abbrev pub line_step : Bool → ℕ → Phase → LineRead → Told
line_step true number phase read = waits phase
line_step false number phase read = line_at number (viewer_of phase) phase read

-- ---- a live view

-- A view between two things that it is told. phase: where it stands among the phases of a script. closed: no line will come.
-- count: how many lines came. holds: how many links it makes again. joined: the entry by which it joined, while its replica has not
-- come to it. lost: memory was wanted since a link was there.
pub record LiveState : Type 0 where
  pub phase : Phase
  pub closed : Bool
  pub count : ℕ
  pub holds : ℕ
  pub joined : Option ℕ
  pub lost : Bool

-- one line more came; the last number of 64 bits stays
abbrev pub one_more : ℕ → ℕ
one_more count = min (count + 1) (2 ^ 64 - 1)

abbrev pub counts : ℕ → LiveInput → ℕ
counts count (input.Line bytes) = one_more count
counts count other = count

abbrev pub closes : Bool → LiveInput → Bool
closes closed input.Closed = true
closes closed other = closed

-- the lines of a view whose memory ran out, or did not
abbrev pub lines_kept : Bool → List PlainLine → List PlainLine
lines_kept true lines = Settle ∷ []
lines_kept false lines = lines

-- A view whose memory ran out joins for a world made anew, sends what is not acknowledged once more, and says how many events are. The lines
-- that were left are gone.
abbrev pub revived : Bool → Phase → Phase
revived lost (Connecting v how) = Connecting (with_lines v (lines_kept lost v.lines)) how
revived lost phase = phase

-- one row for each thing
abbrev pub phase_step : LiveState → LiveInput → Told
phase_step s input.Linked = link_step s.closed (revived s.lost s.phase)
phase_step s input.LinkFailed = waits (unlinked_by (nat_lt 0 s.holds) s.phase)
phase_step s (input.Says what) = heard_step s.closed s.holds s.phase what
phase_step s (input.Line bytes) = line_step s.closed (one_more s.count) s.phase (read_line bytes)
phase_step s input.Closed = wakes true s.phase

-- ---- the links that it makes again

-- another link is wanted in place of one that is gone, or that was not made
abbrev pub is_held : ℕ → Phase → LiveInput → Bool
is_held holds (Receiving v aim) (input.Says what) = holds_on holds v what
is_held holds (Connecting v how) input.LinkFailed = nat_lt 0 holds
is_held holds phase told = false

abbrev pub one_fewer : Bool → ℕ → ℕ
one_fewer true holds = holds - 1
one_fewer false holds = holds

-- behind a line that says how many
abbrev pub holds_by : Bool → Option Viewer → LineRead → ℕ → ℕ
holds_by false (Some v) (Holds count) holds = count
holds_by closed v read holds = holds

abbrev pub holds_after : LiveState → LiveInput → ℕ
holds_after s (input.Line bytes) = holds_by s.closed (viewer_of s.phase) (read_line bytes) s.holds
holds_after s told = one_fewer (is_held s.holds s.phase told) s.holds

-- ---- the past

-- the entry by which a view joined, where a frame says it
abbrev pub synced_by : Option ServerFrame → Option ℕ
synced_by (Some (server.Sync joined last from base)) = Some joined
synced_by frame = None

-- that of a view that hears its link for it
abbrev pub joined_for : Aim → Option ℕ → Option ℕ
joined_for (ToJoin how) joined = joined
joined_for aim joined = None

abbrev pub joined_as : Aim → Heard → Option ℕ
joined_as aim (heard.Frame bytes) = joined_for aim (synced_by (whole server_at bytes))
joined_as aim what = None

abbrev pub or_joined : Option ℕ → Option ℕ → Option ℕ
or_joined None old = old
or_joined (Some joined) old = Some joined

abbrev pub joined_in : LiveInput → Phase → Option ℕ → Option ℕ
joined_in (input.Says what) (Receiving v aim) old = or_joined (joined_as aim what) old
joined_in told phase old = old

-- the view has come to the entry by which it joined: what its models published before is the past
abbrev pub has_arrived : Phase → Option ℕ → Bool
has_arrived (Receiving v aim) (Some joined) = nat_le joined v.replica.seen
has_arrived phase joined = false

-- the entry is not awaited any more where the view has come to it, or hears no link
abbrev pub awaited : Bool → Phase → Option ℕ → Option ℕ
awaited false (Receiving v aim) joined = joined
awaited arrived phase joined = None

-- ---- a step

-- the frames that are sent, the text that is printed, whether each of the frames fits the wire, and whether `here` is printed after the text
pub record LiveTold : Type 0 where
  pub frames : List (List ℕ)
  pub text : List ℕ
  pub fit : Bool
  pub here : Bool
  pub state : LiveState

abbrev pub arrives : Told → LiveState → LiveTold
arrives t s =
    let arrived = has_arrived s.phase s.joined in
    record {
      frames = t.frames;
      text = t.text;
      fit = t.fit;
      here = arrived;
      state = record s { joined = awaited arrived s.phase s.joined };
    }

abbrev pub live_step : LiveState → LiveInput → LiveTold
live_step s told =
    let t = phase_step s told in
    arrives t (record {
      phase = t.phase;
      closed = closes s.closed told;
      count = counts s.count told;
      holds = holds_after s told;
      joined = joined_in told s.phase s.joined;
      lost = false;
    })

-- what a live view wants next
abbrev pub wanted : Phase → LiveWant
wanted (Connecting v how) = want.Link
wanted (Over end) = want.Over end
wanted phase = want.Input

-- ---- all that it is told

abbrev pub then_told : Told → Told → Told
then_told first more = record {
  frames = first.frames ++ more.frames;
  text = first.text ++ more.text;
  fit = first.fit && more.fit;
  phase = more.phase;
}

abbrev pub told_in : LiveTold → Told
told_in t = record { frames = t.frames; text = t.text; fit = t.fit; phase = t.state.phase }

abbrev pub live_run : LiveState → List LiveInput → Told
live_run s [] = waits s.phase
live_run s (told ∷ more) =
    let first = live_step s told in
    then_told (told_in first) (live_run first.state more)
