-- What contracts see of a live view.
use Rattle.std.specs.Prelude.{◌≡◌, ◌≤◌, ℕ, ◌+◌, true, drop, length, List, [], Some, None, string_bytes}
use Rattle.std.specs.List.{AllByRecursion}
use Rattle.replica_plain.specs.declared.how.How.TheVariants.{Fresh}
use Rattle.view_script.specs.PlainLine.{LineFits, PlainLine, most_publishes, plain_lines, publish_count}
use Rattle.view_shell.specs.Viewers.{KnowsItself, viewer}
use Rattle.live_view.specs.declared.input.LiveInput.{LiveInput}
use Rattle.live_view.specs.declared.input.Place.TheVariants as at
use Rattle.live_view.specs.declared.outcome.LiveOutcome.{LiveOutcome}
use Rattle.live_view.specs.declared.machine.LiveView.{LiveView}
use Rattle.live_view.specs.declared.queue.Queue.{Queue}
use Rattle.live_view.specs.Doing.{IsReadyAt, phase_at, votes_at}
use Rattle.live_view.specs.Live.{LiveState, LiveTold, closes, counts}

-- the lines that are left
abbrev pub queue_left : Queue → List PlainLine
queue_left queue = plain_lines (drop queue.begun queue.lines.items)

abbrev pub left : LiveView → List PlainLine
left view = queue_left view.queue

-- the view as the rows of a step name it; the address of its session's reflector is the caller's
abbrev pub live_state : List ℕ → LiveView → LiveState
live_state address view =
    record {
      phase = phase_at view.place (viewer address view.watcher (left view));
      closed = view.closed;
      count = view.count;
      holds = view.holds;
      joined = view.joined;
      lost = view.lost;
    }

-- the lines that are left are those of a script, the queue knows how many of them publish, and there is room for that
pub record HasLines (published : ℕ) (queue : Queue) : Type 0 where
  pub within : queue.begun ≤ length queue.lines.items
  pub fit : AllByRecursion LineFits (queue_left queue)
  pub counted : queue.publishes ≡ publish_count (queue_left queue)
  pub room : published + publish_count (queue_left queue) ≤ most_publishes

-- What is so of every live view: it knows itself, may hear its link where it does, does lines of a script alone, and publishes no more
-- events than a view may, with the vote that is at work. One whose memory ran out wants a link, and has no lines.
pub record IsLive (view : LiveView) : Type 0 where
  pub knows : KnowsItself view.watcher
  pub ready : IsReadyAt (Some view.place) view.watcher
  pub lines : HasLines (view.watcher.published + votes_at (Some view.place)) view.queue
  pub lost : view.lost ≡ true → view.place ≡ at.Unlinked Fresh
  pub empty : view.lost ≡ true → left view ≡ []

-- what a step told: each frame fits the wire
abbrev pub told_by : List ℕ → LiveOutcome → LiveView → LiveTold
told_by address out view = record {
  frames = out.frames;
  text = string_bytes out.text;
  fit = true;
  here = out.here;
  state = live_state address view;
}

-- memory was wanted: the view wants a link, on which it joins for a world made anew
pub record IsLost (view : LiveView) (old : LiveView) (told : LiveInput) : Type 0 where
  pub lost : view.lost ≡ true
  pub wants : view.place ≡ at.Unlinked Fresh
  pub closed : view.closed ≡ closes old.closed told
  pub count : view.count ≡ counts old.count told
  pub holds : view.holds ≡ old.holds
  pub joined : view.joined ≡ None
