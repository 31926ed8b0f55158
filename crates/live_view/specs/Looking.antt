-- What is read off a live view between two things that it is told.
use Rattle.std.specs.Prelude.{◌≡◌, Bool, true, false, None}
use Rattle.replica_plain.specs.declared.how.How.TheVariants.{Fresh}
use Rattle.view_shell.specs.Phases.{Viewer, after_rest}
use Rattle.live_view.specs.declared.input.Goal.{Goal}
use Rattle.live_view.specs.declared.input.Goal.TheVariants as goal
use Rattle.live_view.specs.declared.input.Place.{Place}
use Rattle.live_view.specs.declared.input.Place.TheVariants as place
use Rattle.live_view.specs.declared.machine.LiveView.{LiveView}

-- a view that hears its link for this has joined on it
abbrev pub joined_for : Goal → Bool
joined_for (goal.Join how) = false
joined_for (goal.Reach time) = true
joined_for goal.Settle = true
joined_for goal.CatchUp = true
joined_for goal.Snap = true
joined_for (goal.See at) = true

abbrev pub joined_at : Place → Bool
joined_at (place.Hears goal) = joined_for goal
joined_at (place.Unlinked how) = false
joined_at (place.Gone end) = false

-- A view that has joined on its link takes a tick of its own time, so that nothing is due at that time. Another one takes none.
abbrev pub rested_if : Bool → Viewer → Viewer
rested_if true v = after_rest v
rested_if false v = v

abbrev pub rested_at : Place → Viewer → Viewer
rested_at place v = rested_if (joined_at place) v

-- Memory was wanted outside of a step: the view wants a link, on which it joins for a world made anew. No line came, and none was closed. But for
-- its replica it is who it was, and watches what it did.
abbrev pub Forgets : LiveView → LiveView → Type 0
Forgets old new = new ≡ record old {
  watcher = record old.watcher { replica = new.watcher.replica };
  queue = new.queue;
  place = place.Unlinked Fresh;
  joined = None;
  lost = true;
}
