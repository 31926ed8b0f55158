-- What a part of a step does: what was told so far, and then what the definition makes of the rest, stays what it makes of all.
use Rattle.std.specs.Prelude.{◌≡◌, ◌++◌, ℕ, Option, Some, None, string_bytes}
use Rattle.view_shell.specs.Phases.{Viewer, Phase, Aim, ToJoin, ToReach, ToSettle, ToCatchUp, ToSnap, ToSee, Connecting, Receiving, Over}
use Rattle.view_shell.specs.declared.watcher.Watcher.{Watcher}
use Rattle.view_shell.specs.Viewers.{IsReady, KnowsItself}
use Rattle.live_view.specs.declared.input.Goal.{Goal}
use Rattle.live_view.specs.declared.input.Goal.TheVariants as goal
use Rattle.live_view.specs.declared.input.Place.{Place}
use Rattle.live_view.specs.declared.input.Place.TheVariants as place
use Rattle.live_view.specs.declared.outcome.LiveOutcome.{LiveOutcome}
use Rattle.live_view.specs.Live.{Told, drive, waits}

-- what was told so far, each frame of which fits the wire, and then this
abbrev pub after : LiveOutcome → Told → Told
after out t = record {
  frames = out.frames ++ t.frames;
  text = string_bytes out.text ++ t.text;
  fit = t.fit;
  phase = t.phase;
}

-- what is done, and the phase in which the view waits then
pub record Tells (old new : LiveOutcome) (t : Told) (phase : Phase) : Type 0 where
  pub tells : after old t ≡ after new (waits phase)

-- from one phase to another, whatever comes then
pub record Leads (old new : LiveOutcome) (from to : Phase) : Type 0 where
  pub leads : (next : Viewer → Told) → after old (drive next from) ≡ after new (drive next to)

abbrev pub aim_of : Goal → Aim
aim_of (goal.Join how) = ToJoin how
aim_of (goal.Reach time) = ToReach time
aim_of goal.Settle = ToSettle
aim_of goal.CatchUp = ToCatchUp
aim_of goal.Snap = ToSnap
aim_of (goal.See at) = ToSee at

abbrev pub phase_at : Place → Viewer → Phase
phase_at (place.Unlinked how) v = Connecting v how
phase_at (place.Hears goal) v = Receiving v (aim_of goal)
phase_at (place.Gone end) v = Over end

-- a line is done, or the view waits at a place
abbrev pub came : (Viewer → Told) → Viewer → Option Place → Told
came next v None = next v
came next v (Some at) = waits (phase_at at v)

-- from a phase to the end of a line, or to a place
pub record Comes (old new : LiveOutcome) (from : Phase) (v : Viewer) (place : Option Place) : Type 0 where
  pub comes : (next : Viewer → Told) → after old (drive next from) ≡ after new (came next v place)

-- so many votes are to be published once what a view hears its link for has come
abbrev pub votes_for : Goal → ℕ
votes_for (goal.See at) = 1
votes_for other = 0

abbrev pub votes_at : Option Place → ℕ
votes_at (Some (place.Hears goal)) = votes_for goal
votes_at other = 0

-- a view that hears its link may do so, and one that wants a link knows itself
abbrev pub IsReadyAt : Option Place → Watcher → Type 0
IsReadyAt None w = IsReady w
IsReadyAt (Some (place.Hears goal)) w = IsReady w
IsReadyAt (Some (place.Unlinked how)) w = KnowsItself w
IsReadyAt (Some (place.Gone end)) w = Unit {0}
