-- A view that rests is live.
use Rattle.std.proofs.Common.{◌≡◌, ℕ, ◌+◌, List, true, Some, subst, sym, ap, ◌∙◌}
use Rattle.view_shell.specs.declared.watcher.Watcher.{Watcher}
use Rattle.view_script.specs.PlainLine.{PlainLine}
use Rattle.view_shell.specs.Viewers.{IsReady, KnowsItself, viewer}
use Rattle.live_view.specs.declared.input.Place.{Place}
use Rattle.live_view.specs.declared.input.Place.TheVariants as at
use Rattle.live_view.specs.Looking.{joined_at, rested_at}
use Rattle.live_view.specs.declared.machine.LiveView.{LiveView}
use Rattle.live_view.specs.Doing.{IsReadyAt, votes_at}
use Rattle.live_view.specs.View.{HasLines, IsLive}

pub live_rested : (old new : LiveView) → new ≡ record old { watcher = new.watcher } → new.watcher.published ≡ old.watcher.published → KnowsItself new.watcher → IsReadyAt (Some old.place) new.watcher → IsLive old → IsLive new
live_rested old new is count knows ready live =
    subst IsLive (sym is) (record {
      knows = knows;
      ready = ready;
      lines = subst (λ (n : ℕ). HasLines (n + votes_at (Some old.place)) old.queue) (sym count) live.lines;
      lost = live.lost;
      empty = live.empty;
    })

-- a view that has joined on its link may hear it
pub joined_ready : (place : Place) (w : Watcher) → joined_at place ≡ true → IsReadyAt (Some place) w → IsReady w
joined_ready (at.Hears goal) w has ready = ready
joined_ready (at.Unlinked how) w has ready = absurd cc
joined_ready (at.Gone end) w has ready = absurd cc

-- what is so of a view that rests is so of the same one by another name
pub rested_as : {new : Watcher} (place : Place) (address : List ℕ) (lines : List PlainLine) (old w : Watcher) → new ≡ w → viewer address w lines ≡ rested_at place (viewer address old lines)
    → viewer address new lines ≡ rested_at place (viewer address old lines)
rested_as place address lines old w is rests = ap (λ (u : Watcher). viewer address u lines) is ∙ rests
