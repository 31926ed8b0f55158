-- What a page does, and what a call of it tells.
use Rattle.std.specs.Prelude.{◌≡◌, ◌⊎◌, ℕ, false, true, length, List, [], Option, Some, None, string_bytes}
use Rattle.view_shell.specs.Phases.{world_text}
use Rattle.view_shell.specs.Viewers.{viewer}
use Rattle.live_view.specs.declared.input.LiveInput.{LiveInput}
use Rattle.live_view.specs.declared.input.LiveInput.TheVariants as input
use Rattle.live_view.specs.declared.machine.LiveView.{LiveView}
use Rattle.live_view.specs.declared.outcome.LiveOutcome.{LiveOutcome}
use Rattle.live_view.specs.declared.outcome.LiveWant.{LiveWant}
use Rattle.live_view.specs.Live.{live_step, wanted}
use Rattle.live_view.specs.Looking.{Forgets, rested_at}
use Rattle.live_view.specs.View.{IsLost, left, live_state, told_by}
use Rattle.croquet_page.specs.declared.page.Page.{Page}
use Rattle.croquet_page.specs.declared.told.Answer.{Answer}
use Rattle.croquet_page.specs.declared.told.Answer.TheVariants as answers
use Rattle.croquet_page.specs.declared.told.Told.{Told}
use Rattle.croquet_page.specs.Numbers.{answer_number, bit, end_of, refusal_code, refusal_value, want_number}

-- nothing is left to be copied out
pub record IsSilent (out : LiveOutcome) : Type 0 where
  pub frames : out.frames ≡ []
  pub text : string_bytes out.text ≡ []
  pub here : out.here ≡ false

-- The view did what a live view does at this, and what it told is left to be copied out. A view that wanted memory does so at a link alone.
pub record Steps (told : LiveInput) (old : LiveView) (new : Page) : Type 0 where
  pub does : (address : List ℕ) → told_by address new.last new.view ≡ live_step (live_state address old) told
  pub had : old.lost ≡ true → (told ≡ input.Linked → ⊥) → ⊥

-- memory was wanted in the step
abbrev pub IsLostBy : Option LiveInput → LiveView → LiveView → Type 0
IsLostBy None old new = ⊥
IsLostBy (Some told) old new = IsLost new old told

-- memory was wanted in the step, or for a copy of what was to be told
pub record Wants (told : Option LiveInput) (old : LiveView) (new : Page) : Type 0 where
  pub lost : IsLostBy told old new.view ⊎ Forgets old new.view
  pub silent : IsSilent new.last

-- the number is of nothing that is told: the view is as it was
pub record Ignores (old : LiveView) (new : Page) : Type 0 where
  pub view : new.view ≡ old
  pub silent : IsSilent new.last

-- what a page of this view answers that was told this
abbrev pub TellsPage : Answer → Option LiveInput → LiveView → Page → Type 0
TellsPage answers.Done None old new = ⊥
TellsPage answers.Done (Some told) old new = Steps told old new
TellsPage answers.NoKind None old new = Ignores old new
TellsPage answers.NoKind (Some told) old new = ⊥
TellsPage answers.WantOfMemory told old new = Wants told old new

-- The world in full is left to be copied out. But for the rest before it, the view is as it was.
pub record Looks (old : LiveView) (new : Page) : Type 0 where
  pub frames : new.last.frames ≡ []
  pub here : new.last.here ≡ false
  pub text : (address : List ℕ)
      → string_bytes new.last.text ≡ world_text (rested_at old.place (viewer address old.watcher (left old)))
  pub rests : (address : List ℕ) → viewer address new.view.watcher (left new.view)
      ≡ rested_at old.place (viewer address old.watcher (left old))
  pub kept : new.view ≡ record old { watcher = new.view.watcher }
  pub had : old.lost ≡ false

-- memory was wanted for it
pub record WantsToLook (old : LiveView) (new : Page) : Type 0 where
  pub lost : Forgets old new.view
  pub silent : IsSilent new.last

-- what a page of this view answers that was asked for its world
abbrev pub LooksPage : Answer → LiveView → Page → Type 0
LooksPage answers.Done old new = Looks old new
LooksPage answers.NoKind old new = ⊥
LooksPage answers.WantOfMemory old new = WantsToLook old new

-- what a page wants next; the address of its session's reflector is the host's
abbrev pub wanted_by : Page → LiveWant
wanted_by page = wanted (live_state [] page.view).phase

-- what a call tells in numbers that a page answered so
abbrev pub told_of : Answer → Page → Told
told_of answer page =
    record {
      time = page.view.watcher.replica.plain.world.time;
      text = length (string_bytes page.last.text);
      frames = length page.last.frames;
      unacknowledged = length page.view.watcher.replica.plain.outbox;
      kept = refusal_value (wanted_by page);
      seen = page.view.watcher.replica.plain.seen;
      status = answer_number answer;
      want = want_number (wanted_by page);
      end = end_of (wanted_by page);
      code = refusal_code (wanted_by page);
      here = bit page.last.here;
    }
