-- Links of a live view that a log answered: they keep away an end by its peer's fault, and its last line is the replay of the log.
use Rattle.std.specs.Prelude.{◌≡◌, ℕ, true, List, [], ◌∷◌, ◌++◌}
use Rattle.byte_fields.specs.Fields.{whole}
use Rattle.tea_base.specs.Legal.{IsLegal}
use Rattle.tea_base.specs.declared.entry.Entry.{Entry}
use Rattle.tea_io.specs.declared.link.Heard.TheVariants as heard
use Rattle.model_solved.specs.Founding.{Founding, IsFounding}
use Rattle.wire_frames.specs.Reading.{server_at}
use Rattle.replica.specs.RealWorlds.{worlds}
use Rattle.view_shell.specs.declared.ending.ViewEnd.TheVariants as ending
use Rattle.view_shell.specs.Phases.{Phase, Receiving, Over}
use Rattle.live_view.specs.declared.input.LiveInput.{LiveInput}
use Rattle.live_view.specs.declared.input.LiveInput.TheVariants as input
use Rattle.live_view.specs.Live.{LiveState, live_run, live_step}
use Rattle.live_view.specs.Script.{first_state}
use Rattle.view_follows.specs.Answered.{AreAnswered, CountsEvents, new_link}
use Rattle.view_follows.specs.LiveEnds.{link_steps}
use Rattle.view_follows.specs.ViewsReplay.{IsReplayLine, TellsReplayOf}

-- ---- frames that come when they may

-- a Sync that is heard counts the events of the view
abbrev pub CountsTold : LiveInput → Phase → Type 0
CountsTold (input.Says (heard.Frame bytes)) (Receiving v aim) = CountsEvents v.replica (whole server_at bytes)
CountsTold told phase = Unit {0}

-- so does each that comes
abbrev pub AllCount : LiveState → List LiveInput → Type 0
AllCount s [] = Unit {0}
AllCount s (told ∷ more) = CountsTold told s.phase × AllCount (live_step s told).state more

-- a program, a legal log, and what a live view was told, whose links the log answered
pub record IsAnsweredLive (founding : Founding) (id : List ℕ) (view : ℕ) (address : List ℕ) (log : List Entry)
    (inputs : List LiveInput) : Type 0 where
  pub program : IsFounding founding
  pub legal : IsLegal log
  pub answers : AreAnswered (worlds founding id) log new_link (link_steps (first_state founding id view address) inputs)
  pub counts : AllCount (first_state founding id view address) inputs

-- ---- laws

-- a live view whose frames all fit the wire ends for its peer's fault only where its links were not answered so
abbrev pub AnsweredLiveViewsHaveNoFault : Type 0
AnsweredLiveViewsHaveNoFault =
    (founding : Founding) (id : List ℕ) (view : ℕ) (address : List ℕ) (log : List Entry) (inputs : List LiveInput)
    → IsAnsweredLive founding id view address log inputs → (live_run (first_state founding id view address) inputs).fit
    ≡ true → (live_run (first_state founding id view address) inputs).phase ≡ Over ending.Peer → ⊥

-- the text ends with a line that is the replay of the log, of a replica of this view that follows the log
pub record EndsInReplayText (founding : Founding) (id : List ℕ) (view : ℕ) (log : List Entry)
    (text : List ℕ) : Type 0 where
  pub front : List ℕ
  pub line : List ℕ
  pub is : text ≡ front ++ line
  pub replayed : IsReplayLine founding id view log line
  pub tells : TellsReplayOf founding id view log line

-- one that is done printed such a line last
abbrev pub AnsweredLiveViewsReplay : Type 0
AnsweredLiveViewsReplay = (founding : Founding) (id : List ℕ) (view : ℕ) (address : List ℕ) (log : List Entry)
    (inputs : List LiveInput)
    → IsAnsweredLive founding id view address log inputs → (live_run (first_state founding id view address) inputs).fit
    ≡ true → (live_run (first_state founding id view address) inputs).phase ≡ Over ending.Done
    → EndsInReplayText founding id view log (live_run (first_state founding id view address) inputs).text
