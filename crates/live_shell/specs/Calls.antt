-- How the calls of a live run come out.
use Rattle.std.specs.Prelude.{◌≡◌, ◌⊎◌, ⊤, List, [], ◌∷◌, ℕ, Option, Some, None, Result, Ok, Err}
use Rattle.run_steps.specs.declared.calls.CallFault.{CallFault}
use Rattle.run_steps.specs.Outside.{OutputTells, LinksTell, Came, Well, Failed, WantedMemory, PrintsText, SendsFrame}
use Rattle.live_view.specs.declared.input.LiveInput.{LiveInput}
use Rattle.live_view.specs.declared.input.LiveInput.TheVariants as input
use Rattle.live_shell.specs.declared.feed.Fed.{Fed}
use Rattle.live_shell.specs.declared.feed.Fed.TheVariants as fed
use Rattle.view_shell.specs.declared.ending.ViewEnd.{ViewEnd}
use Rattle.view_shell.specs.declared.ending.ViewEnd.TheVariants as ending
use Rattle.live_view.specs.Live.{LiveTold}
use Rattle.live_shell.specs.LiveRun.{here_text}

-- what a feed told, as the view is told it
abbrev pub fed_of : Option LiveInput → Fed
fed_of (Some (input.Line bytes)) = fed.Line bytes
fed_of (Some input.Closed) = fed.Closed
fed_of told = fed.Nothing

-- it is told by a feed
abbrev pub IsFed : Option LiveInput → Type 0
IsFed None = Unit {0}
IsFed (Some (input.Line bytes)) = Unit {0}
IsFed (Some input.Closed) = Unit {0}
IsFed (Some told) = ⊥

abbrev pub fed_by : Result (Option LiveInput) CallFault → Fed
fed_by (Ok told) = fed_of told
fed_by (Err fault) = fed.Nothing

-- frames are sent in order, up to one that fails or wants memory
abbrev pub SendsAll : {L : Type 0} → LinksTell L → List (List ℕ) → Came → L → L → Type 0
SendsAll links [] Well old new = new ≡ old
SendsAll links [] came old new = ⊥
SendsAll {L = L} links (frame ∷ frames) Well old new =
    (mid : L) × SendsFrame links Well frame old mid × SendsAll links frames Well mid new
SendsAll {L = L} links (frame ∷ frames) came old new =
    ((mid : L) × SendsFrame links Well frame old mid × SendsAll links frames came mid new)
    ⊎ SendsFrame links came frame old new

-- a text is printed, unless it is empty
abbrev pub PrintsSome : {W : Type 0} → OutputTells W → List ℕ → Came → W → W → Type 0
PrintsSome out [] Well old new = new ≡ old
PrintsSome out [] came old new = ⊥
PrintsSome out (byte ∷ text) came old new = PrintsText out came (byte ∷ text) old new

-- ---- what a view answers

-- how a run ends at a call that came out so
abbrev pub IsEndOf : Came → ViewEnd → ViewEnd → Type 0
IsEndOf Well fault end = ⊥
IsEndOf Failed fault end = end ≡ fault
IsEndOf WantedMemory fault end = end ≡ ending.WantOfMemory

-- a text is printed, and then that the view has come to the entry by which it joined
pub record PrintsBoth {W : Type 0} (out : OutputTells W) (text here : List ℕ) (old new : W) : Type 0 where
  pub mid : W
  pub text_printed : PrintsSome out text Well old mid
  pub here_printed : PrintsSome out here Well mid new

-- one of both was not printed
pub record PrintsNot {W : Type 0} (out : OutputTells W) (text here : List ℕ) (end : ViewEnd)
    (old new : W) : Type 0 where
  pub mid : W
  pub came : Came
  pub cut : (PrintsSome out text came old new) ⊎ (PrintsSome out text Well old mid × PrintsSome out here came mid new)
  pub ends : IsEndOf came ending.WriteFault end

abbrev pub Prints : {W : Type 0} → OutputTells W → List ℕ → List ℕ → Result ⊤ ViewEnd → W → W → Type 0
Prints out text here (Ok done) old new = PrintsBoth out text here old new
Prints out text here (Err end) old new = PrintsNot out text here end old new

-- frames are sent, and then texts are printed
pub record AnswersAll {W L : Type 0} (out : OutputTells W) (links : LinksTell L) (t : LiveTold) (w w' : W)
    (l l' : L) : Type 0 where
  pub sent : SendsAll links t.frames Well l l'
  pub printed : PrintsBoth out t.text (here_text t.here) w w'

-- a frame was not sent
pub record SendsNot {W L : Type 0} (links : LinksTell L) (frames : List (List ℕ)) (end : ViewEnd) (w w' : W)
    (l l' : L) : Type 0 where
  pub came : Came
  pub sent : SendsAll links frames came l l'
  pub ends : IsEndOf came ending.NetFault end
  pub kept : w' ≡ w

-- or a text was not printed
pub record SendsButNot {W L : Type 0} (out : OutputTells W) (links : LinksTell L) (t : LiveTold) (end : ViewEnd)
    (w w' : W) (l l' : L) : Type 0 where
  pub sent : SendsAll links t.frames Well l l'
  pub printed : PrintsNot out t.text (here_text t.here) end w w'

abbrev pub Answers : {W L : Type 0} → OutputTells W → LinksTell L → LiveTold → Result ⊤ ViewEnd → W → W → L → L → Type 0
Answers out links t (Ok done) w w' l l' = AnswersAll out links t w w' l l'
Answers out links t (Err end) w w' l l' = SendsNot links t.frames end w w' l l' ⊎ SendsButNot out links t end w w' l l'

-- or the view had no memory for an answer
abbrev pub AnswersOrNot : {W L : Type 0} → OutputTells W → LinksTell L → LiveTold → Result ⊤ ViewEnd → W → W → L → L
    → Type 0
AnswersOrNot out links t result w w' l l' =
    Answers out links t result w w' l l' ⊎ ((result ≡ Err ending.WantOfMemory) × (w' ≡ w) × (l' ≡ l))
