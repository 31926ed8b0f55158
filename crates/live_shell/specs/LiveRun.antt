-- A live run: what its view is told, in the order in which feed and link were asked, and what it does of that.
use Rattle.std.specs.Prelude.{◌≡◌, ◌⊎◌, ℕ, ◌+◌, ◌<◌, ◌≤◌, ⊤, Bool, true, false, List, [], ◌∷◌, ◌++◌, map, Option, Some, None, Result, MatchResult, codes}
use Rattle.view_shell.specs.declared.ending.ViewEnd.{ViewEnd}
use Rattle.view_shell.specs.declared.ending.ViewEnd.TheVariants as ending
use Rattle.view_shell.specs.Phases.{Phase, Over}
use Rattle.live_view.specs.declared.input.LiveInput.{LiveInput}
use Rattle.live_view.specs.declared.input.LiveInput.TheVariants as input
use Rattle.live_view.specs.declared.outcome.LiveWant.TheVariants as want
use Rattle.live_view.specs.Live.{LiveState, LiveTold, is_held, live_step, wanted}
use Rattle.run_steps.specs.Outside.{Came, Well, Failed, WantedMemory}
use Rattle.live_shell.specs.declared.ending.LiveEnd.{LiveEnd}
use Rattle.live_shell.specs.declared.ending.LiveEnd.TheVariants as live_end
use Rattle.live_shell.specs.declared.feed.Fed.TheVariants as fed
use Rattle.live_shell.specs.LiveSteps.{LiveStep, Asks, Links, Hears, Sends, Prints, Returns, Pauses, FeedTells, LiveTells, LiveOutside, LiveCut, LiveActs, GoesBack, Rests, live_outside}

-- a turn: the view is told something; or the feed was asked, and no line had come
abbrev pub Turn : Type 0
Turn = Option LiveInput

-- what a view is told in turns
abbrev pub inputs_in : List Turn → List LiveInput
inputs_in [] = []
inputs_in (None ∷ turns) = inputs_in turns
inputs_in (Some told ∷ turns) = told ∷ inputs_in turns

-- the calls that tell it; a link that is in use goes back before another one is made
abbrev pub asked : List ℕ → LiveInput → List LiveStep
asked address input.Linked = Returns ∷ Links address true ∷ []
asked address input.LinkFailed = Returns ∷ Links address false ∷ []
asked address (input.Says what) = Hears what ∷ []
asked address (input.Line bytes) = Asks (fed.Line bytes) ∷ []
asked address input.Closed = Asks fed.Closed ∷ []

-- of an empty text the output is not asked
abbrev pub prints : List ℕ → List LiveStep
prints [] = []
prints (byte ∷ text) = Prints (byte ∷ text) ∷ []

-- the view has come to the entry by which it joined
abbrev pub here_text : Bool → List ℕ
here_text true = codes "here" ++ 10 ∷ []
here_text false = []

-- what a view answers is sent and printed
abbrev pub answers : LiveTold → List LiveStep
answers t = map Sends t.frames ++ (prints t.text ++ prints (here_text t.here))

-- time goes by before another link is made in place of one that is gone
abbrev pub pauses : Bool → List LiveStep
pauses true = Pauses ∷ []
pauses false = []

abbrev pub PausesBy : {K : Type 0} → FeedTells K → Bool → K → K → Type 0
PausesBy feed true old new = Rests feed old new
PausesBy feed false old new = new ≡ old

-- a view is told something, and does this
abbrev pub told_steps : List ℕ → LiveState → LiveInput → List LiveStep
told_steps address s told = asked address told ++ (answers (live_step s told) ++ pauses (is_held s.holds s.phase told))

-- the view after something that it is told, where each frame that it sent fits the wire
pub record StepsTo (s : LiveState) (told : LiveInput) (after : LiveState) : Type 0 where
  pub is : after ≡ (live_step s told).state
  pub fit : (live_step s told).fit ≡ true

-- a view that wants a link, and one that wants to be told something
pub record WantsLink (s : LiveState) : Type 0 where
  pub is : wanted s.phase ≡ want.Link

pub record WantsInput (s : LiveState) : Type 0 where
  pub is : wanted s.phase ≡ want.Input

-- the steps of turns, and the view behind them
abbrev pub steps_of : List ℕ → LiveState → List Turn → List LiveStep
steps_of address s [] = []
steps_of address s (None ∷ turns) = Asks fed.Nothing ∷ steps_of address s turns
steps_of address s (Some told ∷ turns) = told_steps address s told ++ steps_of address (live_step s told).state turns

abbrev pub state_after : LiveState → List Turn → LiveState
state_after s [] = s
state_after s (None ∷ turns) = state_after s turns
state_after s (Some told ∷ turns) = state_after (live_step s told).state turns

-- the call that told something for which the view had no memory
abbrev pub asks_last : List ℕ → Option LiveInput → List LiveStep
asks_last address None = []
asks_last address (Some told) = asked address told

-- ---- which turn is due

-- the most lines in a row before the link is heard
abbrev pub most_lines : ℕ
most_lines = 64

-- So many lines came in a row after a turn, where so many came before it. Where no line had come, or none will, it counts as the most.
abbrev pub lines_behind : ℕ → Turn → ℕ
lines_behind lines None = most_lines
lines_behind lines (Some input.Closed) = most_lines
lines_behind lines (Some (input.Line bytes)) = lines + 1
lines_behind lines (Some other) = 0

abbrev pub lines_after : ℕ → List Turn → ℕ
lines_after lines [] = lines
lines_after lines (turn ∷ turns) = lines_after (lines_behind lines turn) turns

-- The feed has its turn until the most lines came in a row. Then the link is heard once. A link may be made after any turn.
abbrev pub IsDue : ℕ → Turn → Type 0
IsDue lines None = lines < most_lines
IsDue lines (Some input.Closed) = lines < most_lines
IsDue lines (Some (input.Line bytes)) = lines < most_lines
IsDue lines (Some (input.Says what)) = most_lines ≤ lines
IsDue lines (Some other) = ⊤

-- each of these turns was due, after so many lines
abbrev pub IsFair : ℕ → List Turn → Type 0
IsFair lines [] = ⊤
IsFair lines (turn ∷ turns) = IsDue lines turn × IsFair (lines_behind lines turn) turns

-- A view that wants a link is told that one is there, or that none was made. It is told all else where it wants to be told something.
abbrev pub IsWanted : LiveState → Turn → Type 0
IsWanted s (Some input.Linked) = WantsLink s
IsWanted s (Some input.LinkFailed) = WantsLink s
IsWanted s turn = WantsInput s

-- so is each of these turns, from this state of the view on
abbrev pub AreWanted : LiveState → List Turn → Type 0
AreWanted s [] = ⊤
AreWanted s (None ∷ turns) = IsWanted s None × AreWanted s turns
AreWanted s (Some told ∷ turns) = IsWanted s (Some told) × AreWanted (live_step s told).state turns

-- each frame that was sent in these turns fits the wire
abbrev pub AreFit : LiveState → List Turn → Type 0
AreFit s [] = ⊤
AreFit s (None ∷ turns) = AreFit s turns
AreFit s (Some told ∷ turns) = ((live_step s told).fit ≡ true) × AreFit (live_step s told).state turns

-- with what the view was told last
abbrev pub and_last : List Turn → Option LiveInput → List Turn
and_last turns None = turns
and_last turns (Some told) = turns ++ Some told ∷ []

-- ---- how it ends

-- how a run ends that is cut at a step, where its call came out so
abbrev pub IsLiveCutEnd : Came → LiveStep → LiveEnd → Type 0
IsLiveCutEnd Well step end = ⊥
IsLiveCutEnd WantedMemory step end = end ≡ live_end.View ending.WantOfMemory
IsLiveCutEnd Failed (Asks what) end = end ≡ live_end.ReadFault
IsLiveCutEnd Failed (Sends frame) end = end ≡ live_end.View ending.NetFault
IsLiveCutEnd Failed (Prints text) end = end ≡ live_end.View ending.WriteFault
IsLiveCutEnd Failed step end = ⊥

-- as the view says in the phase that it has reached, or for want of memory, or by its cut
abbrev pub EndsLive : Phase → Option LiveInput → Option LiveCut → LiveEnd → Type 0
EndsLive last None None end = ((how : ViewEnd) × (last ≡ Over how) × (end ≡ live_end.View how))
    ⊎ (end ≡ live_end.View ending.WantOfMemory)
EndsLive last (Some told) None end = end ≡ live_end.View ending.WantOfMemory
EndsLive last more (Some cut) end = IsLiveCutEnd cut.came cut.step end

-- Turns that were all done lead from one state of the outside, and of the view, to another. Each was due, after so many lines, and was
-- wanted, and each frame that was sent fits the wire. So many lines came in a row after them.
pub record Turned {K W N L : Type 0} (tells : LiveTells K W N L) (address : List ℕ) (lines : ℕ) (Behind : ℕ → Type 0)
    (first last : LiveState) (old new : LiveOutside K W N L) : Type 0 where
  pub turns : List Turn
  pub acts : LiveActs tells (steps_of address first turns) None old new
  pub state : state_after first turns ≡ last
  pub fair : IsFair lines turns
  pub wants : AreWanted first turns
  pub fit : AreFit first turns
  pub behind : Behind (lines_after lines turns)

-- turns were done up to an end: up to a cut, or until the view had ended, or had no memory for what it was told last; each was due, and
-- was wanted. Where no call cut them, each frame that was sent fits the wire.
pub record Stopped {K W N L : Type 0} (tells : LiveTells K W N L) (address : List ℕ) (lines : ℕ) (first : LiveState)
    (end : LiveEnd) (old new : LiveOutside K W N L) : Type 0 where
  pub turns : List Turn
  pub last : Option LiveInput
  pub cut : Option LiveCut
  pub acts : LiveActs tells (steps_of address first turns ++ asks_last address last) cut old new
  pub ends : EndsLive (state_after first turns).phase last cut end
  pub fair : IsFair lines (and_last turns last)
  pub wants : AreWanted first (and_last turns last)
  pub fit : cut ≡ None → AreFit first turns

-- A run of a view from one state to its end: feed and link were asked in some order, and its steps are those of what they told, up to a
-- cut. Then the link that is in use, if any, goes back.
pub record LiveRan {K W N L : Type 0} (tells : LiveTells K W N L) (address : List ℕ) (first : LiveState) (end : LiveEnd)
    (old new : LiveOutside K W N L) : Type 0 where
  pub mid : LiveOutside K W N L
  pub stopped : Stopped tells address 0 first end old mid
  pub back : GoesBack tells mid new

-- what turns come to: they were all done, or stopped
abbrev pub Turns : {K W N L A : Type 0} → LiveTells K W N L → List ℕ → ℕ → (A → ℕ → Type 0) → LiveState → LiveState
    → Result A LiveEnd → LiveOutside K W N L → LiveOutside K W N L → Type 0
Turns tells address lines Behind first last result old new =
    MatchResult result (λ it. Turned tells address lines (Behind it) first last old new) (λ end.
    Stopped tells address lines first end old new)

-- the answer is how many lines came in a row; or nothing is said of that
abbrev pub AreCounted : ℕ → ℕ → Type 0
AreCounted counted lines = lines ≡ counted

abbrev pub AreAny : {A : Type 0} → A → ℕ → Type 0
AreAny it lines = ⊤

-- what turns on a link come to, over each net; the view behind them is named with the address of its session's reflector
pub record Attends {K W N L A : Type 0} (tells : LiveTells K W N L) (lines : ℕ) (Behind : A → ℕ → Type 0)
    (first last : List ℕ → LiveState) (result : Result A LiveEnd) (feed feed' : K) (w w' : W) (l l' : L) : Type 0 where
  pub turns : (address : List ℕ) (net : N)
      → Turns tells address lines Behind (first address) (last address) result (live_outside feed w net (Some l))
      (live_outside feed' w' net (Some l'))

-- the same from the making of the link on, after any lines
pub record Enters {K W N L A : Type 0} (tells : LiveTells K W N L) (first last : List ℕ → LiveState)
    (result : Result A LiveEnd) (feed feed' : K) (w w' : W) (l l' : L) : Type 0 where
  pub turns : (address : List ℕ) (net : N) (lines : ℕ) (from : LiveOutside K W N L)
      → LiveActs tells (asked address input.Linked) None from (live_outside feed w net (Some l))
      → Turns tells address lines AreAny (first address) (last address) result from
      (live_outside feed' w' net (Some l'))

-- turns, and then the link that is in use, if any, goes back
pub record TurnsAndBack {K W N L A : Type 0} (tells : LiveTells K W N L) (address : List ℕ) (lines : ℕ)
    (first last : LiveState) (result : Result A LiveEnd) (old new : LiveOutside K W N L) : Type 0 where
  pub mid : LiveOutside K W N L
  pub turns : Turns tells address lines AreAny first last result old mid
  pub back : GoesBack tells mid new

-- what a link comes to that is made after one that goes back, after any lines
pub record Visits {K W N L A : Type 0} (tells : LiveTells K W N L) (address : List ℕ) (first last : LiveState)
    (result : Result A LiveEnd) (old new : LiveOutside K W N L) : Type 0 where
  pub turns : (lines : ℕ) (from : LiveOutside K W N L) → GoesBack tells from old
      → TurnsAndBack tells address lines first last result from new
