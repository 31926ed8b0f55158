-- What a feed tells, and why.
use Rattle.std.specs.Prelude.{◌≡◌, ℕ, ⊤, List, [], ◌∷◌, Option}
use Rattle.tea_io.specs.Told.{TakesFirst, HasNoMore, Rose}
use Rattle.live_shell.specs.declared.feed.Fed.{Fed}
use Rattle.live_shell.specs.declared.feed.Fed.TheVariants.{Line, Nothing, Closed, Failed, WantOfMemory}

-- what a call adds to what was told: want of memory is not noted
abbrev pub note_of : Fed → List Fed
note_of (Line bytes) = Line bytes ∷ []
note_of Nothing = Nothing ∷ []
note_of Closed = Closed ∷ []
note_of Failed = Failed ∷ []
note_of WantOfMemory = []

-- a line is the first of those to come, the end comes where none is left, and nothing else takes one
abbrev pub TakesLine : Option (List (List ℕ)) → Option (List (List ℕ)) → Fed → Type 0
TakesLine before now (Line bytes) = TakesFirst before now bytes
TakesLine before now Nothing = now ≡ before
TakesLine before now Closed = HasNoMore before × (now ≡ before)
TakesLine before now Failed = now ≡ before
TakesLine before now WantOfMemory = now ≡ before

-- `Failed` comes only where the count of faults rose
abbrev pub FeedCause : ℕ → ℕ → Fed → Type 0
FeedCause before now Failed = Rose before now
FeedCause before now what = ⊤
