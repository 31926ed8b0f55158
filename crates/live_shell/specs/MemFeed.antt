-- What a feed in memory tells, what its calls answer, and what they leave.
use Rattle.std.specs.Prelude.{ℕ, List, [], ◌∷◌, ◌++◌, if◌then◌else◌}
use Rattle.tea_io.specs.Told.{count_up}
use Rattle.tea_io.specs.Calls.{fails_at}
use Rattle.live_shell.specs.declared.feed.Fed.{Fed}
use Rattle.live_shell.specs.declared.feed.Fed.TheVariants.{Line, Nothing, Closed, Failed, WantOfMemory}
use Rattle.live_shell.specs.Feeds.{note_of}

-- a feed in memory: the lines to come, what was told, which calls fail and which tell nothing by their numbers, the number of the next
-- call, and how often one has failed
pub record MemFeedState : Type 0 where
  pub coming : List (List ℕ)
  pub told : List Fed
  pub failing : List ℕ
  pub idle : List ℕ
  pub next_call : ℕ
  pub faults : ℕ

-- the first of the lines to come, or that none will come
abbrev pub next_of : List (List ℕ) → Fed
next_of [] = Closed
next_of (line ∷ lines) = Line line

-- what a call answers
abbrev pub feed_answer : MemFeedState → Fed
feed_answer feed =
    if fails_at feed.failing feed.next_call then Failed
    else if fails_at feed.idle feed.next_call then Nothing
    else next_of feed.coming

-- the lines without the first
abbrev pub behind_first : List (List ℕ) → List (List ℕ)
behind_first [] = []
behind_first (line ∷ lines) = lines

-- a call more was made, and noted
abbrev pub with_note : MemFeedState → Fed → MemFeedState
with_note feed what = record feed { told = feed.told ++ note_of what; next_call = count_up feed.next_call }

-- what a call leaves
abbrev pub feed_after : Fed → MemFeedState → MemFeedState
feed_after (Line bytes) feed = record (with_note feed (Line bytes)) { coming = behind_first feed.coming }
feed_after Nothing feed = with_note feed Nothing
feed_after Closed feed = with_note feed Closed
feed_after Failed feed = record (with_note feed Failed) { faults = count_up feed.faults }
feed_after WantOfMemory feed = feed
