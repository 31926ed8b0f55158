-- The steps of a live run, each with what it was told, and what they do to the outside: a feed, an output, a net and the link in use.
use Rattle.std.specs.Prelude.{◌≡◌, ◌⊎◌, ℕ, ◌≤◌, Bool, true, false, List, [], ◌∷◌, Option, Some, None}
use Rattle.tea_io.specs.Told.{with_more}
use Rattle.tea_io.specs.declared.link.Heard.{Heard}
use Rattle.tea_io.specs.declared.link.Heard.TheVariants as heard
use Rattle.run_steps.specs.Outside.{OutputTells, NetTells, LinksTell, Came, Well, Failed, WantedMemory, PrintsText, MakesLink, GivesBack, HearsLink, SendsFrame, OnLink}
use Rattle.live_shell.specs.declared.feed.Fed.{Fed}
use Rattle.live_shell.specs.declared.feed.Feed.{Ghosts as OfFeed}
use Rattle.live_shell.specs.declared.feed.Fed.TheVariants as fed
use Rattle.live_shell.specs.Feeds.{note_of, TakesLine, FeedCause}

-- a step: a row for each kind
pub data LiveStep : Type 0 where
  -- the feed is asked, and tells this
  Asks : Fed → LiveStep
  -- a link to an address is made, or none
  Links : List ℕ → Bool → LiveStep
  -- the link says this
  Hears : Heard → LiveStep
  -- a frame is sent on the link
  Sends : List ℕ → LiveStep
  -- a piece of text is printed
  Prints : List ℕ → LiveStep
  -- the link is given back to the net
  Returns : LiveStep
  -- some time goes by
  Pauses : LiveStep

-- ---- the outside

-- the outside of a live run, in one of its states: a feed, an output, a net, and the link that it gave and that is in use
pub record LiveOutside (K W N L : Type 0) : Type 0 where
  pub feed : K
  pub out : W
  pub net : N
  pub link : Option L

abbrev pub live_outside : {K W N L : Type 0} → K → W → N → Option L → LiveOutside K W N L
live_outside feed out net link = record { feed = feed; out = out; net = net; link = link }

-- the lines to come, what was told, and how often a call failed
pub record FeedTells (K : Type 0) : Type 0 where
  pub coming : K → Option (List (List ℕ))
  pub told : K → Option (List Fed)
  pub faults : K → ℕ

abbrev pub feed_tells : {K : Type 0} → OfFeed K → FeedTells K
feed_tells k = record { coming = k.coming; told = k.told; faults = k.faults }

-- all that the outside tells
pub record LiveTells (K W N L : Type 0) : Type 0 where
  pub feed : FeedTells K
  pub out : OutputTells W
  pub net : NetTells N L
  pub links : LinksTell L

abbrev pub live_tells : {K W N L : Type 0} → FeedTells K → OutputTells W → NetTells N L → LinksTell L
    → LiveTells K W N L
live_tells feed out net links = record { feed = feed; out = out; net = net; links = links }

-- ---- the feed

-- what the feed told, by how its call came out
abbrev pub fed_answer : Came → Fed → Fed
fed_answer Well what = what
fed_answer Failed what = fed.Failed
fed_answer WantedMemory what = fed.WantOfMemory

-- the feed is asked
pub record AsksFeed {K : Type 0} (feed : FeedTells K) (came : Came) (what : Fed) (old new : K) : Type 0 where
  pub told : feed.told new ≡ with_more (feed.told old) (note_of (fed_answer came what))
  pub coming : TakesLine (feed.coming old) (feed.coming new) (fed_answer came what)
  pub later : feed.faults old ≤ feed.faults new
  pub cause : FeedCause (feed.faults old) (feed.faults new) (fed_answer came what)

-- it tells nothing while time goes by
pub record Rests {K : Type 0} (feed : FeedTells K) (old new : K) : Type 0 where
  pub told : feed.told new ≡ feed.told old
  pub coming : feed.coming new ≡ feed.coming old
  pub faults : feed.faults new ≡ feed.faults old

-- ---- a step

-- a link is made, or none: that none was made is no fault of the run, since the view is told
abbrev pub LinksOrNot : {N L : Type 0} → NetTells N L → LinksTell L → Came → List ℕ → Bool → N → N → Option L → Type 0
LinksOrNot net links Well address true old new link = MakesLink net links Well address old new link
LinksOrNot net links Well address false old new link = MakesLink net links Failed address old new link
LinksOrNot net links WantedMemory address made old new link = MakesLink net links WantedMemory address old new link
LinksOrNot net links Failed address made old new link = ⊥

-- a receive that failed is no fault of the run either
abbrev pub came_heard : Heard → Came
came_heard heard.Failed = Failed
came_heard what = Well

abbrev pub HearsAny : {L : Type 0} → LinksTell L → Came → Heard → L → L → Type 0
HearsAny links Well what old new = HearsLink links (came_heard what) what old new
HearsAny links WantedMemory what old new = HearsLink links WantedMemory what old new
HearsAny links Failed what old new = ⊥

-- what a step does to the outside where its call came out so: one part of it moves, and the others stay as they are
abbrev pub ActsLive : {K W N L : Type 0} → LiveTells K W N L → Came → LiveStep → LiveOutside K W N L
    → LiveOutside K W N L → Type 0
ActsLive tells came (Asks what) old new =
    AsksFeed tells.feed came what old.feed new.feed × (new ≡ record old { feed = new.feed })
ActsLive tells came (Links address made) old new =
    (old.link ≡ None) × LinksOrNot tells.net tells.links came address made old.net new.net new.link
    × (new ≡ record old { net = new.net; link = new.link })
ActsLive tells came (Hears what) old new = OnLink (HearsAny tells.links came what) old.link new.link
    × (new ≡ record old { link = new.link })
ActsLive tells came (Sends frame) old new = OnLink (SendsFrame tells.links came frame) old.link new.link
    × (new ≡ record old { link = new.link })
ActsLive tells came (Prints text) old new =
    PrintsText tells.out came text old.out new.out × (new ≡ record old { out = new.out })
ActsLive tells came Returns old new =
    (came ≡ Well) × GivesBack tells.net tells.links old.link old.net new.net
    × (new ≡ record old { net = new.net; link = None })
ActsLive tells came Pauses old new = (came ≡ Well) × Rests tells.feed old.feed new.feed
    × (new ≡ record old { feed = new.feed })

-- ---- steps

-- where steps are cut: at this one, which failed or wanted memory
pub record LiveCut : Type 0 where
  pub step : LiveStep
  pub came : Came

-- Steps are done, one after the other. One that fails or wants memory cuts them: no other is done.
abbrev pub LiveActs : {K W N L : Type 0} → LiveTells K W N L → List LiveStep → Option LiveCut → LiveOutside K W N L
    → LiveOutside K W N L → Type 0
LiveActs tells [] None old new = new ≡ old
LiveActs tells [] (Some cut) old new = ⊥
LiveActs {K = K} {W = W} {N = N} {L = L} tells (step ∷ steps) cut old new =
    ((mid : LiveOutside K W N L) × ActsLive tells Well step old mid × LiveActs tells steps cut mid new)
    ⊎ ((ActsLive tells Failed step old new × (cut ≡ Some (record { step = step; came = Failed })))
    ⊎ (ActsLive tells WantedMemory step old new × (cut ≡ Some (record { step = step; came = WantedMemory }))))

-- the link that is in use, if any, goes back to its net
abbrev pub GoesBack : {K W N L : Type 0} → LiveTells K W N L → LiveOutside K W N L → LiveOutside K W N L → Type 0
GoesBack tells old new = GivesBack tells.net tells.links old.link old.net new.net
    × (new ≡ record old { net = new.net; link = None })
