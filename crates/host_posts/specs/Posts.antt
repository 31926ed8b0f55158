-- Posts that have ended: the links that each has served, and why it has ended.
use Rattle.std.specs.Prelude.{◌≡◌, ℕ, ◌≤◌, List, length, flat_map}
use Rattle.tea_io.specs.Told.{Rose}
use Rattle.host_server.specs.Links.{HostedLink, ends_of}
use Rattle.host_posts.specs.Counts.{counts_of}
use Rattle.host_posts.specs.declared.posting.PostEnd.{PostEnd}
use Rattle.host_posts.specs.declared.posting.PostEnd.TheVariants.{Stopped, Failed, WantOfMemory, Spent}
use Rattle.host_posts.specs.declared.posting.PostOutcome.{PostOutcome}

-- a post serves at most so many links, each by a caller of its own
abbrev pub most_links : ℕ
most_links = 67108862

-- and so it has so many numbers of each session: one more for itself
abbrev pub post_numbers : ℕ
post_numbers = 67108863

-- there are at most so many posts
abbrev pub most_posts : ℕ
most_posts = 64

-- a post: the links that it has served, in the order in which its share gave them, and how often a call of its share has failed
pub record PostHistory (L : Type 0) : Type 0 where
  pub hosted : List (HostedLink L)
  pub faults : ℕ

-- the links of all posts, those of one after those of the other
abbrev pub hosted_in : {L : Type 0} → List (PostHistory L) → List (HostedLink L)
hosted_in posts = flat_map (λ post. post.hosted) posts

-- Why a post has ended: as Stopped only where it may have been asked to, as Failed only where the count of its share's faults rose, and as Spent only
-- where it has served all the links that it may serve. Where it has not Failed, its share has not.
abbrev pub EndsBy : Type 0 → ℕ → ℕ → ℕ → PostEnd → Type 0
EndsBy may links before now Stopped = may × (now ≡ before)
EndsBy may links before now Failed = Rose before now
EndsBy may links before now WantOfMemory = now ≡ before
EndsBy may links before now Spent = (links ≡ most_links) × (now ≡ before)

-- what is told of it
pub record IsPost (may : Type 0) {L : Type 0} (post : PostHistory L) (outcome : PostOutcome) : Type 0 where
  pub few : length post.hosted ≤ most_links
  pub ended : EndsBy may (length post.hosted) 0 post.faults outcome.end
  pub counts : outcome.counts ≡ counts_of (ends_of post.hosted)
