-- Rows for posts: bare, and with passes.
use Rattle.std.proofs.Common.{◌≡◌, ℕ, All, List, [], ◌∷◌, ◌++◌, get_or, sym, subst, arith}
use Rattle.std.proofs.lemmas.List.Elements.{All-push}
use Rattle.run_steps.specs.Outside.{NetTells}
use Rattle.id_claims.specs.Passes.{PassState as ClaimState}
use Rattle.host_server.specs.Claiming.{HasGivenClaims, IsFreshClaim}
use Rattle.host_server.specs.Rows.{AtEach, HasGiven}
use Rattle.host_server.specs.declared.rooms.Row.{Row}
use Rattle.host_server.proofs.Places.{all_at, at_all}
use Rattle.host_posts.specs.Counts.{no_ends}
use Rattle.host_posts.specs.Passes.{IsPostRow}
use Rattle.host_posts.specs.Rounds.{IsNewPost}
use Rattle.host_posts.specs.Shares.{IsUnused}
use Rattle.host_posts.specs.declared.post.Post.{Post}
use Rattle.host_posts.proofs.Openings.{claim_still, passes_still}
use Rattle.reflect_posts.specs.Prepares.{IsBareRow}

-- a row that is bare for a pass of claims is so for what this is after it has given parts
bare_still : {K : Type 0} (count : ℕ) (lead now : ClaimState) (row : Row K) → HasGivenClaims count lead now → IsBareRow lead row → IsBareRow now row
bare_still count lead now row given bare = record { none = bare.none; room = bare.room; claim = claim_still count lead now row.claim given bare.claim }

pub all_bare_still : {K : Type 0} (count : ℕ) (lead now : ClaimState) (rows : List (Row K)) → HasGivenClaims count lead now → All (IsBareRow lead) rows → All (IsBareRow now) rows
all_bare_still {K} count lead now rows given bare =
    at_all (IsBareRow {K = K} now) rows (λ place row in_rows. bare_still count lead now row given (all_at (IsBareRow lead) rows place row bare in_rows))

-- ---- posts that are made of them

-- a post that has served no link, whose row was split off this one
abbrev pub IsMade : {S K : Type 0} → Row K → Post S K → Type 0
IsMade lead post = IsPostRow lead post.row × (post.counts ≡ no_ends)

pub made_none : {S K : Type 0} (lead : Row K) (posts : List (Post S K)) → posts ≡ [] → All (IsMade lead) posts
made_none {S} {K} lead posts none = subst (All (IsMade {S = S} {K = K} lead)) (sym none) (λ place d within. absurd (omega (arith, within)))

pub made_more : {S K : Type 0} (lead : Row K) (posts now : List (Post S K)) (post : Post S K) → now ≡ posts ++ post ∷ [] → All (IsMade lead) posts → IsPostRow lead post.row → post.counts ≡ no_ends → All (IsMade lead) now
made_more {S} {K} lead posts now post is all row ends = subst (All (IsMade {S = S} {K = K} lead)) (sym is) (All-push (IsMade {S = S} {K = K} lead) posts post all (row, ends))

module _ {N S L : Type 0} (tells : NetTells N L) (shares : NetTells S L) (K : Type 0) where
  pub posted_none : (net : N) (posts : List (Post S K)) → posts ≡ [] → All (λ post. IsUnused tells shares net post.share) posts
  posted_none net posts none = subst (All (λ (post : Post S K). IsUnused tells shares net post.share)) (sym none) (λ place d within. absurd (omega (arith, within)))

  pub posted_more : (net : N) (posts now : List (Post S K)) (post : Post S K) → now ≡ posts ++ post ∷ [] → All (λ p. IsUnused tells shares net p.share) posts → IsUnused tells shares net post.share → All (λ p. IsUnused tells shares net p.share) now
  posted_more net posts now post is all one =
      subst (All (λ (p : Post S K). IsUnused tells shares net p.share)) (sym is) (All-push (λ (p : Post S K). IsUnused tells shares net p.share) posts post all one)

  -- they are new posts of what the lead row has come to, which has only given numbers
  pub all_new : (net : N) (count : ℕ) (before now : Row K) (posts : List (Post S K)) → AtEach (HasGiven count) before.seats.items now.seats.items → now.claim ≡ before.claim → All (IsMade before) posts
      → All (λ post. IsUnused tells shares net post.share) posts → All (IsNewPost tells shares net now) posts
  all_new net count before now posts given claim made unused place d within = record {
    share = unused place d within;
    ends = (made place d within).1;
    row = record {
      seats = passes_still count before.seats.items now.seats.items _ given (made place d within).0.seats;
      claim = subst (λ (p : ClaimState). IsFreshClaim p (get_or posts place d).row.claim) (sym claim) (made place d within).0.claim;
    };
  }
