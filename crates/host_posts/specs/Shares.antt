-- What shares of a net give and get back, and what they bring back to the net.
use Rattle.std.specs.Prelude.{◌≡◌, ℕ, ◌+◌, ◌≤◌, List, [], ◌∷◌, None}
use Rattle.tea_io.specs.declared.net.NetFault.{NetFault}
use Rattle.tea_io.specs.declared.net.NetFault.TheVariants as fault
use Rattle.tea_io.specs.Told.{TakesFirst, with_more}
use Rattle.tea_io.specs.Links.{Counts, no_counts}
use Rattle.tea_io.specs.Nets.{plus, sum_of}
use Rattle.run_steps.specs.Outside.{LinksTell, NetTells}
use Rattle.net_shares.specs.Shares.{none_of}
use Rattle.net_shares.specs.declared.share.Share.{Ghosts as OfShare}
use Rattle.reflect_server.specs.Connections.{returned_links}
use Rattle.reflect_server.specs.Reflects.{ReturnsLinks}
use Rattle.reflect_server.specs.Rounds.{with_links}
use Rattle.host_server.specs.Links.{HostedLink, connections_of}
use Rattle.host_posts.specs.Posts.{PostHistory, hosted_in}
use Rattle.host_posts.specs.declared.posting.PostEnd.{PostEnd}
use Rattle.host_posts.specs.declared.posting.PostEnd.TheVariants.{Failed, WantOfMemory}

-- a share tells what a net tells, but for its calls
abbrev pub share_tells : {S L : Type 0} → OfShare S L → NetTells S L
share_tells s = record {
  coming = s.coming;
  over = s.over;
  asked = λ share. None;
  faults = s.faults;
  lent = s.lent;
  link_counts = s.link_counts;
}

-- what a net tells that gives shares: what each share tells, and how many of them are out
pub record SharesTell (N S L : Type 0) : Type 0 where
  pub share : NetTells S L
  pub shared : N → ℕ

abbrev pub shares_tell : {N S L : Type 0} → (N → ℕ) → OfShare S L → SharesTell N S L
shares_tell shared s = record { share = share_tells s; shared = shared }

-- nobody came to the share
pub record HasWaited {S L : Type 0} (tells : NetTells S L) (before now : S) : Type 0 where
  pub coming : tells.coming now ≡ tells.coming before
  pub over : tells.over now ≡ tells.over before
  pub lent : tells.lent now ≡ tells.lent before
  pub counts : tells.link_counts now ≡ tells.link_counts before
  pub faults : tells.faults before ≤ tells.faults now

-- it gave a link
pub record HasGivenLink {S L : Type 0} (tells : NetTells S L) (links : LinksTell L) (before now : S) (link : L) : Type 0 where
  pub coming : TakesFirst (tells.coming before) (tells.coming now) link
  pub new : links.counts link ≡ no_counts
  pub over : tells.over now ≡ tells.over before
  pub lent : tells.lent now ≡ tells.lent before + 1
  pub counts : tells.link_counts now ≡ tells.link_counts before
  pub faults : tells.faults now ≡ tells.faults before

-- why a post ends, by why its share gave no link
abbrev pub end_of : NetFault → PostEnd
end_of fault.Failed = Failed
end_of fault.WantOfMemory = WantOfMemory

-- a share of this net that has given no link
pub record IsUnused {N S L : Type 0} (tells : NetTells N L) (shares : NetTells S L) (net : N) (share : S) : Type 0 where
  pub over : shares.over share ≡ none_of (tells.over net)
  pub faults : shares.faults share ≡ 0
  pub lent : shares.lent share ≡ 0
  pub counts : shares.link_counts share ≡ no_counts

-- A share of this net, which was unused when its post began. It gave the links that the post has served, in order, and they were given back in that order.
-- So often its calls have failed.
pub record IsShareOf {N S L : Type 0} (tells : NetTells N L) (shares : NetTells S L) (links : LinksTell L) (net : N) (post : PostHistory L) : Type 0 where
  pub start : S
  pub last : S
  pub unused : IsUnused tells shares net start
  pub returned : ReturnsLinks shares links start last (connections_of post.hosted)
  pub faults : shares.faults last ≡ post.faults

-- ---- back at the net

-- a count of faults behind those of shares that came back
abbrev pub with_faults : {L : Type 0} → ℕ → List (PostHistory L) → ℕ
with_faults sum [] = sum
with_faults sum (post ∷ posts) = with_faults (sum_of sum post.faults) posts

-- the sums of counts that a share brings back
abbrev pub counts_in : {L : Type 0} → (L → Counts) → List (HostedLink L) → Counts
counts_in counts hosted = with_links counts no_counts (returned_links (connections_of hosted))

-- the sums of counts behind those of shares that came back
abbrev pub with_shares : {L : Type 0} → (L → Counts) → Counts → List (PostHistory L) → Counts
with_shares counts sum [] = sum
with_shares counts sum (post ∷ posts) = with_shares counts (plus sum (counts_in counts post.hosted)) posts

-- What the shares of posts brought back to the net: the links that came back to each, in order, those of one share after those of the other, and what
-- they have counted. Of its own the net has given no link.
pub record HasShares {N L : Type 0} (tells : NetTells N L) (links : LinksTell L) (before now : N) (posts : List (PostHistory L)) : Type 0 where
  pub coming : tells.coming now ≡ tells.coming before
  pub asked : tells.asked now ≡ tells.asked before
  pub over : tells.over now ≡ with_more (tells.over before) (returned_links (connections_of (hosted_in posts)))
  pub lent : tells.lent now ≡ tells.lent before
  pub counts : tells.link_counts now ≡ with_shares links.counts (tells.link_counts before) posts
  pub faults : tells.faults now ≡ with_faults (tells.faults before) posts
