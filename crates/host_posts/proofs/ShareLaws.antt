-- Shares that are given out, and that come back unused.
use Rattle.std.proofs.Common.{◌≡◌, ℕ, zero, suc, ◌+◌, ◌-◌, ◌^◌, ◌≤◌, min, All, List, [], ◌∷◌, ◌++◌, replicate, Some, Err, add-one, refl, sym, ap, ◌∙◌, subst, arith}
use Rattle.std.specs.Option.{option_to_list}
use Rattle.std.proofs.lemmas.List.Elements.{All-pop, All-push}
use Rattle.tea_io.specs.Told.{Rose}
use Rattle.tea_io.specs.Nets.{NetCause, sum_of}
use Rattle.tea_io.specs.declared.net.NetFault.{NetFault}
use Rattle.tea_io.specs.declared.net.NetFault.TheVariants as fault
use Rattle.run_steps.specs.Outside.{LinksTell, NetTells}
use Rattle.net_shares.specs.Shares.{none_of}
use Rattle.connection.proofs.Talking.{with_more_none}
use Rattle.host_posts.specs.Hosts.{HasGivenNone, idle_post}
use Rattle.host_posts.specs.Passes.{IsPostRow}
use Rattle.host_posts.specs.Counts.{no_ends}
use Rattle.host_posts.specs.Posts.{PostHistory}
use Rattle.host_posts.specs.Rounds.{IsNewPost, TakesShare}
use Rattle.host_server.specs.declared.rooms.Row.{Row}
use Rattle.host_posts.specs.declared.post.Post.{Post}
use Rattle.host_posts.specs.Shares.{HasShares, HasWaited, IsShareOf, IsUnused, with_faults}
use Rattle.host_posts.proofs.RoundLaws.{shares_more}

-- ---- a share that waits

pub waited_none : {S L : Type 0} (tells : NetTells S L) (share : S) → HasWaited tells share share
waited_none tells share = record { coming = refl; over = refl; lent = refl; counts = refl; faults = omega arith }

pub waited_more : {S L : Type 0} (tells : NetTells S L) (before mid now : S) → HasWaited tells before mid → HasWaited tells mid now → HasWaited tells before now
waited_more tells before mid now first then = record {
  coming = then.coming ∙ first.coming;
  over = then.over ∙ first.over;
  lent = then.lent ∙ first.lent;
  counts = then.counts ∙ first.counts;
  faults = let a = first.faults in let b = then.faults in omega (arith, a, b);
}

-- ---- a net that gives no link

pub given_none : {N L : Type 0} (tells : NetTells N L) (net : N) → HasGivenNone tells net net
given_none tells net = record { coming = refl; over = refl; lent = refl; counts = refl; faults = omega arith }

pub given_more : {N L : Type 0} (tells : NetTells N L) (before mid now : N) → HasGivenNone tells before mid → HasGivenNone tells mid now → HasGivenNone tells before now
given_more tells before mid now first then = record {
  coming = then.coming ∙ first.coming;
  over = then.over ∙ first.over;
  lent = then.lent ∙ first.lent;
  counts = then.counts ∙ first.counts;
  faults = let a = first.faults in let b = then.faults in omega (arith, a, b);
}

-- ---- shares that come back unused

replicate_next : {A : Type 0} (count : ℕ) (x : A) → replicate count x ++ x ∷ [] ≡ replicate (suc count) x
replicate_next zero x = refl
replicate_next (suc count) x = ap (λ (l : List _). x ∷ l) (replicate_next count x)

replicate_push : {A : Type 0} (count : ℕ) (x : A) → replicate count x ++ x ∷ [] ≡ replicate (count + 1) x
replicate_push count x = replicate_next count x ∙ ap (λ (n : ℕ). replicate n x) (sym (add-one count))

pub back_more : {N S L : Type 0} (tells : NetTells N L) (links : LinksTell L) (shares : NetTells S L) (before mid now : N) (share : S) (count : ℕ) → HasShares tells links before mid (replicate count idle_post)
    → IsUnused tells shares before share → TakesShare tells shares share mid now → HasShares tells links before now (replicate (count + 1) idle_post)
back_more tells links shares before mid now share count had unused takes =
    subst (HasShares tells links before now) (replicate_push count idle_post)
    (subst (λ (n : ℕ). HasShares tells links before now (replicate count idle_post ++ record { hosted = []; faults = n } ∷ [])) unused.faults
    (shares_more tells links shares before mid now share (replicate count idle_post) [] had takes (unused.over ∙ sym (with_more_none (none_of (tells.over before)))) unused.counts))

-- a count of faults that has risen stays so
faults_stay : (L : Type 0) (low faults count : ℕ) → low ≤ 2 ^ 64 - 1 → low ≤ faults → low ≤ with_faults {L = L} faults (replicate count idle_post)
faults_stay L low faults zero few below = below
faults_stay L low faults (suc count) few below = faults_stay L low (sum_of faults 0) count few (omega (arith, few, below))

pub rose_stays : {N L T : Type 0} (tells : NetTells N L) (links : LinksTell L) (first before since now : N) (count : ℕ) (why : NetFault) → HasGivenNone tells first before → NetCause {T = T} (tells.faults before) (tells.faults since) (Err why)
    → HasShares tells links since now (replicate count idle_post) → why ≡ fault.Failed → Rose (tells.faults first) (tells.faults now)
rose_stays {L = L} tells links first before since now count why none cause back is =
    let risen : Rose (tells.faults before) (tells.faults since) = cause.failed (ap Err is) in
    let later = none.faults in
    subst (λ (n : ℕ). Rose (tells.faults first) n) (sym back.faults)
    (faults_stay L (min (tells.faults first + 1) (2 ^ 64 - 1)) (tells.faults since) count (omega arith) (omega (arith, later, risen)))

-- ---- shares that are given out

pub unused_still : {N S L : Type 0} (tells : NetTells N L) (shares : NetTells S L) (before now : N) (share : S) → tells.over now ≡ tells.over before → IsUnused tells shares before share → IsUnused tells shares now share
unused_still tells shares before now share same unused = record {
  over = unused.over ∙ ap none_of (sym same);
  faults = unused.faults;
  lent = unused.lent;
  counts = unused.counts;
}

-- shares of a net are shares of what it was before it told more of its links
pub shares_before : {N S L : Type 0} (tells : NetTells N L) (shares : NetTells S L) (links : LinksTell L) (before now : N) (posts : List (PostHistory L)) → tells.over now ≡ tells.over before
    → All (IsShareOf tells shares links now) posts → All (IsShareOf tells shares links before) posts
shares_before tells shares links before now posts same all place post within =
    let one = all place post within in
    record {
      start = one.start;
      last = one.last;
      unused = unused_still tells shares now before one.start (sym same) one.unused;
      returned = one.returned;
      faults = one.faults;
    }

pub unused_all : {N S L K : Type 0} (tells : NetTells N L) (shares : NetTells S L) (before now : N) (posts : List (Post S K)) → tells.over now ≡ tells.over before
    → All (λ post. IsUnused tells shares before post.share × (post.counts ≡ no_ends)) posts → All (λ post. IsUnused tells shares now post.share) posts
unused_all {K = K} tells shares before now posts same unused place post within = unused_still tells shares before now _ same (unused place post within).0

-- posts that have done nothing
pub new_all : {N S L K : Type 0} (tells : NetTells N L) (shares : NetTells S L) (before now : N) (lead : Row K) (posts : List (Post S K)) → tells.over now ≡ tells.over before
    → All (λ post. IsUnused tells shares before post.share × (post.counts ≡ no_ends)) posts → All (λ post. IsPostRow lead post.row) posts → All (IsNewPost tells shares now lead) posts
new_all tells shares before now lead posts same unused rows place post within = record {
  share = unused_still tells shares before now _ same (unused place post within).0;
  ends = (unused place post within).1;
  row = rows place post within;
}

pub pop_unused : {N S L K : Type 0} (tells : NetTells N L) (shares : NetTells S L) (net : N) (posts rest : List (Post S K)) (post : Post S K) → posts ≡ rest ++ option_to_list (Some post)
    → All (λ p. IsUnused tells shares net p.share) posts → All (λ p. IsUnused tells shares net p.share) rest × IsUnused tells shares net post.share
pop_unused {S = S} {K = K} tells shares net posts rest post is all = All-pop (λ (p : Post S K). IsUnused tells shares net p.share) posts rest (Some post) is all

pub unused_none : {N S L K : Type 0} (tells : NetTells N L) (shares : NetTells S L) (net : N) (posts : List (Post S K)) → posts ≡ [] → All (λ p. IsUnused tells shares net p.share × (p.counts ≡ no_ends)) posts
unused_none {S = S} {K = K} tells shares net posts none =
    subst (All (λ (p : Post S K). IsUnused tells shares net p.share × (p.counts ≡ no_ends))) (sym none) (λ place d within. absurd (omega (arith, within)))

pub unused_push : {N S L K : Type 0} (tells : NetTells N L) (shares : NetTells S L) (net : N) (posts now : List (Post S K)) (post : Post S K) → now ≡ posts ++ post ∷ []
    → All (λ p. IsUnused tells shares net p.share × (p.counts ≡ no_ends)) posts → IsUnused tells shares net post.share → post.counts ≡ no_ends → All (λ p. IsUnused tells shares net p.share × (p.counts ≡ no_ends)) now
unused_push {S = S} {K = K} tells shares net posts now post is all unused ends =
    let new = λ (p : Post S K). IsUnused tells shares net p.share × (p.counts ≡ no_ends) in
    subst (All new) (sym is) (All-push new posts post all (unused, ends))

pub rows_none : {S K : Type 0} (lead : Row K) (posts : List (Post S K)) → posts ≡ [] → All (λ p. IsPostRow lead p.row) posts
rows_none {S} {K} lead posts none = subst (All (λ (p : Post S K). IsPostRow lead p.row)) (sym none) (λ place d within. absurd (omega (arith, within)))

pub rows_push : {S K : Type 0} (lead : Row K) (posts now : List (Post S K)) (post : Post S K) → now ≡ posts ++ post ∷ [] → All (λ p. IsPostRow lead p.row) posts → IsPostRow lead post.row → All (λ p. IsPostRow lead p.row) now
rows_push {S} {K} lead posts now post is all row =
    subst (All (λ (p : Post S K). IsPostRow lead p.row)) (sym is) (All-push (λ (p : Post S K). IsPostRow lead p.row) posts post all row)
