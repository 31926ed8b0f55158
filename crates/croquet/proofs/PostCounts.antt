-- The faults that shares of a net bring back to it.
use Rattle.std.proofs.Common.{◌≡◌, ◌⊎◌, inl, inr, ℕ, ◌+◌, ◌-◌, ◌^◌, ◌≤◌, ◌<◌, ◌||◌, Bool, true, false, suc, List, [], ◌∷◌, length, refl, sym, subst, arith}
use Rattle.std.specs.Prelude.{min}
use Rattle.std.proofs.lemmas.Bool.{cases_lt}
use Rattle.tea_io.specs.Told.{Rose, count_up}
use Rattle.tea_io.specs.Nets.{sum_of}
use Rattle.run_steps.specs.Outside.{LinksTell, NetTells}
use Rattle.reflect_server.specs.Rounds.{CountsStop}
use Rattle.host_server.specs.Rows.{AtEach}
use Rattle.host_posts.specs.Hosts.{HasSharesSince}
use Rattle.host_posts.specs.Posts.{EndsBy, IsPost, PostHistory}
use Rattle.host_posts.specs.Shares.{with_faults}
use Rattle.host_posts.specs.declared.posting.PostEnd.{PostEnd}
use Rattle.host_posts.specs.declared.posting.PostEnd.TheVariants as post_end
use Rattle.host_posts.specs.declared.posting.PostOutcome.{PostOutcome}
use Rattle.command_posts.specs.PostsEnded.{has_end, is_failed, is_want, posts_fault}

-- ---- sums that stay at a last value

up_by_some : (last least sum more : ℕ) → least ≤ min (sum + 1) last → 0 < more → least ≤ min (sum + more) last
up_by_some last least sum more up some = omega arith

up_by_any : (last least sum more : ℕ) → least ≤ min (sum + 1) last → least ≤ min (min (sum + more) last + 1) last
up_by_any last least sum more up = omega arith

first_fault : (last more : ℕ) → 1 ≤ last → min (0 + 1) last ≤ more → 0 < more
first_fault last more some up = omega (arith, some, up)

still : (last least sum more : ℕ) → least ≤ last → least ≤ sum → least ≤ min (sum + more) last
still last least sum more small below = omega arith

-- what is below a count and its last value is below what shares add to it
least_of : {L : Type 0} (least sum : ℕ) (posts : List (PostHistory L)) → least ≤ 2 ^ 64 - 1 → least ≤ sum → least ≤ with_faults sum posts
least_of least sum [] small below = below
least_of least sum (post ∷ posts) small below = least_of least (sum_of sum post.faults) posts small (still (2 ^ 64 - 1) least sum post.faults small below)

within_last : (last least sum : ℕ) → least ≤ min (sum + 1) last → least ≤ last
within_last last least sum up = omega arith

-- ---- a share that has failed

failed_first : (end : PostEnd) (later : Bool) → (is_failed end || later) ≡ true → (end ≡ post_end.Failed) ⊎ (later ≡ true)
failed_first post_end.Stopped later some = inr some
failed_first post_end.Failed later some = inl refl
failed_first post_end.WantOfMemory later some = inr some
failed_first post_end.Spent later some = inr some

module _ (may : Type 0) {L : Type 0} where
  next_posts : (post : PostHistory L) (posts : List (PostHistory L)) (outcome : PostOutcome) (outcomes : List PostOutcome) → AtEach (IsPost may) (post ∷ posts) (outcome ∷ outcomes) → AtEach (IsPost may) posts outcomes
  next_posts post posts outcome outcomes each = record { as_long = omega (arith, each.as_long); each = λ place p o here there. each.each (suc place) p o here there }

  -- it has added to the count
  rose_by : (least sum : ℕ) (posts : List (PostHistory L)) (outcomes : List PostOutcome) → AtEach (IsPost may) posts outcomes → has_end is_failed outcomes ≡ true → least ≤ min (sum + 1) (2 ^ 64 - 1) → least ≤ with_faults sum posts
  rose_by least sum posts [] each failed up =
      let never : false ≡ true = failed in
      absurd cc
  rose_by least sum [] (outcome ∷ outcomes) each failed up = absurd (omega (arith, each.as_long))
  rose_by least sum (post ∷ posts) (outcome ∷ outcomes) each failed up =
      elim (failed_first outcome.end (has_end is_failed outcomes) failed) [
        | inl here ↦
            (let is : IsPost may post outcome = each.each 0 post outcome refl refl in
            let rose : Rose 0 post.faults = subst (λ (end : PostEnd). EndsBy may (length post.hosted) 0 post.faults end) here is.ended in
            let some = first_fault (2 ^ 64 - 1) post.faults (omega arith) rose in
            least_of least (sum_of sum post.faults) posts (within_last (2 ^ 64 - 1) least sum up) (up_by_some (2 ^ 64 - 1) least sum post.faults up some))
        | inr later ↦ rose_by least (sum_of sum post.faults) posts outcomes (next_posts post posts outcome outcomes each) later (up_by_any (2 ^ 64 - 1) least sum post.faults up)
      ]

-- ---- the net

above_last : (last before now : ℕ) → min before last ≤ now → (before ≤ now) ⊎ (min (before + 1) last ≤ now)
above_last last before now least =
    elim (cases_lt last before) [
      | inl above ↦ inr (omega (arith, above, least))
      | inr below ↦ inl (omega (arith, below, least))
    ]

up_to : (last before since : ℕ) → before ≤ since → min (before + 1) last ≤ min (since + 1) last
up_to last before since later = omega arith

least_before : (last before since : ℕ) → before ≤ since → min before last ≤ since
least_before last before since later = omega arith

least_last : (last before : ℕ) → min before last ≤ last
least_last last before = omega arith

module _ {N L : Type 0} (tells : NetTells N L) (links : LinksTell L) (before now : N) (posts : List (PostHistory L)) (net : HasSharesSince tells links before now posts) where
  -- its count has not sunk, or has risen
  pub sunk_or_rose : (tells.faults before ≤ tells.faults now) ⊎ Rose (tells.faults before) (tells.faults now)
  sunk_or_rose =
      let least = least_of (min (tells.faults before) (2 ^ 64 - 1)) (tells.faults net.since) posts (least_last (2 ^ 64 - 1) (tells.faults before)) (least_before (2 ^ 64 - 1) (tells.faults before) (tells.faults net.since) net.none.faults) in
      above_last (2 ^ 64 - 1) (tells.faults before) (tells.faults now) (subst (λ (faults : ℕ). min (tells.faults before) (2 ^ 64 - 1) ≤ faults) (sym net.back.faults) least)

  -- it has risen where a post has failed
  rose_where : (may : Type 0) (outcomes : List PostOutcome) → AtEach (IsPost may) posts outcomes → has_end is_failed outcomes ≡ true → Rose (tells.faults before) (tells.faults now)
  rose_where may outcomes each failed =
      subst (λ (faults : ℕ). count_up (tells.faults before) ≤ faults) (sym net.back.faults)
      (rose_by may (count_up (tells.faults before)) (tells.faults net.since) posts outcomes each failed (up_to (2 ^ 64 - 1) (tells.faults before) (tells.faults net.since) net.none.faults))

  counts_so : (may : Type 0) (outcomes : List PostOutcome) → AtEach (IsPost may) posts outcomes → (failed : Bool) → has_end is_failed outcomes ≡ failed → (wants : Bool) → has_end is_want outcomes ≡ wants
      → CountsStop (tells.faults before) (tells.faults now) (posts_fault outcomes) ⊎ Rose (tells.faults before) (tells.faults now)
  counts_so may outcomes each true failed wants wanted = inr (rose_where may outcomes each failed)
  counts_so may outcomes each false failed true wanted = rw (failed, wanted) sunk_or_rose
  counts_so may outcomes each false failed false wanted = rw (failed, wanted) sunk_or_rose

  -- the count is as the fault of the posts says, or has risen
  pub counts_posts : (may : Type 0) (outcomes : List PostOutcome) → AtEach (IsPost may) posts outcomes
      → CountsStop (tells.faults before) (tells.faults now) (posts_fault outcomes) ⊎ Rose (tells.faults before) (tells.faults now)
  counts_posts may outcomes each = counts_so may outcomes each (has_end is_failed outcomes) refl (has_end is_want outcomes) refl
