-- What a share in memory tells, what its accepts answer, and what they leave.
use Rattle.std.specs.Prelude.{ℕ, ◌+◌, ◌-◌, List, [], ◌∷◌, ◌++◌, Option, Some, None, Result, Ok, Err, if◌then◌else◌}
use Rattle.tea_io.specs.Told.{count_up}
use Rattle.tea_io.specs.Links.{Counts, no_counts}
use Rattle.tea_io.specs.Nets.{plus}
use Rattle.tea_io.specs.Calls.{fails_at}
use Rattle.tea_io.specs.MemLink.{MemLinkState}
use Rattle.tea_io.specs.MemNet.{links_behind_first}
use Rattle.tea_io.specs.declared.net.NetFault.{NetFault}
use Rattle.tea_io.specs.declared.net.NetFault.TheVariants.{Failed, WantOfMemory}
use Rattle.net_shares.specs.declared.plan.SharePlan.{SharePlan}

-- a share in memory: the links to come, and those that were given back; which accepts fail and at which nobody comes, by their numbers, and the number of
-- the next; how many failed; how many links are out; and the sums of the counts of those that were given back
pub record MemShareState : Type 0 where
  pub coming : List MemLinkState
  pub over : List MemLinkState
  pub failing : List ℕ
  pub quiet : List ℕ
  pub next_call : ℕ
  pub faults : ℕ
  pub lent : ℕ
  pub link_counts : Counts

-- one by this plan, which has given no link
abbrev pub share_of : SharePlan → MemShareState
share_of plan = record {
  coming = plan.links;
  over = [];
  failing = plan.fail;
  quiet = plan.quiet;
  next_call = 1;
  faults = 0;
  lent = 0;
  link_counts = no_counts;
}

-- the first of the links to come, or nobody
abbrev pub first_come : List MemLinkState → Option MemLinkState
first_come [] = None
first_come (link ∷ links) = Some link

-- what an accept answers
abbrev pub accept_answer : MemShareState → Result (Option MemLinkState) NetFault
accept_answer share =
    if fails_at share.failing share.next_call then Err Failed
    else if fails_at share.quiet share.next_call then Ok None
    else Ok (first_come share.coming)

-- an accept more was made
abbrev pub accept_made : MemShareState → MemShareState
accept_made share = record share { next_call = count_up share.next_call }

-- what an accept leaves
abbrev pub after_accept : Result (Option MemLinkState) NetFault → MemShareState → MemShareState
after_accept (Ok (Some link)) share =
    record (accept_made share) { coming = links_behind_first share.coming; lent = share.lent + 1 }
after_accept (Ok None) share = accept_made share
after_accept (Err Failed) share = record (accept_made share) { faults = count_up share.faults }
after_accept (Err WantOfMemory) share = share

-- a link was given back
abbrev pub share_with_back : MemLinkState → MemShareState → MemShareState
share_with_back link share = record share {
  over = share.over ++ link ∷ [];
  lent = share.lent - 1;
  link_counts = plus share.link_counts link.counts;
}
