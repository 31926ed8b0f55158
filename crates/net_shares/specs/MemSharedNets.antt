-- What a net in memory tells that gives shares, what it answers, and what it leaves.
use Rattle.std.specs.Prelude.{ℕ, ◌+◌, ◌-◌, List, [], ◌∷◌, ◌++◌, Result, Ok, Err, if◌then◌else◌}
use Rattle.tea_io.specs.Told.{count_up}
use Rattle.tea_io.specs.Links.{no_counts}
use Rattle.tea_io.specs.Nets.{plus, sum_of}
use Rattle.tea_io.specs.Calls.{fails_at}
use Rattle.tea_io.specs.MemLink.{MemLinkState}
use Rattle.tea_io.specs.MemNet.{MemNetState}
use Rattle.tea_io.specs.declared.net.NetFault.{NetFault}
use Rattle.tea_io.specs.declared.net.NetFault.TheVariants.{Failed, WantOfMemory}
use Rattle.net_shares.specs.MemShares.{MemShareState, share_of}
use Rattle.net_shares.specs.declared.plan.SharePlan.{SharePlan}
use Rattle.net_shares.specs.declared.returned.Returned.{Returned}
use Rattle.net_shares.specs.declared.returned.Returned.TheVariants.{Link, Share}

-- a net in memory, the plans of the shares to come, and how many shares are out
pub record MemSharedNetState : Type 0 where
  pub net : MemNetState
  pub plans : List SharePlan
  pub shared : ℕ

-- the links that were given back: those of a share where it was given back
abbrev pub over_of : List Returned → List MemLinkState
over_of [] = []
over_of (Link link ∷ rest) = link ∷ over_of rest
over_of (Share share ∷ rest) = share.over ++ over_of rest

-- one that was asked nothing
abbrev pub shared_net_of : List MemLinkState → List SharePlan → List ℕ → MemSharedNetState
shared_net_of coming plans failing = record {
  net = record {
    coming = coming;
    over = [];
    asked = [];
    failing = failing;
    next_call = 1;
    faults = 0;
    lent = 0;
    link_counts = no_counts;
  };
  plans = plans;
  shared = 0;
}

-- its net has changed, and no share was given
abbrev pub with_net : MemNetState → MemSharedNetState → MemSharedNetState
with_net net shared = record shared { net = net }

-- a link was given back
abbrev pub net_with_back : MemLinkState → MemNetState → MemNetState
net_with_back link net = record net {
  over = net.over ++ link ∷ [];
  lent = net.lent - 1;
  link_counts = plus net.link_counts link.counts;
}

-- a share by the first of the plans
abbrev pub first_share : List SharePlan → Result MemShareState NetFault
first_share [] = Err Failed
first_share (plan ∷ plans) = Ok (share_of plan)

abbrev pub plans_behind_first : List SharePlan → List SharePlan
plans_behind_first [] = []
plans_behind_first (plan ∷ plans) = plans

-- what a call answers that makes a share
abbrev pub share_answer : MemSharedNetState → Result MemShareState NetFault
share_answer shared =
    if fails_at shared.net.failing shared.net.next_call then Err Failed else first_share shared.plans

-- a call more was made that is not among those that listen, accept or connect
abbrev pub call_made : MemNetState → MemNetState
call_made net = record net { next_call = count_up net.next_call }

-- what a call leaves that makes a share
abbrev pub after_share : {T : Type 0} → Result T NetFault → MemSharedNetState → MemSharedNetState
after_share (Ok part) shared = record {
  net = call_made shared.net;
  plans = plans_behind_first shared.plans;
  shared = shared.shared + 1;
}
after_share (Err Failed) shared = with_net (record (call_made shared.net) { faults = count_up shared.net.faults }) shared
after_share (Err WantOfMemory) shared = shared

-- a share was given back
abbrev pub after_rejoin : MemShareState → MemSharedNetState → MemSharedNetState
after_rejoin part shared = record shared {
  net = record (shared.net) {
    over = shared.net.over ++ part.over;
    faults = sum_of shared.net.faults part.faults;
    link_counts = plus shared.net.link_counts part.link_counts;
  };
  shared = shared.shared - 1;
}
