-- What a net in memory tells, what its calls answer, and what they leave.
use Rattle.std.specs.Prelude.{◌≡◌, ℕ, ◌+◌, List, [], ◌∷◌, ◌++◌, Result, Ok, Err}
use Rattle.std.specs.Prelude.{if◌then◌else◌}
use Rattle.tea_io.specs.declared.net.NetCall.{NetCall}
use Rattle.tea_io.specs.declared.net.NetFault.{NetFault}
use Rattle.tea_io.specs.declared.net.NetFault.TheVariants.{Failed, WantOfMemory}
use Rattle.tea_io.specs.Told.{count_up}
use Rattle.tea_io.specs.Links.{Counts, no_counts}
use Rattle.tea_io.specs.Calls.{fails_at}
use Rattle.tea_io.specs.MemLink.{MemLinkState}

-- a net in memory: the links to come, those that were given back, the calls so far; which calls
-- fail by their numbers, and the number of the next; how many failed; how many links are out; and
-- the sums of the counts of those that were given back
pub record MemNetState : Type 0 where
  pub coming : List MemLinkState
  pub over : List MemLinkState
  pub asked : List NetCall
  pub failing : List ℕ
  pub next_call : ℕ
  pub faults : ℕ
  pub lent : ℕ
  pub link_counts : Counts

-- all counts of this link are 0
abbrev pub HasNoCounts : MemLinkState → Type 0
HasNoCounts link = link.counts ≡ no_counts

-- what a call answers that makes no link
abbrev pub listen_answer : MemNetState → Result (Unit {0}) NetFault
listen_answer net = if fails_at net.failing net.next_call then Err Failed else Ok tt

-- the first of the links to come
abbrev pub first_link : List MemLinkState → Result MemLinkState NetFault
first_link [] = Err Failed
first_link (link ∷ links) = Ok link

-- what a call answers that makes a link
abbrev pub link_answer : MemNetState → Result MemLinkState NetFault
link_answer net =
    if fails_at net.failing net.next_call then Err Failed else first_link net.coming

-- the links without the first
abbrev pub links_behind_first : List MemLinkState → List MemLinkState
links_behind_first [] = []
links_behind_first (link ∷ links) = links

-- a call more was made
abbrev pub net_with_call : MemNetState → NetCall → MemNetState
net_with_call net call =
    record net { asked = net.asked ++ call ∷ []; next_call = count_up net.next_call }

-- what a call leaves whose success changes the net so
abbrev pub net_after
    : {T : Type 0} → (MemNetState → MemNetState) → Result T NetFault → MemNetState → NetCall
    → MemNetState
net_after change (Ok value) net call = change (net_with_call net call)
net_after change (Err Failed) net call = record (net_with_call net call) { faults = count_up net.faults }
net_after change (Err WantOfMemory) net call = net

-- one that listens changes nothing more
abbrev pub same_net : MemNetState → MemNetState
same_net net = net

-- one that gives a link has one more out
abbrev pub without_first : MemNetState → MemNetState
without_first net = record net { coming = links_behind_first net.coming; lent = net.lent + 1 }
