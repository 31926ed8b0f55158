-- What is done to a net: links are accepted, served and given back.
use Rattle.std.specs.Prelude.{◌≡◌, ◌⊎◌, ℕ, ◌+◌, ◌≤◌, ◌<◌, List, [], ◌∷◌, ◌++◌, length, map, reverse, Option, Some, None}
use Rattle.tea_base.specs.declared.entry.SessionId.{SessionId}
use Rattle.tea_io.specs.Told.{with_more, Rose}
use Rattle.tea_io.specs.Links.{Counts}
use Rattle.tea_io.specs.Nets.{plus}
use Rattle.tea_io.specs.declared.net.NetCall.{NetCall}
use Rattle.tea_io.specs.declared.net.NetCall.TheVariants.{Accept}
use Rattle.tea_io.specs.declared.net.NetFault.{NetFault}
use Rattle.tea_io.specs.declared.net.NetFault.TheVariants.{Failed, WantOfMemory}
use Rattle.run_steps.specs.Outside.{LinksTell, NetTells}
use Rattle.session_lock.specs.Passes.{PassState, caller}
use Rattle.connection.specs.declared.ending.Ended.{Ended}
use Rattle.connection.specs.Causes.{EndsExactly, IsCauseCounted}
use Rattle.connection.specs.Exchanges.{exchanges_in}
use Rattle.connection.specs.Talk.{HasTalked}
use Rattle.reflect_server.specs.declared.accepting.ServedLink.{ServedLink}
use Rattle.reflect_server.specs.declared.accepting.Round.{Round}
use Rattle.reflect_server.specs.Connections.{ServedConnection, account_in, accepted_links}
use Rattle.reflect_server.specs.Passes.{Gathers}

-- ---- the net

-- these are the first of what is told to come, and the rest is still to come; what is not told stays so
abbrev pub TakesAll : {A : Type 0} → Option (List A) → Option (List A) → List A → Type 0
TakesAll None now taken = now ≡ None
TakesAll (Some told) now taken = (rest : _) × (told ≡ taken ++ rest) × (now ≡ Some rest)

-- an accept for each link
abbrev pub accepts : {L : Type 0} → List L → List NetCall
accepts links = map (λ link. Accept) links

-- and one more, which gave no link
abbrev pub accepts_more : {L : Type 0} → List L → List NetCall
accepts_more links = accepts links ++ Accept ∷ []

-- the calls that were made; one at which memory was wanted may be missing
abbrev pub AsksAccepts : {L : Type 0} → Option (List NetCall) → Option (List NetCall) → List L → Option NetFault
    → Type 0
AsksAccepts before now links None = now ≡ with_more before (accepts links)
AsksAccepts before now links (Some Failed) = now ≡ with_more before (accepts_more links)
AsksAccepts before now links (Some WantOfMemory) =
    (now ≡ with_more before (accepts links)) ⊎ (now ≡ with_more before (accepts_more links))

-- the count of faults rose where the net failed
abbrev pub CountsStop : ℕ → ℕ → Option NetFault → Type 0
CountsStop before now None = before ≤ now
CountsStop before now (Some Failed) = (before ≤ now) × Rose before now
CountsStop before now (Some WantOfMemory) = before ≤ now

-- as many were accepted as there were to be, or fewer
abbrev pub CountsLinks : ℕ → ℕ → Option NetFault → Type 0
CountsLinks links count None = links ≡ count
CountsLinks links count (Some fault) = links < count

-- links were accepted one after the other, and are out
pub record Accepts {N L : Type 0} (tells : NetTells N L) (before now : N) (links : List L)
    (stopped : Option NetFault) : Type 0 where
  pub coming : TakesAll (tells.coming before) (tells.coming now) links
  pub over : tells.over now ≡ tells.over before
  pub asked : AsksAccepts (tells.asked before) (tells.asked now) links stopped
  pub faults : CountsStop (tells.faults before) (tells.faults now) stopped
  pub lent : tells.lent now ≡ tells.lent before + length links
  pub counts : tells.link_counts now ≡ tells.link_counts before

-- the sums of counts behind those of links that came back
abbrev pub with_links : {L : Type 0} → (L → Counts) → Counts → List L → Counts
with_links counts sum [] = sum
with_links counts sum (link ∷ links) = with_links counts (plus sum (counts link)) links

-- ---- the links

-- how a link is served by a fresh pass
pub record Serves (gives : ℕ → Type 0) (id : SessionId) {L : Type 0} (links : LinksTell L) (before : PassState)
    (link : L) (pass : PassState) (one : ServedLink L) : Type 0 where
  pub kept : pass ≡ record before { seen = pass.seen }
  pub talk : HasTalked gives id pass (account_in links link) (account_in links one.link) one.ended
  pub exactly : EndsExactly one.ended (exchanges_in pass.opening pass.seen (caller pass))
  pub cause : IsCauseCounted (links.counts link) (links.counts one.link) one.ended

-- what a thread has of a connection that has ended
abbrev pub served_of : {L : Type 0} → ServedConnection L → ServedLink L
served_of one = record { link = one.returned; ended = one.ended }

-- those of connections, the last one first
abbrev pub served_back : {L : Type 0} → List (ServedConnection L) → List (ServedLink L)
served_back connections = reverse (map served_of connections)

abbrev pub links_of : {L : Type 0} → List (ServedLink L) → List L
links_of served = map (λ one. one.link) (reverse served)

abbrev pub ended_of : {L : Type 0} → List (ServedLink L) → List Ended
ended_of served = map (λ one. one.ended) (reverse served)

-- What comes of accepting so many links: those that were accepted, in order, each served to its end. Their passes are in the lead pass.
pub record GoesRound (gives : ℕ → Type 0) (id : SessionId) {N L K : Type 0} (tells : NetTells N L) (links : LinksTell L)
    (count : ℕ) (before now : Round N L K) : Type 0 where
  pub connections : List (ServedConnection L)
  pub net : Accepts tells before.net now.net (accepted_links connections) now.stopped
  pub passes : Gathers gives id links before.lead count connections now.lead
  pub served : now.served.items ≡ served_back connections
  pub number : CountsLinks (length connections) count now.stopped
