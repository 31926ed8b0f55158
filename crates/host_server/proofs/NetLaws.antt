-- What is done to a net, link by link.
use Rattle.std.proofs.Common.{◌≡◌, ◌⊎◌, inl, inr, ℕ, ◌+◌, ◌≤◌, List, [], ◌∷◌, Option, Some, None, Result, Ok, Err, refl, sym, ap, ◌∙◌, subst, arith}
use Rattle.tea_io.specs.Told.{with_more, TakesFirst}
use Rattle.tea_io.specs.Links.{Counts, no_counts}
use Rattle.tea_io.specs.Nets.{AsksNet, NetCause}
use Rattle.tea_io.specs.declared.net.NetCall.{NetCall}
use Rattle.tea_io.specs.declared.net.NetCall.TheVariants.{Accept, Listen}
use Rattle.tea_io.specs.declared.net.NetFault.{NetFault}
use Rattle.tea_io.specs.declared.net.NetFault.TheVariants.{Failed, WantOfMemory}
use Rattle.run_steps.specs.Outside.{LinksTell, NetTells}
use Rattle.connection.proofs.Talking.{with_more_none, with_more_twice}
use Rattle.reflect_server.specs.Connections.{ServedConnection, accepted_links, returned_links}
use Rattle.reflect_server.specs.Reflects.{AsksFor, ReturnsLinks}
use Rattle.reflect_server.specs.Rounds.{Accepts, AsksAccepts, CountsLinks, CountsStop, TakesAll, accepts, accepts_more, with_links}
use Rattle.reflect_server.proofs.RoundLaws.{takes_none, takes_same}

takes_more : {A : Type 0} (before mid now : Option (List A)) (first : A) (rest : List A) → TakesFirst before mid first → TakesAll mid now rest → TakesAll before now (first ∷ rest)
takes_more None mid now first rest one all = subst (λ (o : Option _). TakesAll o now rest) one all
takes_more (Some told) mid now first rest one all =
    let behind : TakesAll (Some one.0) now rest = subst (λ (o : Option _). TakesAll o now rest) one.2 all in
    (behind.0, one.1 ∙ ap (λ (l : List _). first ∷ l) behind.1, behind.2)

-- ---- calls

accept_first : (before mid now : Option (List NetCall)) (calls : List NetCall) → mid ≡ with_more before (Accept ∷ []) → now ≡ with_more mid calls → now ≡ with_more before (Accept ∷ calls)
accept_first before mid now calls one all =
    all ∙ (ap (λ (o : Option (List NetCall)). with_more o calls) one ∙ with_more_twice before (Accept ∷ []) calls)

asks_more : {L T : Type 0} (before mid now : Option (List NetCall)) (first : L) (rest : List L) (value : T) (stopped : Option NetFault)
    → AsksNet before mid Accept (Ok value) → AsksAccepts mid now rest stopped → AsksAccepts before now (first ∷ rest) stopped
asks_more before mid now first rest value None one all = accept_first before mid now (accepts rest) one all
asks_more before mid now first rest value (Some Failed) one all = accept_first before mid now (accepts_more rest) one all
asks_more before mid now first rest value (Some WantOfMemory) one (inl all) = inl (accept_first before mid now (accepts rest) one all)
asks_more before mid now first rest value (Some WantOfMemory) one (inr all) = inr (accept_first before mid now (accepts_more rest) one all)

counts_more : (before mid now : ℕ) (stopped : Option NetFault) → before ≤ mid → CountsStop mid now stopped → CountsStop before now stopped
counts_more before mid now None later counts = omega (arith, later, counts)
counts_more before mid now (Some Failed) later counts = (let first = counts.0 in omega (arith, later, first), let rose = counts.1 in omega (arith, later, rose))
counts_more before mid now (Some WantOfMemory) later counts = omega (arith, later, counts)

pub links_more : (links all count more : ℕ) (stopped : Option NetFault) → all ≡ links + 1 → more ≡ count + 1 → CountsLinks links count stopped → CountsLinks all more stopped
links_more links all count more None both is number = omega (arith, both, is, number)
links_more links all count more (Some fault) both is number = omega (arith, both, is, number)

asked_for : {L : Type 0} (before now : Option (List NetCall)) (accepted : List L) (stopped : Option NetFault) → AsksAccepts before now accepted stopped → AsksFor before now [] accepted stopped
asked_for before now accepted None asks = asks
asked_for before now accepted (Some Failed) asks = asks
asked_for before now accepted (Some WantOfMemory) asks = asks

pub asks_for : {L : Type 0} (before mid now : Option (List NetCall)) (accepted : List L) (stopped : Option NetFault) → now ≡ mid → AsksAccepts before mid accepted stopped → AsksFor before now [] accepted stopped
asks_for before mid now accepted stopped same asks = asked_for before now accepted stopped (subst (λ (o : Option (List NetCall)). AsksAccepts before o accepted stopped) (sym same) asks)

-- ---- links that are accepted

module _ {N L : Type 0} (tells : NetTells N L) (links : LinksTell L) where
  pub accepts_none : (net : N) → Accepts tells net net [] None
  accepts_none net = record {
    coming = takes_none (tells.coming net);
    over = refl;
    asked = sym (with_more_none (tells.asked net));
    faults = omega arith;
    lent = omega arith;
    counts = refl;
  }

  -- what an accept that gave no link leaves
  pub record Missed (before now : N) (fault : NetFault) : Type 0 where
    pub coming : tells.coming now ≡ tells.coming before
    pub over : tells.over now ≡ tells.over before
    pub lent : tells.lent now ≡ tells.lent before
    pub counts : tells.link_counts now ≡ tells.link_counts before
    pub asked : AsksNet {T = L} (tells.asked before) (tells.asked now) Accept (Err fault)
    pub cause : NetCause {T = L} (tells.faults before) (tells.faults now) (Err fault)

  stopped_asks : (before now : Option (List NetCall)) (fault : NetFault) → AsksNet {T = L} before now Accept (Err fault) → AsksAccepts {L = L} before now [] (Some fault)
  stopped_asks before now Failed asks = asks
  stopped_asks before now WantOfMemory (inl same) = inl (same ∙ sym (with_more_none before))
  stopped_asks before now WantOfMemory (inr more) = inr more

  stopped_counts : (before now : ℕ) (fault : NetFault) → NetCause {T = L} before now (Err fault) → CountsStop before now (Some fault)
  stopped_counts before now Failed cause = (cause.later, cause.failed refl)
  stopped_counts before now WantOfMemory cause = cause.later

  pub missed_accepts : (before now : N) (fault : NetFault) → Missed before now fault → Accepts tells before now [] (Some fault)
  missed_accepts before now fault missed = record {
    coming = takes_same (tells.coming before) (tells.coming now) missed.coming;
    over = missed.over;
    asked = stopped_asks (tells.asked before) (tells.asked now) fault missed.asked;
    faults = stopped_counts (tells.faults before) (tells.faults now) fault missed.cause;
    lent = let same = missed.lent in omega (arith, same);
    counts = missed.counts;
  }

  -- and one that gave this link
  pub record Gave (before now : N) (link : L) : Type 0 where
    pub coming : TakesFirst (tells.coming before) (tells.coming now) link
    pub new : links.counts link ≡ no_counts
    pub over : tells.over now ≡ tells.over before
    pub lent : tells.lent now ≡ tells.lent before + 1
    pub counts : tells.link_counts now ≡ tells.link_counts before
    pub asked : AsksNet (tells.asked before) (tells.asked now) Accept (Ok link)
    pub cause : NetCause (tells.faults before) (tells.faults now) (Ok link)

  pub gave_accepts : (before mid now : N) (first : L) (rest : List L) (stopped : Option NetFault) → Gave before mid first → Accepts tells mid now rest stopped → Accepts tells before now (first ∷ rest) stopped
  gave_accepts before mid now first rest stopped gave all = record {
    coming = takes_more (tells.coming before) (tells.coming mid) (tells.coming now) first rest gave.coming all.coming;
    over = all.over ∙ gave.over;
    asked = asks_more (tells.asked before) (tells.asked mid) (tells.asked now) first rest first stopped gave.asked all.asked;
    faults = counts_more (tells.faults before) (tells.faults mid) (tells.faults now) stopped gave.cause.later all.faults;
    lent = let one = gave.lent in let rest_lent = all.lent in omega (arith, one, rest_lent);
    counts = all.counts ∙ gave.counts;
  }

-- ---- a net that listens first

listen_asks : {T : Type 0} (address : List ℕ) (before now : Option (List NetCall)) (result : Result T NetFault) → AsksNet before now (Listen address) result → (now ≡ before) ⊎ (now ≡ with_more before (Listen address ∷ []))
listen_asks address before now (Ok value) more = inr more
listen_asks address before now (Err Failed) more = inr more
listen_asks address before now (Err WantOfMemory) asks = asks

listen_first : (address : List ℕ) (before mid now : Option (List NetCall)) (calls : List NetCall) → mid ≡ with_more before (Listen address ∷ []) → now ≡ with_more mid calls → now ≡ with_more before (Listen address ∷ calls)
listen_first address before mid now calls one all =
    all ∙ (ap (λ (o : Option (List NetCall)). with_more o calls) one ∙ with_more_twice before (Listen address ∷ []) calls)

asks_behind : {L : Type 0} (address : List ℕ) (before mid now : Option (List NetCall)) (accepted : List L) (stopped : Option NetFault) → mid ≡ with_more before (Listen address ∷ []) → AsksFor mid now [] accepted stopped
    → AsksFor before now (Listen address ∷ []) accepted stopped
asks_behind address before mid now accepted None one all = listen_first address before mid now (accepts accepted) one all
asks_behind address before mid now accepted (Some Failed) one all = listen_first address before mid now (accepts_more accepted) one all
asks_behind address before mid now accepted (Some WantOfMemory) one (inl all) = inl (listen_first address before mid now (accepts accepted) one all)
asks_behind address before mid now accepted (Some WantOfMemory) one (inr all) = inr (listen_first address before mid now (accepts_more accepted) one all)

module _ {N L : Type 0} (tells : NetTells N L) (links : LinksTell L) where
  -- the net listens, or fails to
  pub record Listens {T : Type 0} (address : List ℕ) (result : Result T NetFault) (before now : N) : Type 0 where
    pub coming : tells.coming now ≡ tells.coming before
    pub over : tells.over now ≡ tells.over before
    pub lent : tells.lent now ≡ tells.lent before
    pub counts : tells.link_counts now ≡ tells.link_counts before
    pub asked : AsksNet (tells.asked before) (tells.asked now) (Listen address) result
    pub cause : NetCause (tells.faults before) (tells.faults now) result

  pub nothing_back : (before now : N) → tells.coming now ≡ tells.coming before → tells.over now ≡ tells.over before → tells.lent now ≡ tells.lent before → tells.link_counts now ≡ tells.link_counts before → ReturnsLinks tells links before now []
  nothing_back before now coming over lent counts = record {
    coming = takes_same (tells.coming before) (tells.coming now) coming;
    over = over ∙ sym (with_more_none (tells.over before));
    lent = lent;
    counts = counts;
  }

  module _ {T : Type 0} (address : List ℕ) (value : T) (before mid now : N) (listens : Listens address (Ok value) before mid) where
    pub returns_behind : (connections : List (ServedConnection L)) → ReturnsLinks tells links mid now connections → ReturnsLinks tells links before now connections
    returns_behind connections back = record {
      coming = subst (λ (o : Option (List L)). TakesAll o (tells.coming now) (accepted_links connections)) listens.coming back.coming;
      over = back.over ∙ ap (λ (o : Option (List L)). with_more o (returned_links connections)) listens.over;
      lent = back.lent ∙ listens.lent;
      counts = back.counts ∙ ap (λ (c : Counts). with_links links.counts c (returned_links connections)) listens.counts;
    }

    pub asked_behind : (accepted : List L) (stopped : Option NetFault) → AsksFor (tells.asked mid) (tells.asked now) [] accepted stopped → AsksFor (tells.asked before) (tells.asked now) (Listen address ∷ []) accepted stopped
    asked_behind accepted stopped asks = asks_behind address (tells.asked before) (tells.asked mid) (tells.asked now) accepted stopped listens.asked asks

    pub counted_behind : (stopped : Option NetFault) → CountsStop (tells.faults mid) (tells.faults now) stopped → CountsStop (tells.faults before) (tells.faults now) stopped
    counted_behind stopped counts = counts_more (tells.faults before) (tells.faults mid) (tells.faults now) stopped listens.cause.later counts

  pub asked_at_most : {T : Type 0} (address : List ℕ) (result : Result T NetFault) (before now : N) → Listens address result before now → (tells.asked now ≡ tells.asked before) ⊎ (tells.asked now ≡ with_more (tells.asked before) (Listen address ∷ []))
  asked_at_most address result before now listens = listen_asks address (tells.asked before) (tells.asked now) result listens.asked
