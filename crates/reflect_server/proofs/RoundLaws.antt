-- Rounds: none that is left, one that is stopped, and one link more.
use Rattle.std.proofs.Common.{◌≡◌, inl, inr, ℕ, ◌+◌, ◌≤◌, ◌<◌, true, eqb, List, [], ◌∷◌, ◌++◌, length, map, Option, Some, None, Ok, Err, refl, sym, ap, ◌∙◌, subst, arith}
use Rattle.std.proofs.lemmas.Bool.{eqb-true}
use Rattle.std.proofs.lemmas.List.{reverse-append}
use Rattle.tea_base.specs.declared.entry.SessionId.{SessionId}
use Rattle.tea_io.specs.Told.{with_more, TakesFirst}
use Rattle.tea_io.specs.Links.{no_counts}
use Rattle.tea_io.specs.Nets.{AsksNet, NetCause}
use Rattle.tea_io.specs.declared.net.NetCall.{NetCall}
use Rattle.tea_io.specs.declared.net.NetCall.TheVariants.{Accept}
use Rattle.tea_io.specs.declared.net.NetFault.{NetFault}
use Rattle.tea_io.specs.declared.net.NetFault.TheVariants.{Failed, WantOfMemory}
use Rattle.run_steps.specs.Outside.{LinksTell, NetTells}
use Rattle.session_lock.specs.History.{has, calls_of}
use Rattle.session_lock.specs.Numbers.{times}
use Rattle.session_lock.specs.Passes.{PassState, caller, numbers_held, Merged}
use Rattle.session_lock.proofs.Histories.{saw_trans}
use Rattle.session_lock.proofs.Ranges.{times_append}
use Rattle.connection.proofs.Talking.{with_more_none, with_more_twice}
use Rattle.reflect_server.specs.declared.accepting.Round.{Round}
use Rattle.reflect_server.specs.declared.accepting.ServedLink.{ServedLink}
use Rattle.reflect_server.specs.Connections.{ServedConnection, accepted_links, callers_of}
use Rattle.reflect_server.specs.Passes.{Gathers, IsFresh, Keeps}
use Rattle.reflect_server.specs.Rounds.{TakesAll, AsksAccepts, CountsStop, CountsLinks, Accepts, Serves, GoesRound, accepts, accepts_more, served_of}
use Rattle.reflect_server.proofs.PassLaws.{called_alone, called_merged, fresh_before, has_some, keeps_caller, not_behind, not_first, not_second, one_caller, or_both, saw_one, times_behind, times_first}
use Rattle.reflect_server.proofs.TalkLaws.{connection_of, served_talks, talk_stays, talks_stay}

-- ---- links to come

pub takes_none : {A : Type 0} (told : Option (List A)) → TakesAll told told []
takes_none None = refl
takes_none (Some told) = (told, refl, refl)

pub takes_same : {A : Type 0} (before now : Option (List A)) → now ≡ before → TakesAll before now []
takes_same before now same = subst (λ (o : Option _). TakesAll before o []) (sym same) (takes_none before)

takes_more : {A : Type 0} (before mid now : Option (List A)) (first : A) (rest : List A) → TakesFirst before mid first → TakesAll mid now rest
    → TakesAll before now (first ∷ rest)
takes_more None mid now first rest one all = subst (λ (o : Option _). TakesAll o now rest) one all
takes_more (Some told) mid now first rest one all =
    let behind : TakesAll (Some one.0) now rest = subst (λ (o : Option _). TakesAll o now rest) one.2 all in
    (behind.0, one.1 ∙ ap (λ (l : List _). first ∷ l) behind.1, behind.2)

-- ---- calls

-- an accept, and then these calls
accept_first : (before mid now : Option (List NetCall)) (calls : List NetCall) → mid ≡ with_more before (Accept ∷ []) → now ≡ with_more mid calls
    → now ≡ with_more before (Accept ∷ calls)
accept_first before mid now calls one all =
    all ∙ (ap (λ (o : Option (List NetCall)). with_more o calls) one ∙ with_more_twice before (Accept ∷ []) calls)

asks_more : {L T : Type 0} (before mid now : Option (List NetCall)) (first : L) (rest : List L) (value : T) (stopped : Option NetFault)
    → AsksNet before mid Accept (Ok value) → AsksAccepts mid now rest stopped → AsksAccepts before now (first ∷ rest) stopped
asks_more before mid now first rest value None one all = accept_first before mid now (accepts rest) one all
asks_more before mid now first rest value (Some Failed) one all = accept_first before mid now (accepts_more rest) one all
asks_more before mid now first rest value (Some WantOfMemory) one (inl all) = inl (accept_first before mid now (accepts rest) one all)
asks_more before mid now first rest value (Some WantOfMemory) one (inr all) = inr (accept_first before mid now (accepts_more rest) one all)

counts_more : (before mid now : ℕ) (stopped : Option NetFault) → before ≤ mid → CountsStop mid now stopped → CountsStop before now stopped
counts_more before mid now None later counts = omega arith
counts_more before mid now (Some Failed) later counts = (omega (arith, counts.0), omega (arith, counts.1))
counts_more before mid now (Some WantOfMemory) later counts = omega arith

links_more : (links all count more : ℕ) (stopped : Option NetFault) → all ≡ links + 1 → more ≡ count + 1 → CountsLinks links count stopped
    → CountsLinks all more stopped
links_more links all count more None both is number = omega arith
links_more links all count more (Some fault) both is number = omega arith

-- none of these callers had made a call in what was seen, nor this one
new_more : (before : PassState) (one n : ℕ) (callers : List ℕ) → ((m : ℕ) → has m callers ≡ true → calls_of (m ∷ []) before.seen ≡ []) → calls_of (one ∷ []) before.seen ≡ []
    → has n (one ∷ callers) ≡ true → calls_of (n ∷ []) before.seen ≡ []
new_more before one n callers others mine own =
    elim (or_both (eqb n one) (has n callers) own) [
      | inl is ↦ subst (λ (m : ℕ). calls_of (m ∷ []) before.seen ≡ []) (sym (eqb-true n one is)) mine
      | inr is ↦ others n is
    ]

-- ---- rounds

module _ (gives : ℕ → Type 0) (id : SessionId) {N L : Type 0} (tells : NetTells N L) (links : LinksTell L) where
  gathers_none : (before now : PassState) (count : ℕ) → Keeps before now → numbers_held now ≡ numbers_held before + count → Gathers gives id links before count [] now
  gathers_none before now count keeps numbers = record {
    session = keeps.session;
    opening = keeps.opening;
    numbers = numbers;
    callers = keeps.callers;
    calls = keeps.calls;
    saw = keeps.saw;
    new = λ n own. absurd (cc (own));
    talks = tt;
  }

  accepts_none : (net : N) → Accepts tells net net [] None
  accepts_none net = record {
    coming = takes_none (tells.coming net);
    over = refl;
    asked = sym (with_more_none (tells.asked net));
    faults = omega arith;
    lent = omega arith;
    counts = refl;
  }

  -- no pass is left
  pub round_none : {K : Type 0} (round : Round N L K) (count : ℕ) → Keeps round.lead round.lead → round.served.items ≡ [] → round.stopped ≡ None → count ≡ 0
      → GoesRound gives id tells links count round round
  round_none round count keeps empty going none = record {
    connections = [];
    net = subst (Accepts tells round.net round.net []) (sym going) (accepts_none round.net);
    passes = gathers_none round.lead round.lead count keeps (omega arith);
    served = empty;
    number = subst (CountsLinks 0 count) (sym going) (sym none);
  }

  stopped_asks : (before now : Option (List NetCall)) (fault : NetFault) → AsksNet {T = L} before now Accept (Err fault) → AsksAccepts {L = L} before now [] (Some fault)
  stopped_asks before now Failed asks = asks
  stopped_asks before now WantOfMemory (inl same) = inl (same ∙ sym (with_more_none before))
  stopped_asks before now WantOfMemory (inr more) = inr more

  stopped_counts : (before now : ℕ) (fault : NetFault) → NetCause {T = L} before now (Err fault) → CountsStop before now (Some fault)
  stopped_counts before now Failed cause = (cause.later, cause.failed refl)
  stopped_counts before now WantOfMemory cause = cause.later

  -- an accept that was not answered
  pub record Missed (before now : N) (fault : NetFault) : Type 0 where
    pub coming : tells.coming now ≡ tells.coming before
    pub over : tells.over now ≡ tells.over before
    pub lent : tells.lent now ≡ tells.lent before
    pub counts : tells.link_counts now ≡ tells.link_counts before
    pub asked : AsksNet {T = L} (tells.asked before) (tells.asked now) Accept (Err fault)
    pub cause : NetCause {T = L} (tells.faults before) (tells.faults now) (Err fault)

  missed_accepts : (before now : N) (fault : NetFault) → Missed before now fault → Accepts tells before now [] (Some fault)
  missed_accepts before now fault missed = record {
    coming = takes_same (tells.coming before) (tells.coming now) missed.coming;
    over = missed.over;
    asked = stopped_asks (tells.asked before) (tells.asked now) fault missed.asked;
    faults = stopped_counts (tells.faults before) (tells.faults now) fault missed.cause;
    lent = omega (arith, missed.lent);
    counts = missed.counts;
  }

  -- no link more is accepted
  pub round_stopped : {K : Type 0} (before now : Round N L K) (net : N) (count : ℕ) (fault : NetFault) → before.served.items ≡ []
      → 0 < count → Missed before.net net fault → Keeps before.lead now.lead → numbers_held now.lead ≡ numbers_held before.lead + count
      → now.net ≡ net → now.served ≡ before.served → now.stopped ≡ Some fault → GoesRound gives id tells links count before now
  round_stopped before now net count fault empty some missed keeps numbers net_is served_is stopped_is = record {
    connections = [];
    net =
        subst (λ (n : N). Accepts tells before.net n [] now.stopped) (sym net_is)
        (subst (Accepts tells before.net net []) (sym stopped_is) (missed_accepts before.net net fault missed));
    passes = gathers_none before.lead now.lead count keeps numbers;
    served = ap (λ v. v.items) served_is ∙ empty;
    number = subst (CountsLinks 0 count) (sym stopped_is) some;
  }

  -- an accept that gave a link
  pub record Gave (before now : N) (link : L) : Type 0 where
    pub coming : TakesFirst (tells.coming before) (tells.coming now) link
    pub new : links.counts link ≡ no_counts
    pub over : tells.over now ≡ tells.over before
    pub lent : tells.lent now ≡ tells.lent before + 1
    pub counts : tells.link_counts now ≡ tells.link_counts before
    pub asked : AsksNet (tells.asked before) (tells.asked now) Accept (Ok link)
    pub cause : NetCause (tells.faults before) (tells.faults now) (Ok link)

  gave_accepts : (before mid now : N) (first : L) (rest : List L) (stopped : Option NetFault) → Gave before mid first → Accepts tells mid now rest stopped
      → Accepts tells before now (first ∷ rest) stopped
  gave_accepts before mid now first rest stopped gave all = record {
    coming = takes_more (tells.coming before) (tells.coming mid) (tells.coming now) first rest gave.coming all.coming;
    over = all.over ∙ gave.over;
    asked = asks_more (tells.asked before) (tells.asked mid) (tells.asked now) first rest first stopped gave.asked all.asked;
    faults = counts_more (tells.faults before) (tells.faults mid) (tells.faults now) stopped gave.cause.later all.faults;
    lent = omega (arith, gave.lent, all.lent);
    counts = all.counts ∙ gave.counts;
  }

  -- a pass that has served a link is merged into the one that is kept
  gathers_more : (before kept fresh pass now : PassState) (count : ℕ) (link : L) (one : ServedLink L) (connections : List (ServedConnection L)) → IsFresh before fresh
      → links.counts link ≡ no_counts → (served : Serves gives id links fresh link pass one) → Gathers gives id links before count connections kept → Merged kept pass now
      → numbers_held now ≡ numbers_held kept + numbers_held pass
      → Gathers gives id links before (count + 1) (connection_of gives id before.opening links link pass one served.talk.heard served.talk.sent ∷ connections) now
  gathers_more before kept fresh pass now count link one connections is_fresh new served gathers merged numbers =
      let first = connection_of gives id before.opening links link pass one served.talk.heard served.talk.sent in
      let callers : now.callers ≡ kept.callers ++ pass.callers = ap (λ (p : PassState). p.callers) merged.same in
      let mine : caller pass ≡ caller fresh = ap caller served.kept in
      let alone : pass.callers ≡ caller pass ∷ [] = one_caller pass (caller fresh) (ap (λ (p : PassState). p.callers) served.kept ∙ is_fresh.one) in
      let held : numbers_held pass ≡ 1 = ap numbers_held served.kept ∙ is_fresh.numbers in
      record {
        session = ap (λ (p : PassState). p.session) merged.same ∙ gathers.session;
        opening = ap (λ (p : PassState). p.opening) merged.same ∙ gathers.opening;
        numbers = omega (arith, numbers, held, gathers.numbers);
        callers = λ n.
            let both : times n now.callers ≡ times n kept.callers + times n (caller pass ∷ []) =
            ap (times n) (callers ∙ ap (λ (l : List ℕ). kept.callers ++ l) alone) ∙ times_append n kept.callers (caller pass ∷ []) in
            omega (arith, both, gathers.callers n);
        calls =
            called_merged kept pass now (caller before ∷ callers_of connections) (caller pass ∷ []) (caller before ∷ caller pass ∷ callers_of connections) merged gathers.calls
            (called_alone pass (caller pass) alone)
            (λ n other. not_second n (caller before) (caller pass) (callers_of connections) other)
            (λ n other. not_first n (caller pass) (callers_of connections) (not_behind n (caller before) (caller pass ∷ callers_of connections) other));
        saw =
            saw_trans (caller before ∷ []) before.seen kept.seen now.seen gathers.saw
            (saw_one kept.callers (caller before) kept.seen now.seen merged.saw (keeps_caller before kept (callers_of connections) gathers.callers));
        new = λ n own. new_more before (caller pass) n (callers_of connections) gathers.new
            (subst (λ (m : ℕ). calls_of (m ∷ []) before.seen ≡ []) (sym mine) (fresh_before before fresh is_fresh)) own;
        talks = (
          talk_stays gives id before.opening links pass.callers pass.seen now.seen first merged.saw_other
              (ap (has (caller pass)) alone ∙ has_some (caller pass) (caller pass ∷ []) (times_first (caller pass) []))
              (served_talks gives id before.opening links fresh link pass one is_fresh.opening new served),
          talks_stay gives id before.opening links kept.callers kept.seen now.seen connections merged.saw
              (λ n. omega (arith, times_behind n (caller before) (callers_of connections), gathers.callers n)) gathers.talks,
        );
      }

  -- one link more was accepted, and served beside the rest
  pub round_more : {K : Type 0} (before between rest now : Round N L K) (fresh pass : PassState) (count more : ℕ) (link : L) (one : ServedLink L) → IsFresh between.lead fresh
      → between.lead ≡ before.lead → more ≡ count + 1 → Gave before.net between.net link → Serves gives id links fresh link pass one
      → GoesRound gives id tells links count between rest → Merged rest.lead pass now.lead → numbers_held now.lead ≡ numbers_held rest.lead + numbers_held pass
      → now.served.items ≡ rest.served.items ++ one ∷ [] → now.net ≡ rest.net → now.stopped ≡ rest.stopped → GoesRound gives id tells links more before now
  round_more before between rest now fresh pass count more link one is_fresh keeper_is more_is gave served round merged numbers served_is net_is stopped_is =
      let first = connection_of gives id between.lead.opening links link pass one served.talk.heard served.talk.sent in record {
        connections = first ∷ round.connections;
        net =
            subst (λ (n : N). Accepts tells before.net n (link ∷ accepted_links round.connections) now.stopped) (sym net_is)
            (subst (Accepts tells before.net rest.net (link ∷ accepted_links round.connections)) (sym stopped_is)
            (gave_accepts before.net between.net rest.net link (accepted_links round.connections) rest.stopped gave round.net));
        passes =
            subst (λ (n : ℕ). Gathers gives id links before.lead n (first ∷ round.connections) now.lead) (sym more_is)
            (subst (λ (p : PassState). Gathers gives id links p (count + 1) (first ∷ round.connections) now.lead) keeper_is
            (gathers_more between.lead rest.lead fresh pass now.lead count link one round.connections is_fresh gave.new served round.passes merged numbers));
        served =
            served_is
            ∙ (ap (λ (l : List (ServedLink L)). l ++ one ∷ []) round.served
            ∙ sym (reverse-append (one ∷ []) (map served_of round.connections)));
        number =
            subst (CountsLinks (length (first ∷ round.connections)) more) (sym stopped_is)
            (links_more (length round.connections) (length (first ∷ round.connections)) count more rest.stopped (omega arith) more_is round.number);
      }
