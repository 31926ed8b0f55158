-- What comes of a reflector, from what was accepted, given back and closed.
use Rattle.std.proofs.Common.{◌≡◌, ◌≢◌, ◌⊎◌, inl, inr, ℕ, ◌+◌, ◌≤◌, Bool, true, false, ◌&&◌, ◌||◌, eqb, leb, ltb, if◌then◌else◌, List, [], ◌∷◌, ◌++◌, length, vec_len, Option, Some, None, Result, Ok, Err, refl, sym, ap, ◌∙◌, subst, arith}
use Rattle.std.specs.List.{AllByRecursion}
use Rattle.std.proofs.lemmas.Bool.{eqb-true}
use Rattle.std.proofs.lemmas.List.{length-map}
use Rattle.tea_base.specs.declared.entry.SessionId.{SessionId}
use Rattle.tea_io.specs.Told.{with_more}
use Rattle.tea_io.specs.Links.{Counts}
use Rattle.tea_io.specs.Nets.{AsksNet, NetCause}
use Rattle.tea_io.specs.declared.net.NetCall.{NetCall}
use Rattle.tea_io.specs.declared.net.NetCall.TheVariants.{Listen}
use Rattle.tea_io.specs.declared.net.NetFault.{NetFault}
use Rattle.tea_io.specs.declared.net.NetFault.TheVariants.{Failed, WantOfMemory}
use Rattle.run_steps.specs.Outside.{LinksTell, NetTells}
use Rattle.reflector_core.specs.PlainSession.{PlainSession}
use Rattle.reflector_core.specs.declared.keeper.CallFault.{CallFault}
use Rattle.reflector_core.specs.declared.keeper.CallFault.TheVariants as call_fault
use Rattle.reflector_core.specs.SessionState.{SessionState}
use Rattle.reflector_core.specs.Play.{first_session, replies_from, TellsItsEvents}
use Rattle.session_lock.specs.declared.knowledge.Item.{Item}
use Rattle.session_lock.specs.History.{play_from, caller_of, calls_of, has, has_unkept, history_requests, IsSoundThrough}
use Rattle.session_lock.specs.Keeping.{KeepsPlay}
use Rattle.session_lock.specs.Passes.{PassState, caller, own_calls, HoldsEach}
use Rattle.session_lock.specs.Rules.{all_numbers}
use Rattle.session_lock.proofs.Histories.{calls_append, has_own, none_among, none_behind, nothing_first, sound_start}
use Rattle.connection.specs.declared.ending.Ended.{Ended}
use Rattle.connection.proofs.TalkLines.{talk_served, talk_told}
use Rattle.connection.proofs.Talking.{with_more_none, with_more_twice}
use Rattle.reflect_server.specs.Opening.{AreHere, AreLeavesOf, BeginsWithLeaves, HasOpened, gives_later}
use Rattle.reflect_server.specs.Connections.{ServedConnection, HasTalk, IsHistoryOf, AreServed, AreToldWithin, accepted_links, callers_of, returned_links}
use Rattle.reflect_server.specs.Passes.{Gathers}
use Rattle.reflect_server.specs.Rounds.{Accepts, GoesRound, TakesAll, AsksAccepts, accepts, accepts_more, CountsStop, links_of, ended_of, served_back, with_links}
use Rattle.reflect_server.specs.Keeping.{KeeperTells, HasNotOpened, HasOnlyOpened, HasOpenedAtMost, IsUnopened, keeper_tells, no_keeper}
use Rattle.reflect_server.specs.Reflects.{AsksFor, ReturnsLinks, HasWanted, Plays, Reflects, ReflectsKept, EndUnkeptIf, unheard, unopened_fault, with_kept_fault}
use Rattle.reflect_server.specs.declared.reflection.Reflected.{Reflected}
use Rattle.reflect_server.specs.declared.reflection.ServeFault.{ServeFault}
use Rattle.reflect_server.specs.declared.reflection.KeptFault.{KeptFault}
use Rattle.reflect_server.specs.declared.reflection.KeptFault.TheVariants as kept_fault
use Rattle.reflect_server.specs.declared.reflection.ServeFault.TheVariants as serve_fault
use Rattle.reflect_server.specs.declared.accepting.Round.{Round}
use Rattle.reflect_server.specs.declared.accepting.ServedLink.{ServedLink}
use Rattle.reflect_server.proofs.GivingBack.{ends_of_round, links_of_round, round_length}
use Rattle.reflect_server.specs.Views.{StaysByMiss}
use Rattle.reflect_server.proofs.StayingViews.{stays_by_miss}
use Rattle.reflect_server.proofs.UnkeptEnds.{all_unkept}
use Rattle.reflect_server.proofs.PassLaws.{or_first}
use Rattle.reflect_server.proofs.RoundLaws.{takes_same}

-- ---- nobody else

-- whose calls are not among these has none
none_first : {P : Type 0} (x : Item) (xs : List Item) → calls_of (caller_of x ∷ []) (x ∷ xs) ≡ [] → P
none_first x xs none =
    let e : (if true then x ∷ calls_of (caller_of x ∷ []) xs else calls_of (caller_of x ∷ []) xs) ≡ [] =
    ap (λ (b : Bool). if b then x ∷ calls_of (caller_of x ∷ []) xs else calls_of (caller_of x ∷ []) xs) (sym (has_own (caller_of x) [])) ∙ none in
    absurd (cc (e))

-- where nobody else has made a call, the calls of these are all
pub all_calls : (callers : List ℕ) (history : List Item) → ((n : ℕ) → has n callers ≡ false → calls_of (n ∷ []) history ≡ []) → calls_of callers history ≡ history
all_calls callers [] others = refl
all_calls callers (x ∷ xs) others =
    step (has (caller_of x) callers) refl
    (all_calls callers xs (λ n other. none_behind (has (caller_of x) (n ∷ [])) x (calls_of (n ∷ []) xs) (others n other)))
  where
    step : (b : Bool) → has (caller_of x) callers ≡ b → calls_of callers xs ≡ xs → (if b then x ∷ calls_of callers xs else calls_of callers xs) ≡ x ∷ xs
    step true is rest = ap (λ (l : List Item). x ∷ l) rest
    step false is rest = none_first x xs (others (caller_of x) is)

-- where the calls of these are all, nobody else has made one
pub none_else : (callers : List ℕ) (history : List Item) (n : ℕ) → calls_of callers history ≡ history → has n callers ≡ false → calls_of (n ∷ []) history ≡ []
none_else callers history n whole other = ap (calls_of (n ∷ [])) (sym whole) ∙ none_among callers n history other

one_at_most : (b : Bool) → (if b then 1 else 0) ≤ 1
one_at_most true = omega arith
one_at_most false = omega arith

-- ---- the history

-- what the last pass tells, with which the session is closed
pub record IsClosedAt (lead : PassState) (session : PlainSession) : Type 0 where
  pub play : session ≡ play_from lead.opening lead.seen
  pub calls : own_calls lead ≡ lead.seen
  pub numbers : HoldsEach lead
  pub sound : IsSoundThrough lead.opening lead.seen
  pub events : TellsItsEvents lead.opening.log (history_requests lead.seen) (replies_from lead.opening (history_requests lead.seen)) session.log

-- the same of a session that began so
pub record IsClosedBy (opening : PlainSession) (lead : PassState) (session : PlainSession) : Type 0 where
  pub plays : Plays opening lead.seen session
  pub calls : own_calls lead ≡ lead.seen
  pub numbers : HoldsEach lead

closed_by : (opening : PlainSession) (lead : PassState) (session : PlainSession) → lead.opening ≡ opening → IsClosedAt lead session → IsClosedBy opening lead session
closed_by opening lead session is closed = record {
  plays = subst (λ (o : PlainSession). Plays o lead.seen session) is (record { play = closed.play; sound = closed.sound; events = closed.events });
  calls = closed.calls;
  numbers = closed.numbers;
}

module _ (gives : ℕ → Type 0) (id : SessionId) {L : Type 0} (links : LinksTell L) (before lead : PassState) (session : PlainSession) (count : ℕ) (connections : List (ServedConnection L))
    (opened : HasOpened gives before.opening before) (gathers : Gathers gives id links before count connections lead) (closed : IsClosedBy before.opening lead session) where
  -- whose calls are not these has none
  others : (n : ℕ) → has n (caller before ∷ callers_of connections) ≡ false → (b : Bool) → has n lead.callers ≡ b → calls_of (n ∷ []) lead.seen ≡ []
  others n other true own = gathers.calls n own other
  others n other false own = none_else lead.callers lead.seen n closed.calls own

  -- what the opener had seen was its own calls
  only_own : (n : ℕ) → has n (caller before ∷ []) ≡ false → (b : Bool) → has n (callers_of connections) ≡ b → calls_of (n ∷ []) before.seen ≡ []
  only_own n other true own = gathers.new n own
  only_own n other false own =
      let neither : has n (caller before ∷ callers_of connections) ≡ false = ap (λ (b : Bool). b || has n (callers_of connections)) (or_first (eqb n (caller before)) false other) ∙ own in
      nothing_first (calls_of (n ∷ []) before.seen) (calls_of (n ∷ []) gathers.saw.0)
      (sym (calls_append (n ∷ []) before.seen gathers.saw.0) ∙ (ap (calls_of (n ∷ [])) gathers.saw.1 ∙ others n neither (has n lead.callers) refl))

  begun : own_calls before ≡ before.seen
  begun =
      ap (λ (cs : List ℕ). calls_of cs before.seen) opened.one
      ∙ all_calls (caller before ∷ []) before.seen (λ n other. only_own n other (has n (callers_of connections)) refl)

  pub leaves_of : BeginsWithLeaves gives before.opening (caller before) lead.seen
  leaves_of = record {
    views = opened.views;
    here = opened.here;
    leaves = before.seen;
    made = subst (AreLeavesOf gives (caller before) opened.views) begun opened.made;
    rest = gathers.saw.0;
    first = gathers.saw.1;
    others = gathers.saw.2;
  }

  pub history_of : IsHistoryOf gives id before.opening links connections (caller before) lead.seen
  history_of = record {
    leaves = leaves_of;
    talks = gathers.talks;
    apart = λ n. omega (arith, gathers.callers n, closed.numbers n, one_at_most (leb 0 n && ltb n (0 + all_numbers)));
    whole = all_calls (caller before ∷ callers_of connections) lead.seen (λ n other. others n other (has n lead.callers) refl);
  }

-- in a new session nobody was here, so only the connections have called
pub only_connections : (gives : ℕ → Type 0) (id : SessionId) {L : Type 0} (links : LinksTell L) (connections : List (ServedConnection L)) (opener : ℕ) (history : List Item)
    → IsHistoryOf gives id first_session links connections opener history → calls_of (callers_of connections) history ≡ history
only_connections gives id links connections opener history talks =
    all_calls (callers_of connections) history (λ n other. others n other (eqb n opener) refl)
  where
    nobody : (views : List (ℕ × ℕ)) (leaves : List Item) → AreHere [] views → AreLeavesOf gives opener views leaves → leaves ≡ []
    nobody [] [] here made = refl
    nobody [] (x ∷ xs) here made = absurd made
    nobody (one ∷ views) leaves here made = absurd (cc (here.0.1))

    none_opened : calls_of (opener ∷ []) history ≡ []
    none_opened =
        let first = nobody talks.leaves.views talks.leaves.leaves talks.leaves.here talks.leaves.made in
        let all : talks.leaves.rest ≡ history = sym (ap (λ (l : List Item). l ++ talks.leaves.rest) first) ∙ talks.leaves.first in
        sym (ap (calls_of (opener ∷ [])) all) ∙ talks.leaves.others

    others : (n : ℕ) → has n (callers_of connections) ≡ false → (b : Bool) → eqb n opener ≡ b → calls_of (n ∷ []) history ≡ []
    others n other true is = ap (λ (m : ℕ). calls_of (m ∷ []) history) (eqb-true n opener is) ∙ none_opened
    others n other false is = none_else (opener ∷ callers_of connections) history n talks.whole (ap (λ (b : Bool). b || has n (callers_of connections)) is ∙ other)

-- each connection was sent what the log serves it
pub all_served : (gives : ℕ → Type 0) (id : SessionId) (opening : PlainSession) {L : Type 0} (links : LinksTell L) (history : List Item) (connections : List (ServedConnection L)) → IsSoundThrough opening history
    → AllByRecursion (HasTalk gives id opening links history) connections → AreServed (play_from opening history).log connections
all_served gives id opening links history [] sound talks = tt
all_served gives id opening links history (one ∷ rest) sound talks = (
  talk_served gives id opening history one.caller one.heard one.sent one.ended sound talks.0.talk,
  all_served gives id opening links history rest sound talks.1,
)

-- and each TICK among that is at most the horizon in the end
pub all_told : (gives : ℕ → Type 0) (id : SessionId) (opening : PlainSession) {L : Type 0} (links : LinksTell L) (history : List Item) (connections : List (ServedConnection L)) → IsSoundThrough opening history
    → AllByRecursion (HasTalk gives id opening links history) connections → AreToldWithin (play_from opening history).horizon connections
all_told gives id opening links history [] sound talks = tt
all_told gives id opening links history (one ∷ rest) sound talks = (
  talk_told gives id opening history one.caller one.heard one.sent one.ended sound talks.0.talk,
  all_told gives id opening links history rest sound talks.1,
)

-- ---- the net

module _ {N L : Type 0} (tells : NetTells N L) (links : LinksTell L) where
  -- what giving these back does
  pub record Returns (before now : N) (served : List (ServedLink L)) (count : ℕ) : Type 0 where
    pub over : tells.over now ≡ with_more (tells.over before) (links_of served)
    pub counts : tells.link_counts now ≡ with_links links.counts (tells.link_counts before) (links_of served)
    pub lent : tells.lent now + count ≡ tells.lent before
    pub coming : tells.coming now ≡ tells.coming before
    pub asked : tells.asked now ≡ tells.asked before
    pub faults : tells.faults now ≡ tells.faults before

  pub gives_back : (before mid now : N) (served : List (ServedLink L)) (connections : List (ServedConnection L)) (stopped : Option NetFault)
      → Accepts tells before mid (accepted_links connections) stopped → served ≡ served_back connections → Returns mid now served (length served)
      → ReturnsLinks tells links before now connections
  gives_back before mid now served connections stopped took served_is returns = record {
    coming = subst (λ (o : Option (List L)). TakesAll (tells.coming before) o (accepted_links connections)) (sym returns.coming) took.coming;
    over = returns.over ∙ (ap (λ (o : Option (List L)). with_more o (links_of served)) took.over ∙ ap (with_more (tells.over before)) (links_of_round served connections served_is));
    lent = omega (arith, returns.lent, took.lent, round_length served connections served_is, length-map connections (λ one. one.accepted));
    counts =
        returns.counts
        ∙ (ap (λ (c : Counts). with_links links.counts c (links_of served)) took.counts
        ∙ ap (with_links links.counts (tells.link_counts before)) (links_of_round served connections served_is));
  }

  nothing_back : (before now : N) → tells.coming now ≡ tells.coming before → tells.over now ≡ tells.over before → tells.lent now ≡ tells.lent before
      → tells.link_counts now ≡ tells.link_counts before → ReturnsLinks tells links before now []
  nothing_back before now coming over lent counts = record {
    coming = takes_same (tells.coming before) (tells.coming now) coming;
    over = over ∙ sym (with_more_none (tells.over before));
    lent = lent;
    counts = counts;
  }

-- ---- what is answered

module _ (gives : ℕ → Type 0) (id : SessionId) (kept : KeeperTells) {N L K : Type 0} (tells : NetTells N L) (links : LinksTell L) (count : ℕ) (before mid : Round N L K) (now : N) where
  -- what is left when all links were served
  pub record Ends (session : PlainSession) : Type 0 where
    pub opened : HasOpened gives before.lead.opening before.lead
    pub round : GoesRound gives id tells links count before mid
    pub returns : Returns tells links mid.net now mid.served.items (vec_len mid.served)
    pub length : vec_len mid.served ≡ length mid.served.items
    pub closed : IsClosedBy before.lead.opening mid.lead session
    pub keeps : kept.keeps mid.lead.seen
    pub fails : has_unkept mid.lead.seen ≡ true → kept.failed

  pub ends_when : (session : PlainSession) (made : ℕ) → made ≡ count → HasOpened gives before.lead.opening before.lead → GoesRound gives id tells links made before mid → vec_len mid.served ≡ length mid.served.items
      → Returns tells links mid.net now mid.served.items (vec_len mid.served) → IsClosedAt mid.lead session
      → kept.keeps mid.lead.seen → (has_unkept mid.lead.seen ≡ true → kept.failed) → Ends session
  ends_when session made is opened round length returns closed keeps fails = record {
    opened = opened;
    round = subst (λ (n : ℕ). GoesRound gives id tells links n before mid) is round;
    returns = returns;
    length = length;
    closed = closed_by before.lead.opening mid.lead session round.passes.opening closed;
    keeps = keeps;
    fails = fails;
  }

  net_of : (session : PlainSession) (ends : Ends session) → ReturnsLinks tells links before.net now ends.round.connections
  net_of session ends =
      gives_back tells links before.net mid.net now mid.served.items ends.round.connections mid.stopped ends.round.net ends.round.served
      (subst (Returns tells links mid.net now mid.served.items) ends.length ends.returns)

  history_when : (session : PlainSession) (ends : Ends session) → IsHistoryOf gives id before.lead.opening links ends.round.connections (caller before.lead) mid.lead.seen
  history_when session ends = history_of gives id links before.lead mid.lead session count ends.round.connections ends.opened ends.round.passes ends.closed

  served_when : (session : PlainSession) (ends : Ends session) → AreServed (play_from before.lead.opening mid.lead.seen).log ends.round.connections
  served_when session ends = all_served gives id before.lead.opening links mid.lead.seen ends.round.connections ends.closed.plays.sound ends.round.passes.talks

  told_when : (session : PlainSession) (ends : Ends session) → AreToldWithin (play_from before.lead.opening mid.lead.seen).horizon ends.round.connections
  told_when session ends = all_told gives id before.lead.opening links mid.lead.seen ends.round.connections ends.closed.plays.sound ends.round.passes.talks

  stays_when : (session : PlainSession) (ends : Ends session) → StaysByMiss before.lead.opening (caller before.lead) (callers_of ends.round.connections) mid.lead.seen (play_from before.lead.opening mid.lead.seen).log
  stays_when session ends =
      let history = history_when session ends in
      stays_by_miss gives id before.lead.opening links mid.lead.seen (caller before.lead) ends.round.connections (sound_start before.lead.opening mid.lead.seen ends.closed.plays.sound).legal history.leaves
      ends.round.passes.talks (λ n other. none_else (caller before.lead ∷ callers_of ends.round.connections) mid.lead.seen n history.whole other)

  unkept_when : (session : PlainSession) (ends : Ends session) → EndUnkeptIf kept.failed ends.round.connections
  unkept_when session ends = all_unkept gives id before.lead.opening links mid.lead.seen kept.failed ends.round.connections ends.fails ends.round.passes.talks

  -- what stopped the net is told as it is
  asks_for : (before now : Option (List NetCall)) (links_now : List L) (stopped : Option NetFault) → AsksAccepts before now links_now stopped → AsksFor before now [] links_now stopped
  asks_for before now links_now None asks = asks
  asks_for before now links_now (Some Failed) asks = asks
  asks_for before now links_now (Some WantOfMemory) asks = asks

  asks_now : (links_now : List L) → tells.asked now ≡ tells.asked mid.net → AsksAccepts (tells.asked before.net) (tells.asked mid.net) links_now mid.stopped
      → AsksFor (tells.asked before.net) (tells.asked now) [] links_now mid.stopped
  asks_now links_now back asks =
      asks_for (tells.asked before.net) (tells.asked now) links_now mid.stopped (subst (λ (o : Option (List NetCall)). AsksAccepts (tells.asked before.net) o links_now mid.stopped) (sym back) asks)

  faults_now : tells.faults now ≡ tells.faults mid.net → CountsStop (tells.faults before.net) (tells.faults mid.net) mid.stopped → CountsStop (tells.faults before.net) (tells.faults now) mid.stopped
  faults_now back counts = subst (λ (n : ℕ). CountsStop (tells.faults before.net) n mid.stopped) (sym back) counts

  pub reflects_when : (session : SessionState) (ended : List Ended) → ended ≡ ended_of mid.served.items → Ends session.plain
      → ReflectsKept gives id before.lead.opening kept tells links [] count before.net now (Ok (record { session = session; ends = ended; stopped = mid.stopped }))
  reflects_when session ended all ends = record {
    connections = ends.round.connections;
    history = mid.lead.seen;
    net = net_of session.plain ends;
    asked = asks_now (accepted_links ends.round.connections) ends.returns.asked ends.round.net.asked;
    faults = faults_now ends.returns.faults ends.round.net.faults;
    number = ends.round.number;
    ends = all ∙ ends_of_round mid.served.items ends.round.connections ends.round.served;
    opener = caller before.lead;
    talks = history_when session.plain ends;
    session = ends.closed.plays;
    served = subst (λ (s : PlainSession). AreServed s.log ends.round.connections) (sym ends.closed.plays.play) (served_when session.plain ends);
    ticks = subst (λ (s : PlainSession). AreToldWithin s.horizon ends.round.connections) (sym ends.closed.plays.play) (told_when session.plain ends);
    stays =
        subst (λ (s : PlainSession). StaysByMiss before.lead.opening (caller before.lead) (callers_of ends.round.connections) mid.lead.seen s.log) (sym ends.closed.plays.play)
        (stays_when session.plain ends);
    keeps = ends.keeps;
    unkept = unkept_when session.plain ends;
  }

-- ---- before a link is accepted

-- what a net that was to listen was asked
pub listen_asks : {T : Type 0} (address : List ℕ) (before now : Option (List NetCall)) (result : Result T NetFault) → AsksNet before now (Listen address) result
    → (now ≡ before) ⊎ (now ≡ with_more before (Listen address ∷ []))
listen_asks address before now (Ok value) more = inr more
listen_asks address before now (Err Failed) more = inr more
listen_asks address before now (Err WantOfMemory) asks = asks

module _ (gives : ℕ → Type 0) (id : SessionId) (opening : PlainSession) (kept : KeeperTells) {N L : Type 0} (tells : NetTells N L) (links : LinksTell L) where
  -- the net listens, or fails to
  pub record Listens {T : Type 0} (address : List ℕ) (result : Result T NetFault) (before now : N) : Type 0 where
    pub coming : tells.coming now ≡ tells.coming before
    pub over : tells.over now ≡ tells.over before
    pub lent : tells.lent now ≡ tells.lent before
    pub counts : tells.link_counts now ≡ tells.link_counts before
    pub asked : AsksNet (tells.asked before) (tells.asked now) (Listen address) result
    pub cause : NetCause (tells.faults before) (tells.faults now) result

  -- memory was wanted before, or while the net was to listen
  pub wanted_before : (calls : List NetCall) (before now : N) → HasOpenedAtMost gives opening kept → (tells.asked now ≡ tells.asked before) ⊎ (tells.asked now ≡ with_more (tells.asked before) calls)
      → tells.coming now ≡ tells.coming before → tells.over now ≡ tells.over before → tells.lent now ≡ tells.lent before
      → tells.link_counts now ≡ tells.link_counts before → tells.faults before ≤ tells.faults now → HasWanted gives opening kept tells links calls before now
  wanted_before calls before now opened asked coming over lent counts faults = record {
    net = nothing_back tells links before now coming over lent counts;
    asked = asked;
    faults = faults;
    opened = opened;
  }

  -- the net listens, and then these calls are made
  listen_first : (address : List ℕ) (before mid now : Option (List NetCall)) (calls : List NetCall) → mid ≡ with_more before (Listen address ∷ []) → now ≡ with_more mid calls
      → now ≡ with_more before (Listen address ∷ calls)
  listen_first address before mid now calls one all =
      all ∙ (ap (λ (o : Option (List NetCall)). with_more o calls) one ∙ with_more_twice before (Listen address ∷ []) calls)

  for_behind : (address : List ℕ) (before mid now : Option (List NetCall)) (accepted : List L) (stopped : Option NetFault) → mid ≡ with_more before (Listen address ∷ []) → AsksFor mid now [] accepted stopped
      → AsksFor before now (Listen address ∷ []) accepted stopped
  for_behind address before mid now accepted None one all = listen_first address before mid now (accepts accepted) one all
  for_behind address before mid now accepted (Some Failed) one all = listen_first address before mid now (accepts_more accepted) one all
  for_behind address before mid now accepted (Some WantOfMemory) one (inl all) = inl (listen_first address before mid now (accepts accepted) one all)
  for_behind address before mid now accepted (Some WantOfMemory) one (inr all) = inr (listen_first address before mid now (accepts_more accepted) one all)

  listened_back : {T : Type 0} (address : List ℕ) (value : T) (before mid now : N) (connections : List (ServedConnection L)) → Listens address (Ok value) before mid
      → ReturnsLinks tells links mid now connections → ReturnsLinks tells links before now connections
  listened_back address value before mid now connections listens back = record {
    coming = subst (λ (o : Option (List L)). TakesAll o (tells.coming now) (accepted_links connections)) listens.coming back.coming;
    over = back.over ∙ ap (λ (o : Option (List L)). with_more o (returned_links connections)) listens.over;
    lent = back.lent ∙ listens.lent;
    counts = back.counts ∙ ap (λ (c : Counts). with_links links.counts c (returned_links connections)) listens.counts;
  }

  stop_behind : (before mid now : ℕ) (stopped : Option NetFault) → before ≤ mid → CountsStop mid now stopped → CountsStop before now stopped
  stop_behind before mid now None later counts = omega (arith, counts)
  stop_behind before mid now (Some Failed) later counts = (let first = counts.0 in omega (arith, first), let rose = counts.1 in omega (arith, rose))
  stop_behind before mid now (Some WantOfMemory) later counts = omega (arith, counts)

  -- what came of it once the net listened
  pub reflects_behind : {T : Type 0} (address : List ℕ) (value : T) (count : ℕ) (before mid now : N) (reflected : Reflected) → Listens address (Ok value) before mid
      → ReflectsKept gives id opening kept tells links [] count mid now (Ok reflected) → ReflectsKept gives id opening kept tells links (Listen address ∷ []) count before now (Ok reflected)
  reflects_behind address value count before mid now reflected listens told = record {
    connections = told.connections;
    history = told.history;
    net = listened_back address value before mid now told.connections listens told.net;
    asked = for_behind address (tells.asked before) (tells.asked mid) (tells.asked now) (accepted_links told.connections) reflected.stopped listens.asked told.asked;
    faults = stop_behind (tells.faults before) (tells.faults mid) (tells.faults now) reflected.stopped listens.cause.later told.faults;
    number = told.number;
    ends = told.ends;
    opener = told.opener;
    talks = told.talks;
    session = told.session;
    served = told.served;
    ticks = told.ticks;
    stays = told.stays;
    keeps = told.keeps;
    unkept = told.unkept;
  }

  -- the net did not listen
  unheard_by : {T : Type 0} (address : List ℕ) (fault : NetFault) (count : ℕ) (before now : N) → HasOnlyOpened gives opening kept → Listens {T = T} address (Err fault) before now
      → ReflectsKept gives id opening kept tells links (Listen address ∷ []) count before now (Err (unheard fault))
  unheard_by {T} address Failed count before now opened listens = record {
    net = nothing_back tells links before now listens.coming listens.over listens.lent listens.counts;
    asked = listens.asked;
    faults = listens.cause.failed refl;
    opened = opened;
  }
  unheard_by {T} address WantOfMemory count before now opened listens =
      wanted_before (Listen address ∷ []) before now (inr opened) (listen_asks {T = T} address (tells.asked before) (tells.asked now) (Err WantOfMemory) listens.asked)
      listens.coming listens.over listens.lent listens.counts listens.cause.later

  pub reflects_unheard : {T : Type 0} (address : List ℕ) (fault : NetFault) (answer : KeptFault) (count : ℕ) (before now : N) → answer ≡ unheard fault → HasOnlyOpened gives opening kept → Listens {T = T} address (Err fault) before now
      → ReflectsKept gives id opening kept tells links (Listen address ∷ []) count before now (Err answer)
  reflects_unheard address fault answer count before now is opened listens =
      subst (λ (f : KeptFault). ReflectsKept gives id opening kept tells links (Listen address ∷ []) count before now (Err f)) (sym is) (unheard_by address fault count before now opened listens)

  -- the session was not opened
  unopened_by : (calls : List NetCall) (why : CallFault) (count : ℕ) (net : N) → IsUnopened gives opening kept why → ReflectsKept gives id opening kept tells links calls count net net (Err (unopened_fault why))
  unopened_by calls call_fault.WantOfMemory count net none =
      wanted_before calls net net (inl none) (inl refl) refl refl refl refl (omega arith)
  unopened_by calls call_fault.Unkept count net stopped = (refl, stopped)

  pub reflects_unopened : (calls : List NetCall) (why : CallFault) (answer : KeptFault) (count : ℕ) (net : N) → answer ≡ unopened_fault why → IsUnopened gives opening kept why
      → ReflectsKept gives id opening kept tells links calls count net net (Err answer)
  reflects_unopened calls why answer count net is unopened =
      subst (λ (f : KeptFault). ReflectsKept gives id opening kept tells links calls count net net (Err f)) (sym is) (unopened_by calls why count net unopened)

-- the same, said of the session that began, and of its keeper
pub reflects_of : {K : Type 0} (holds : K → PlainSession → Type 0) (shut : K → Type 0) (faults : K → ℕ) (keeper : K) (gives : ℕ → Type 0) (id : SessionId) (since begun first failed : ℕ) (opening session : PlainSession) {N L : Type 0} (tells : NetTells N L)
    (links : LinksTell L) (calls : List NetCall) (count : ℕ) (before now : N) (result : Result Reflected KeptFault)
    → since ≡ begun → first ≡ failed → opening ≡ session → ReflectsKept (gives_later gives since) id opening (keeper_tells holds shut faults first opening keeper) tells links calls count before now result
    → ReflectsKept (gives_later gives begun) id session (keeper_tells holds shut faults failed session keeper) tells links calls count before now result
reflects_of holds shut faults keeper gives id since begun first failed opening session tells links calls count before now result time counted is told =
    subst (λ (o : PlainSession). ReflectsKept (gives_later gives begun) id o (keeper_tells holds shut faults failed o keeper) tells links calls count before now result) is
    (subst (λ (n : ℕ). ReflectsKept (gives_later gives begun) id opening (keeper_tells holds shut faults n opening keeper) tells links calls count before now result) counted
    (subst (λ (n : ℕ). ReflectsKept (gives_later gives n) id opening (keeper_tells holds shut faults first opening keeper) tells links calls count before now result) time told))

-- what fails where a call was Unkept
pub fails_when : {K : Type 0} (holds : K → PlainSession → Type 0) (shut : K → Type 0) (faults : K → ℕ) (first : ℕ) (opening : PlainSession) (history : List Item) (keeper : K) → KeepsPlay holds shut faults first opening history keeper
    → has_unkept history ≡ true → (keeper_tells holds shut faults first opening keeper).failed
fails_when holds shut faults first opening history keeper keeps some = keeps.shuts (keeps.unkept some)

-- ---- without a keeper

module _ (gives : ℕ → Type 0) (id : SessionId) (opening : PlainSession) (kept : KeeperTells) (never : kept.failed → ⊥) {N L : Type 0} (tells : NetTells N L) (links : LinksTell L) where
  never_unkept : (connections : List (ServedConnection L)) → EndUnkeptIf kept.failed connections → EndUnkeptIf ⊥ connections
  never_unkept [] all = tt
  never_unkept (one ∷ rest) all = ((λ is. never (all.0 is)), never_unkept rest all.1)

  opened_only : HasOnlyOpened gives opening kept → HasOnlyOpened gives opening no_keeper
  opened_only opened = record { opener = opened.opener; views = opened.views; here = opened.here; history = opened.history; made = opened.made; keeps = tt }

  opened_most : HasOpenedAtMost gives opening kept → HasOpenedAtMost gives opening no_keeper
  opened_most (inl none) = inl tt
  opened_most (inr opened) = inr (opened_only opened)

  reflects_alone : (calls : List NetCall) (count : ℕ) (before now : N) (result : Result Reflected ServeFault) → ReflectsKept gives id opening kept tells links calls count before now (with_kept_fault result)
      → Reflects gives id opening tells links calls count before now result
  reflects_alone calls count before now (Ok reflected) told = record {
    connections = told.connections;
    history = told.history;
    net = told.net;
    asked = told.asked;
    faults = told.faults;
    number = told.number;
    ends = told.ends;
    opener = told.opener;
    talks = told.talks;
    session = told.session;
    served = told.served;
    ticks = told.ticks;
    stays = told.stays;
    keeps = tt;
    unkept = never_unkept told.connections told.unkept;
  }
  reflects_alone calls count before now (Err serve_fault.ListenFault) told = record { net = told.net; asked = told.asked; faults = told.faults; opened = opened_only told.opened }
  reflects_alone calls count before now (Err serve_fault.WantOfMemory) told = record { net = told.net; asked = told.asked; faults = told.faults; opened = opened_most told.opened }

  -- no call of it fails
  pub is_kept : (calls : List NetCall) (count : ℕ) (before now : N) (result : Result Reflected KeptFault) → ReflectsKept gives id opening kept tells links calls count before now result → result ≢ Err kept_fault.Unkept
  is_kept calls count before now result told is =
      let unkept : (now ≡ before) × HasNotOpened gives opening kept = subst (λ (r : Result Reflected KeptFault). ReflectsKept gives id opening kept tells links calls count before now r) is told in never unkept.1.failed

  pub reflects_without : (calls : List NetCall) (count : ℕ) (before now : N) (answer : Result Reflected KeptFault) (result : Result Reflected ServeFault) → with_kept_fault result ≡ answer
      → ReflectsKept gives id opening kept tells links calls count before now answer → Reflects gives id opening tells links calls count before now result
  reflects_without calls count before now answer result is told =
      reflects_alone calls count before now result (subst (λ (r : Result Reflected KeptFault). ReflectsKept gives id opening kept tells links calls count before now r) (sym is) told)
