-- Each snapshot that is kept is honest, one after the other in the order of the runs and of the history of each.
use Rattle.std.proofs.Common.{◌≡◌, ◌⊎◌, inl, inr, ℕ, zero, suc, true, ◌+◌, ◌<◌, ◌≤◌, List, [], ◌∷◌, ◌++◌, length, Option, Some, None, slice_get, refl, sym, ap, subst, ◌∙◌, arith, append_assoc, length-append}
use Rattle.std.specs.List.{AllByRecursion, slice_index_or}
use Rattle.std.proofs.lemmas.Bool.{cases_lt}
use Rattle.std.proofs.lemmas.List.{append-nil}
use Rattle.std.proofs.lemmas.Option.{same_Some}
use Rattle.tea_base.specs.declared.entry.Entry.{Entry}
use Rattle.tea_base.specs.declared.entry.SessionId.{SessionId}
use Rattle.tea_base.specs.Legal.{IsLegal}
use Rattle.tea_io.specs.declared.link.Heard.{Heard}
use Rattle.wire_frames.specs.declared.frame.ClientFrame.TheVariants as client
use Rattle.wire_frames.specs.declared.start.Base.{Base}
use Rattle.model_solved.specs.Founding.{Founding, IsFounding}
use Rattle.replica.specs.RealWorlds.{worlds}
use Rattle.replica_plain.specs.Following.{IsHonestBase}
use Rattle.replica_plain.specs.PlainReplica.{new_replica}
use Rattle.replica_plain.specs.Worlds.{AreWorlds, IsHonest}
use Rattle.replica_plain.proofs.SyncSteps.{first_world_follows}
use Rattle.reflector_core.specs.PlainSession.{PlainSession}
use Rattle.reflector_core.specs.declared.request.Request.{Request}
use Rattle.reflector_core.specs.declared.request.Request.TheVariants.{Join, Send, Tick, Leave, Offer, Pull}
use Rattle.reflector_core.proofs.GrowthLaws.{kept-offer, kept-others}
use Rattle.session_lock.specs.declared.knowledge.Item.{Item}
use Rattle.session_lock.specs.declared.knowledge.Item.TheVariants.{Did, Void, Unkept}
use Rattle.session_lock.specs.History.{after_item, calls_of, has, play_from}
use Rattle.session_lock.proofs.Histories.{play_snoc}
use Rattle.connection.specs.Exchanges.{exchanges_in}
use Rattle.connection.specs.Phases.{Opening, talk_walk}
use Rattle.connection.specs.TalkServed.{frames_of}
use Rattle.reflect_server.specs.Connections.{HasTalk, ServedConnection, callers_of}
use Rattle.reflect_server.specs.Opening.{gives_later}
use Rattle.run_steps.specs.Outside.{LinksTell}
use Rattle.view_shell.specs.Viewers.{first_phase}
use Rattle.view_follows.specs.AnyEnds.{BeginAndFollow, HasRun, IsLeaveOrMiss, WasKept, WasOffered}
use Rattle.view_follows.specs.BothEnds.{IsLinkBetween}
use Rattle.view_follows.specs.Links.{BeginsHonestly, IsServedBy, LinkTalk, links_in}
use Rattle.view_follows.specs.Offers.{IsOfFollower}
use Rattle.view_follows.specs.Sessions.{BeginInOrder, BeginsBefore, ComeTo, ComesTo, FarEnd, IsAmong, IsLinkTo, IsLinkOfView, IsViewOf, ReflectorRun, SessionView, frames_heard}
use Rattle.view_follows.specs.ViewsReplay.{IsServedVisit}
use Rattle.view_follows.proofs.LaterRuns.{Lasts, all_talk, begins_from, served_still}
use Rattle.view_follows.proofs.Lists.{all_at, all_back, all_both, all_contains, all_so}
use Rattle.view_follows.proofs.Meeting.{links_meet}
use Rattle.view_follows.proofs.Offering.{IsGoodExchange, IsGoodFrame, IsGoodOffer, comes_good, good_frames, talk_is_good}
use Rattle.view_follows.proofs.Openings.{opens_honestly, talk_opens}
use Rattle.view_follows.proofs.Places.{find_caller, is_earlier, item_holds, offer_is_called, same_front}
use Rattle.view_follows.proofs.ServesOn.{spelled_alike}
use Rattle.view_follows.proofs.Stands.{KnowsLog, RealWorlds}
use Rattle.view_follows.proofs.Walking.{link_follows}

-- ---- the ends of a view's links

-- the connection of one of its links, and what stands before it
record EndSplit {C L : Type 0} (runs : List (ReflectorRun C L)) (links : List LinkTalk) (end : FarEnd L) : Type 0 where
  before : List LinkTalk
  link : LinkTalk
  after : List LinkTalk
  is : links ≡ before ++ link ∷ after
  fronts : List (Option (FarEnd L))
  come : ComeTo before fronts
  comes : IsLinkTo link end.connection
  known : AllByRecursion (IsAmong runs) fronts
  order : AllByRecursion (λ (front : Option (FarEnd L)). BeginsBefore runs front (Some end)) fronts

split_at : {C L : Type 0} (runs : List (ReflectorRun C L)) (links : List LinkTalk) (ends : List (Option (FarEnd L))) (k : ℕ) (end : FarEnd L) → k < length ends → slice_index_or ends k (Some end) ≡ Some end
    → ComeTo links ends → AllByRecursion (IsAmong runs) ends → BeginInOrder runs ends → EndSplit runs links end
split_at runs [] [] k end within is come known order = absurd (omega (arith, within))
split_at runs [] (first ∷ ends) k end within is come known order = absurd come
split_at runs (link ∷ links) [] k end within is come known order = absurd come
split_at runs (link ∷ links) (first ∷ ends) zero end within is come known order =
    record { before = []; link = link; after = links; is = refl; fronts = []; come = tt; comes = subst (ComesTo link) is come.0; known = tt; order = tt }
split_at runs (link ∷ links) (first ∷ ends) (suc k) end within is come known order =
    let below : k < length ends = omega (arith, within) in
    let rest = split_at runs links ends k end below is come.1 known.1 order.1 in
    record {
      before = link ∷ rest.before;
      link = rest.link;
      after = rest.after;
      is = ap (λ (l : List LinkTalk). link ∷ l) rest.is;
      fronts = first ∷ rest.fronts;
      come = (come.0, rest.come);
      comes = rest.comes;
      known = (known.0, rest.known);
      order = (all_contains (BeginsBefore runs first) ends (Some end) order.0 (k, below, is), rest.order);
    }

module _ {C L : Type 0} (gives : C → ℕ → Type 0) (id : SessionId) (links : LinksTell L) (founding : Founding) (runs : List (ReflectorRun C L)) (views : List (SessionView L)) (final : PlainSession)
    (laws : AreWorlds (worlds founding id.0)) (legal : IsLegal final.log) (are : AllByRecursion (λ (run : ReflectorRun C L). HasRun gives id links run × Lasts run final) runs) (follow : BeginAndFollow runs)
    (walked : AllByRecursion (IsViewOf founding id.0 runs) views) (all : (number : ℕ) (run : ReflectorRun C L) → slice_get runs number ≡ Some run → AllByRecursion (IsLinkOfView views number) run.connections) where
  abbrev m : RealWorlds
  m = worlds founding id.0

  abbrev log : List Entry
  log = final.log

  abbrev TalksOf : ReflectorRun C L → ServedConnection L → Type 0
  TalksOf run one = HasTalk (gives_later (gives run.clock) run.opening.horizon) id run.opening links run.history one

  abbrev Fact : ReflectorRun C L → Type 0
  Fact run = HasRun gives id links run × Lasts run final

  -- what is kept behind a front of the run's history is honest
  abbrev KeptIn : ReflectorRun C L → Type 0
  KeptIn run = (front back : List Item) → front ++ back ≡ run.history → IsHonestBase m log (play_from run.opening front).kept

  -- so is what is kept as long as the caller has made no call
  abbrev OpensIn : ReflectorRun C L → ℕ → Type 0
  OpensIn run caller = (front back : List Item) → front ++ back ≡ run.history → calls_of (caller ∷ []) front ≡ [] → IsHonestBase m log (play_from run.opening front).kept

  abbrev Opens : Option (FarEnd L) → Type 0
  Opens None = Unit {0}
  Opens (Some end) = (run : ReflectorRun C L) → slice_get runs end.run ≡ Some run → OpensIn run end.connection.caller

  -- of all runs of a lower number
  abbrev KeptBefore : ℕ → Type 0
  KeptBefore number = (place : ℕ) (run : ReflectorRun C L) → place < number → slice_get runs place ≡ Some run → KeptIn run

  -- ---- what the log serves

  connection_serves : (run : ReflectorRun C L) → Fact run → (link : LinkTalk) (one : ServedConnection L) → TalksOf run one → IsLinkBetween link one.heard one.sent → OpensIn run one.caller → IsServedBy m log link
  connection_serves run fact link one has between opens =
      let talk = has.talk in
      let walk = talk_walk id (Opening 0) talk.events in
      let served = served_still gives id links final legal run fact.0 fact.1 one has in
      let same : served.frames ≡ walk.sent = spelled_alike served.frames walk.sent served.spelled talk.spelled (sym served.spelling ∙ talk.told) in
      let honest = opens_honestly m log run.opening run.history one.caller walk.asked walk.sent talk.asked (talk_opens id 0 talk.events) opens in
      links_meet m log link one.heard one.sent served (subst (BeginsHonestly m log) (sym same) honest) between

  end_serves : (link : LinkTalk) (end : Option (FarEnd L)) → ComesTo link end → IsAmong runs end → Opens end → IsServedBy m log link
  end_serves link None comes known opens = record { given = []; frames = []; heard = sym comes; served = tt; honest = tt }
  end_serves link (Some end) comes known opens =
      let run = known.0 in
      let fact = all_at Fact runs end.run run are known.1 in
      let has = all_contains (TalksOf run) run.connections end.connection (all_talk gives id links final legal run fact.0 fact.1) known.2 in
      connection_serves run fact link end.connection has comes.between (opens run known.1)

  ends_serve : (of_view : List LinkTalk) (ends : List (Option (FarEnd L))) → ComeTo of_view ends → AllByRecursion (IsAmong runs) ends → AllByRecursion Opens ends → AllByRecursion (IsServedBy m log) of_view
  ends_serve [] [] come known open_so = tt
  ends_serve [] (end ∷ ends) come known open_so = absurd come
  ends_serve (link ∷ of_view) [] come known open_so = absurd come
  ends_serve (link ∷ of_view) (end ∷ ends) come known open_so = (end_serves link end come.0 known.0 open_so.0, ends_serve of_view ends come.1 known.1 open_so.1)

  abbrev Follower : ℕ → List ℕ → Type 0
  Follower time bytes = IsOfFollower m log time bytes

  honest_follower : (time : ℕ) (bytes : List ℕ) → Follower time bytes → IsHonest m log time bytes
  honest_follower time bytes follower = record { world = follower.replica.world; spelled = follower.again; timed = sym follower.timed; follows = follower.follows.follows }

  view_knows : (v : SessionView L) → KnowsLog m log v.view m (new_replica m v.view)
  view_knows v = record { same = refl; its = refl; follows = first_world_follows m log (new_replica m v.view) laws legal refl refl refl }

  -- ---- one run

  module _ (number : ℕ) (run : ReflectorRun C L) (at : slice_get runs number ≡ Some run) (fact : Fact run) (earlier : KeptBefore number) (begins : IsHonestBase m log run.opening.kept) where
    -- what is kept behind so many items, or fewer, is honest
    abbrev KeptUntil : ℕ → Type 0
    KeptUntil n = (front back : List Item) → front ++ back ≡ run.history → length front ≤ n → IsHonestBase m log (play_from run.opening front).kept

    -- behind more items than these the caller has made a call
    abbrev CallsBy : ℕ → ℕ → Type 0
    CallsBy n caller = (front back : List Item) → front ++ back ≡ run.history → calls_of (caller ∷ []) front ≡ [] → length front ≤ n

    -- the connection is one of the run, and of a view
    abbrev IsOfRun : ServedConnection L → Type 0
    IsOfRun one = TalksOf run one × IsLinkOfView views number one

    abbrev its_end : ServedConnection L → FarEnd L
    its_end one = record { run = number; connection = one }

    own_opens : (n : ℕ) → KeptUntil n → (caller : ℕ) → CallsBy n caller → OpensIn run caller
    own_opens n kept caller calls front back is none = kept front back is (calls front back is none)

    -- the connections of earlier links open so too
    earlier_opens : (n : ℕ) → KeptUntil n → (one : ServedConnection L) (end : Option (FarEnd L)) → CallsBy n one.caller → BeginsBefore runs end (Some (its_end one)) → Opens end
    earlier_opens n kept one None calls before = tt
    earlier_opens n kept one (Some end) calls (inl lower) = λ other there front back is none. earlier end.run other lower there front back is
    earlier_opens n kept one (Some end) calls (inr here) = λ other there.
        let same : run ≡ other = same_Some run other (sym at ∙ (ap (slice_get runs) (sym here.0) ∙ there)) in
        subst (λ (r : ReflectorRun C L). OpensIn r end.connection.caller) same
        (λ front back is none. own_opens n kept one.caller calls front back is (here.1 run at front back is none))

    -- what was heard on a connection of a view
    heard_follows : (n : ℕ) → KeptUntil n → (one : ServedConnection L) → IsOfRun one → CallsBy n one.caller → AllByRecursion (IsGoodFrame Follower) (frames_heard one.heard)
    heard_follows n kept one of_run calls =
        let v = of_run.1.0 in
        let end = of_run.1.2 in
        let its = all_contains (IsViewOf founding id.0 runs) views v walked of_run.1.1 in
        let split = split_at runs (links_in v.steps) v.ends end.0 (its_end one) end.1 end.2 its.links its.known its.order in
        let open_so = all_so (λ (end : Option (FarEnd L)). BeginsBefore runs end (Some (its_end one))) Opens (λ end before. earlier_opens n kept one end calls before) split.fronts split.order in
        let before = ends_serve split.before split.fronts split.come split.known open_so in
        let served = connection_serves run fact split.link one of_run.0 split.comes.between (own_opens n kept one.caller calls) in
        let sent = link_follows m laws log legal v.view (first_phase founding id.0 v.view v.address v.lines) v.steps v.last split.before split.link split.after (view_knows v) its.walks split.is before served in
        comes_good Follower (frames_heard one.heard) split.link.sent split.comes.sent sent

    all_of_run : AllByRecursion IsOfRun run.connections
    all_of_run = all_both (TalksOf run) (IsLinkOfView views number) run.connections (all_talk gives id links final legal run fact.0 fact.1) (all number run at)

    offers_follow : (one : ServedConnection L) → TalksOf run one → AllByRecursion (IsGoodFrame Follower) (frames_heard one.heard) → AllByRecursion (IsGoodExchange Follower) (exchanges_in run.opening run.history one.caller)
    offers_follow one has heard =
        let talk = has.talk in
        subst (AllByRecursion (IsGoodExchange Follower)) (sym talk.asked) (talk_is_good Follower id talk.events (subst (λ (h : List Heard). AllByRecursion (IsGoodFrame Follower) (frames_heard h)) talk.said heard))

    -- who offers is one of the connections
    offers_by : (before behind : List Item) (caller view joined time : ℕ) (bytes : List ℕ) → before ++ Did caller (Offer view joined time bytes) ∷ behind ≡ run.history → has caller (callers_of run.connections) ≡ true
    offers_by before behind caller view joined time bytes is = elim fact.0.did [
      | inl talked ↦
          offer_is_called (gives_later (gives run.clock) run.opening.horizon) run.opening talked.opener caller (callers_of run.connections) run.history before behind view joined time bytes talked.talks.leaves talked.talks.whole is
      | inr left ↦ absurd (all_back IsLeaveOrMiss before (Did caller (Offer view joined time bytes) ∷ behind) (subst (AllByRecursion IsLeaveOrMiss) (sym is) left.leaves)).0
    ]

    offer_is_honest : (n : ℕ) → KeptUntil n → (before behind : List Item) (caller view joined time : ℕ) (bytes : List ℕ) → before ++ Did caller (Offer view joined time bytes) ∷ behind ≡ run.history → length before ≤ n → IsHonest m log time bytes
    offer_is_honest n kept before behind caller view joined time bytes is few =
        let asked : Request = Offer view joined time bytes in
        let found = find_caller IsOfRun run.connections caller (offers_by before behind caller view joined time bytes is) all_of_run in
        let one = found.0 in
        let own : before ++ Did one.caller asked ∷ behind ≡ run.history = subst (λ (c : ℕ). before ++ Did c asked ∷ behind ≡ run.history) found.1 is in
        let calls : CallsBy n one.caller = λ front back same none. let early = is_earlier one.caller asked front back before behind (same ∙ sym own) none in omega (arith, early, few) in
        honest_follower time bytes (item_holds (IsGoodExchange Follower) run.opening run.history before behind one.caller asked own (offers_follow one found.2.0 (heard_follows n kept one found.2 calls)))

    -- ---- what is kept

    next_kept : (before : List Item) (item : Item) (behind : List Item) → before ++ item ∷ behind ≡ run.history → KeptUntil (length before) → IsHonestBase m log (after_item (play_from run.opening before) item).kept
    next_kept before (Void caller) behind is kept = kept before (Void caller ∷ behind) is (omega arith)
    next_kept before (Unkept caller) behind is kept = kept before (Unkept caller ∷ behind) is (omega arith)
    next_kept before (Did caller (Offer view joined time bytes)) behind is kept = elim (kept-offer (play_from run.opening before) view joined time bytes) [
      | inl same ↦ subst (IsHonestBase m log) (sym same) (kept before (Did caller (Offer view joined time bytes) ∷ behind) is (omega arith))
      | inr fresh ↦ subst (IsHonestBase m log) (sym fresh) (offer_is_honest (length before) kept before behind caller view joined time bytes is (omega arith))
    ]
    next_kept before (Did caller (Join view now want)) behind is kept =
        subst (IsHonestBase m log) (sym (kept-others (play_from run.opening before) (Join view now want) refl)) (kept before (Did caller (Join view now want) ∷ behind) is (omega arith))
    next_kept before (Did caller (Send view joined number payload now)) behind is kept =
        subst (IsHonestBase m log) (sym (kept-others (play_from run.opening before) (Send view joined number payload now) refl)) (kept before (Did caller (Send view joined number payload now) ∷ behind) is (omega arith))
    next_kept before (Did caller (Tick now)) behind is kept =
        subst (IsHonestBase m log) (sym (kept-others (play_from run.opening before) (Tick now) refl)) (kept before (Did caller (Tick now) ∷ behind) is (omega arith))
    next_kept before (Did caller (Leave view joined now)) behind is kept =
        subst (IsHonestBase m log) (sym (kept-others (play_from run.opening before) (Leave view joined now) refl)) (kept before (Did caller (Leave view joined now) ∷ behind) is (omega arith))
    next_kept before (Did caller (Pull after limit)) behind is kept =
        subst (IsHonestBase m log) (sym (kept-others (play_from run.opening before) (Pull after limit) refl)) (kept before (Did caller (Pull after limit) ∷ behind) is (omega arith))

    kept_more : (before : List Item) (item : Item) (behind : List Item) → before ++ item ∷ behind ≡ run.history → KeptUntil (length before) → KeptUntil (length (before ++ item ∷ []))
    kept_more before item behind is kept = λ front back same few.
        elim (cases_lt (length before) (length front)) [
          | inl more ↦
              let long : length (before ++ item ∷ []) ≡ length before + 1 = length-append before (item ∷ []) in
              let whole = same_front front back (before ++ item ∷ []) behind (same ∙ sym is ∙ sym (append_assoc before (item ∷ []) behind)) (omega (arith, long, more, few)) in
              subst (λ (s : PlainSession). IsHonestBase m log s.kept) (sym (ap (play_from run.opening) whole ∙ play_snoc run.opening before item)) (next_kept before item behind is kept)
          | inr within ↦ kept front back same within
        ]

    kept_from : (before rest : List Item) → before ++ rest ≡ run.history → KeptUntil (length before) → KeptUntil (length run.history)
    kept_from before [] is kept = subst (λ (h : List Item). KeptUntil (length h)) (sym (append-nil before) ∙ is) kept
    kept_from before (item ∷ rest) is kept = kept_from (before ++ item ∷ []) rest (append_assoc before (item ∷ []) rest ∙ is) (kept_more before item rest is kept)

    first_kept : KeptUntil 0
    first_kept [] back is few = begins
    first_kept (item ∷ front) back is few = absurd (omega (arith, few))

    run_kept : KeptIn run
    run_kept front back is =
        let long = sym (ap length is) ∙ length-append front back in
        kept_from [] run.history refl first_kept front back is (omega (arith, long))

    -- ---- what is left to the next run

    front_short : (front back : List Item) → front ++ back ≡ run.history → length front ≤ length run.history
    front_short front back is = let long = sym (ap length is) ∙ length-append front back in omega (arith, long)

    kept_whole : KeptUntil (length run.history)
    kept_whole front back is few = run_kept front back is

    left_is_honest : (kept : Option Base) → WasKept run kept ⊎ WasOffered run kept → IsHonestBase m log kept
    left_is_honest kept (inl was) = subst (IsHonestBase m log) (sym was.at) (run_kept was.beginning was.rest was.whole)
    left_is_honest kept (inr was) =
        let one = was.one in
        let of_run = all_contains IsOfRun run.connections one all_of_run was.among in
        let heard = heard_follows (length run.history) kept_whole one of_run (λ front back is none. front_short front back is) in
        let good = all_contains (IsGoodOffer Follower) (frames_of one.heard) (Some (client.Snap was.base.time was.base.bytes)) (good_frames Follower one.heard heard) was.offers in
        subst (IsHonestBase m log) (sym was.is) (honest_follower was.base.time was.base.bytes (good was.base.time was.base.bytes refl))

  -- ---- all runs

  -- what was kept in it is honest, and so is what it may leave
  abbrev GoesIn : ReflectorRun C L → Type 0
  GoesIn run = KeptIn run × ((kept : Option Base) → WasKept run kept ⊎ WasOffered run kept → IsHonestBase m log kept)

  abbrev GoesBefore : ℕ → Type 0
  GoesBefore number = (place : ℕ) (run : ReflectorRun C L) → place < number → slice_get runs place ≡ Some run → GoesIn run

  began_honestly : (number : ℕ) → GoesBefore number → (run : ReflectorRun C L) → slice_get runs number ≡ Some run → IsHonestBase m log run.opening.kept
  began_honestly number goes run at = elim (begins_from runs number run follow at) [
    | inl new ↦ subst (λ (s : PlainSession). IsHonestBase m log s.kept) (sym new) tt
    | inr from ↦ (goes from.place from.before from.earlier from.at).1 run.opening.kept from.left.kept
  ]

  goes_in : (number : ℕ) → GoesBefore number → (run : ReflectorRun C L) → slice_get runs number ≡ Some run → GoesIn run
  goes_in number goes run at =
      let fact = all_at Fact runs number run are at in
      let kept : KeptBefore number = λ place other lower there. (goes place other lower there).0 in
      let begins = began_honestly number goes run at in
      (run_kept number run at fact kept begins, left_is_honest number run at fact kept begins)

  goes_before : (number : ℕ) → GoesBefore number
  goes_before zero = λ place run lower at. absurd (omega (arith, lower))
  goes_before (suc number) = λ place run lower at.
      elim (cases_lt place number) [
        | inl less ↦ goes_before number place run less at
        | inr other ↦
            let same : place ≡ number = omega (arith, lower, other) in
            goes_in number (goes_before number) run (ap (slice_get runs) (sym same) ∙ at)
      ]

  pub kept_is_honest : (number : ℕ) (run : ReflectorRun C L) → slice_get runs number ≡ Some run → KeptIn run
  kept_is_honest number run at = (goes_in number (goes_before number) run at).0

  -- ---- views

  all_open : (ends : List (Option (FarEnd L))) → AllByRecursion Opens ends
  all_open [] = tt
  all_open (None ∷ ends) = (tt, all_open ends)
  all_open (Some end ∷ ends) = (λ run at front back is none. kept_is_honest end.run run at front back is, all_open ends)

  pub view_is_served : (v : SessionView L) → IsViewOf founding id.0 runs v → IsFounding founding → IsServedVisit founding id.0 v.view v.address v.lines log v.steps v.last
  view_is_served v its program = record {
    program = program;
    legal = legal;
    walks = its.walks;
    serves = ends_serve (links_in v.steps) v.ends its.links its.known (all_open v.ends);
  }
