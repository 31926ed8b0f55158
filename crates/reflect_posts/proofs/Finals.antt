-- What comes of posts that reflect a session, once all have ended and the session is closed.
use Rattle.std.proofs.Common.{◌≡◌, ◌≢◌, inl, inr, ℕ, ◌+◌, ◌*◌, ◌≤◌, Bool, false, All, List, [], ◌∷◌, length, Result, Ok, Err, refl, sym, ap, ◌∙◌, subst, arith}
use Rattle.tea_base.specs.declared.entry.SessionId.{SessionId}
use Rattle.tea_io.specs.Told.{Rose}
use Rattle.tea_io.specs.declared.net.NetCall.{NetCall}
use Rattle.tea_io.specs.declared.net.NetCall.TheVariants.{Listen}
use Rattle.tea_io.specs.declared.net.NetFault.{NetFault}
use Rattle.tea_io.specs.declared.net.NetFault.TheVariants.{Failed}
use Rattle.tea_io.specs.declared.net.NetFault.TheVariants as fault
use Rattle.run_steps.specs.Outside.{LinksTell, NetTells}
use Rattle.reflector_core.specs.PlainSession.{PlainSession}
use Rattle.reflector_core.specs.SessionState.{SessionState}
use Rattle.reflector_core.specs.declared.keeper.CallFault.{CallFault}
use Rattle.reflector_core.specs.declared.keeper.CallFault.TheVariants as call_fault
use Rattle.session_lock.specs.Keeping.{KeepsPlay}
use Rattle.session_lock.specs.Numbers.{count_of}
use Rattle.session_lock.specs.Passes.{PassState, caller, numbers_held}
use Rattle.session_lock.specs.Rules.{all_numbers}
use Rattle.session_lock.proofs.Histories.{sound_start}
use Rattle.id_claims.specs.Passes.{ClaimsState, Closes}
use Rattle.connection.proofs.Talking.{with_more_none}
use Rattle.reflect_server.specs.Connections.{ServedConnection, AreServed, AreToldWithin, callers_of}
use Rattle.reflect_server.specs.Keeping.{KeeperTells, HasNotOpened, HasOnlyOpened, HasOpenedAtMost, IsUnopened, keeper_tells, no_keeper}
use Rattle.reflect_server.specs.Opening.{HasOpened, gives_later}
use Rattle.reflect_server.specs.Passes.{Gathers, Keeps}
use Rattle.reflect_server.specs.Reflects.{EndUnkeptIf, Plays, unheard, unopened_fault}
use Rattle.reflect_server.specs.Views.{StaysByMiss}
use Rattle.reflect_server.specs.declared.reflection.KeptFault.{KeptFault}
use Rattle.reflect_server.specs.declared.reflection.KeptFault.TheVariants as kept_fault
use Rattle.reflect_server.specs.declared.reflection.ServeFault.{ServeFault}
use Rattle.reflect_server.specs.declared.reflection.ServeFault.TheVariants.{ListenFault, WantOfMemory}
use Rattle.reflect_server.proofs.OpeningLaws.{opened_still}
use Rattle.reflect_server.proofs.PassLaws.{keeps_itself, one_caller}
use Rattle.reflect_server.proofs.Reflections.{IsClosedBy, all_served, all_told, fails_when, history_of, none_else}
use Rattle.reflect_server.proofs.StayingViews.{stays_by_miss}
use Rattle.reflect_server.proofs.UnkeptEnds.{all_unkept}
use Rattle.host_server.specs.Claiming.{GathersClaims, InTheEnd, IsBegunClaim, MayBeAll}
use Rattle.host_server.specs.Links.{in_session}
use Rattle.host_server.specs.Prepares.{IsClosedWith}
use Rattle.host_server.specs.Rows.{AtEach, HasGiven, IsOf, IsWhole}
use Rattle.host_server.specs.declared.rooms.Room.{Room}
use Rattle.host_server.proofs.Finals.{all_in_end}
use Rattle.host_server.proofs.NetLaws.{Listens}
use Rattle.host_posts.specs.Hosts.{HasGivenNone, HasIdleBack}
use Rattle.host_posts.specs.Posts.{IsPost, hosted_in, post_numbers}
use Rattle.host_posts.specs.Rounds.{PostsGo}
use Rattle.host_posts.specs.Shares.{HasShares, IsShareOf, SharesTell}
use Rattle.host_posts.specs.declared.posting.PostOutcome.{PostOutcome}
use Rattle.host_posts.specs.declared.running.PostRound.{PostRound}
use Rattle.host_posts.proofs.Finals.{asked_since, hosts_behind, hosts_unheard, hosts_unshared, hosts_want, listened, since_before}
use Rattle.host_posts.proofs.ShareLaws.{shares_before}
use Rattle.reflect_posts.specs.Prepares.{HasServed, IsAlone}
use Rattle.reflect_posts.specs.Reflects.{IsReflected, ReflectsOn, ReflectsUnkeptOn, with_kept_fault}
use Rattle.reflect_posts.specs.declared.service.ReflectedOn.{ReflectedOn}
use Rattle.reflect_posts.proofs.Ones.{all_one, at_first, each_one, first_of, one_in}

-- ---- the lead pass

-- it has numbers for so many posts
pub enough_for : (count : ℕ) (lead : PassState) → count ≤ 64 → numbers_held lead ≡ all_numbers → IsAlone lead → count * post_numbers ≤ count_of lead.spare
enough_for count lead few all alone =
    let one : length lead.callers ≡ 1 = ap length alone in
    let held : length lead.callers + count_of lead.spare ≡ 4294967296 = all in
    omega (arith, few, one, held)

-- what it has come to keeps itself
pub given_keeps : (count : ℕ) (lead now : PassState) → HasGiven count lead now → IsAlone lead → Keeps now now
given_keeps count lead now given alone =
    keeps_itself now (one_caller now (caller lead) (ap (λ (p : PassState). p.callers) given.kept ∙ alone))

pub all_keep : (count : ℕ) (lead : PassState) (now : List PassState) → AtEach (HasGiven count) (lead ∷ []) now → IsAlone lead → All (λ pass. Keeps pass pass) now
all_keep count lead now given alone =
    let one = one_in now (sym given.as_long) in
    all_one (λ (p : PassState). Keeps p p) now one.0 one.1 (given_keeps count lead one.0 (first_of (HasGiven count) lead one.0 now given one.1) alone)

pub whole_of : {K : Type 0} (rooms : List (Room K)) (passes : List PassState) → AtEach IsWhole rooms passes → AtEach IsOf rooms passes
whole_of rooms passes whole = record { as_long = whole.as_long; each = λ place room pass in_rooms in_passes. (whole.each place room pass in_rooms in_passes).0 }

pub first_whole : {K : Type 0} (rooms : List (Room K)) (lead : PassState) → length rooms ≡ 1 → AtEach IsWhole rooms (lead ∷ []) → numbers_held lead ≡ all_numbers
first_whole rooms lead long whole = let room = one_in rooms long in (whole.each 0 room.0 lead (at_first rooms room.0 room.1) refl).1

-- ---- posts that were run

pub served_when : (gives : ℕ → Type 0) (may : Type 0) (listed : List SessionId) (on_demand : Bool) {N S L K : Type 0} (tells : NetTells N L) (shares : NetTells S L) (links : LinksTell L) (rooms : List (Room K)) (whole : ClaimsState) (count made ran : ℕ)
    (lead : PassState) (start now : PostRound N K) → made ≡ count → ran ≡ count → AtEach (HasGiven (made * post_numbers)) (lead ∷ []) start.lead.seats.items → IsBegunClaim count whole start.lead.claim
    → GathersClaims on_demand ran start.lead.claim now.lead.claim → InTheEnd on_demand listed now.lead.claim.seen (λ ids. PostsGo gives may ids on_demand tells shares links rooms ran start now)
    → HasServed gives may listed on_demand tells shares links rooms whole count lead start.net now
served_when gives may listed on_demand tells shares links rooms whole count made ran lead start now made_is ran_is given begun claim go = record {
  start = start;
  same_net = refl;
  given = subst (λ (n : ℕ). AtEach (HasGiven (n * post_numbers)) (lead ∷ []) start.lead.seats.items) made_is given;
  begun = begun;
  claim = subst (λ (n : ℕ). GathersClaims on_demand n start.lead.claim now.lead.claim) ran_is claim;
  go = subst (λ (n : ℕ). InTheEnd on_demand listed now.lead.claim.seen (λ ids. PostsGo gives may ids on_demand tells shares links rooms n start now)) ran_is go;
}

module _ (gives : ℕ → Type 0) (may : Type 0) (id : SessionId) {N S L K : Type 0} (tells : NetTells N L) (parts : SharesTell N S L) (links : LinksTell L) (room : Room K) (whole : ClaimsState) (count : ℕ) (lead : PassState) (net : N) (now : PostRound N K)
    (served : HasServed gives may (id ∷ []) false tells parts.share links (room ∷ []) whole count lead net now) (listed : whole.listed ≡ id ∷ []) (ids : List SessionId) (closes : Closes whole.listed now.lead.claim ids) where
  -- no other id was claimed
  in_end : MayBeAll false (id ∷ []) now.lead.claim.seen (id ∷ [])
  in_end =
      let closed = subst (λ (l : List SessionId). Closes l now.lead.claim ids) listed closes in
      let all = all_in_end false (id ∷ []) ids count whole served.start.lead.claim now.lead.claim served.begun served.claim closed in
      subst (MayBeAll false (id ∷ []) now.lead.claim.seen) (all.still refl) all

  abbrev go : PostsGo gives may (id ∷ []) false tells parts.share links (room ∷ []) count served.start now
  go = served.go (id ∷ []) in_end

  abbrev first : (p : PassState) × (served.start.lead.seats.items ≡ p ∷ [])
  first = one_in served.start.lead.seats.items (sym served.given.as_long)

  abbrev last : (p : PassState) × (now.lead.seats.items ≡ p ∷ [])
  last = one_in now.lead.seats.items (sym go.passes.as_many)

  given : HasGiven (count * post_numbers) lead first.0
  given = first_of (HasGiven (count * post_numbers)) lead first.0 served.start.lead.seats.items served.given first.1

  gathers : Gathers gives id links first.0 (count * post_numbers) (in_session 0 (hosted_in go.posts)) last.0
  gathers = go.passes.each 0 room first.0 last.0 refl (at_first served.start.lead.seats.items first.0 first.1) (at_first now.lead.seats.items last.0 last.1) id refl

  -- the pass has all numbers again
  pub whole_again : lead.session ≡ room.shared.session → numbers_held lead ≡ all_numbers → AtEach IsWhole (room ∷ []) now.lead.seats.items
  whole_again of all =
      each_one IsWhole room last.0 now.lead.seats.items last.1
      (gathers.session ∙ (ap (λ (p : PassState). p.session) given.kept ∙ of), gathers.numbers ∙ (given.numbers ∙ all))

  began : first.0.opening ≡ lead.opening
  began = ap (λ (p : PassState). p.opening) given.kept

  closed_by : (session : SessionState) → IsClosedWith last.0 session → IsClosedBy first.0.opening last.0 session.plain
  closed_by session closed = record {
    plays = subst (λ (o : PlainSession). Plays o last.0.seen session.plain) gathers.opening (record { play = closed.play; sound = closed.sound; events = closed.events });
    calls = closed.calls;
    numbers = closed.numbers;
  }

  module _ {Q : Type 0} (holds : Q → PlainSession → Type 0) (shut : Q → Type 0) (faults : Q → ℕ) (begun : ℕ) (keeper : Q) (opened : HasOpened gives lead.opening lead) (session : SessionState) (closed : IsClosedWith last.0 session)
      (keeps : KeepsPlay holds shut faults begun last.0.opening last.0.seen keeper) where
    first_keeps : KeepsPlay holds shut faults begun first.0.opening last.0.seen keeper
    first_keeps = subst (λ (o : PlainSession). KeepsPlay holds shut faults begun o last.0.seen keeper) gathers.opening keeps

    reflected_first : IsReflected gives id first.0.opening (keeper_tells holds shut faults begun first.0.opening keeper) links (in_session 0 (hosted_in go.posts)) session.plain
    reflected_first =
        let connections = in_session 0 (hosted_in go.posts) in
        let opening = first.0.opening in
        let opens : HasOpened gives opening first.0 = subst (λ (o : PlainSession). HasOpened gives o first.0) (sym began) (opened_still gives lead.opening lead first.0 given.kept opened) in
        let ended = closed_by session closed in
        let history = history_of gives id links first.0 last.0 session.plain (count * post_numbers) connections opens gathers ended in
        let sound = ended.plays.sound in
        let lines = all_served gives id opening links last.0.seen connections sound gathers.talks in
        let told = all_told gives id opening links last.0.seen connections sound gathers.talks in
        let stays = stays_by_miss gives id opening links last.0.seen (caller first.0) connections (sound_start opening last.0.seen sound).legal history.leaves gathers.talks
        (λ n other. none_else (caller first.0 ∷ callers_of connections) last.0.seen n history.whole other) in
        record {
          history = last.0.seen;
          opener = caller first.0;
          talks = history;
          plays = ended.plays;
          served = subst (λ (s : PlainSession). AreServed s.log connections) (sym ended.plays.play) lines;
          ticks = subst (λ (s : PlainSession). AreToldWithin s.horizon connections) (sym ended.plays.play) told;
          stays = subst (λ (s : PlainSession). StaysByMiss opening (caller first.0) (callers_of connections) last.0.seen s.log) (sym ended.plays.play) stays;
          keeps = first_keeps;
          unkept =
              all_unkept gives id opening links last.0.seen (keeper_tells holds shut faults begun opening keeper).failed connections
              (fails_when holds shut faults begun opening last.0.seen keeper first_keeps) gathers.talks;
        }

    reflected_all : IsReflected gives id lead.opening (keeper_tells holds shut faults begun lead.opening keeper) links (in_session 0 (hosted_in go.posts)) session.plain
    reflected_all =
        subst (λ (o : PlainSession). IsReflected gives id o (keeper_tells holds shut faults begun o keeper) links (in_session 0 (hosted_in go.posts)) session.plain) began reflected_first

    shares_of : All (IsShareOf tells parts.share links net) go.posts
    shares_of = subst (λ (n : N). All (IsShareOf tells parts.share links n) go.posts) served.same_net go.own

    back_of : HasShares tells links net now.net go.posts
    back_of = subst (λ (n : N). HasShares tells links n now.net go.posts) served.same_net go.net

    reflected_on : (before : N) (outcomes : List PostOutcome) → HasGivenNone tells before net → tells.asked net ≡ tells.asked before → parts.shared now.net ≡ parts.shared before → outcomes ≡ now.outcomes.items
        → ReflectsOn gives may id lead.opening (keeper_tells holds shut faults begun lead.opening keeper) tells parts links [] count before now.net (Ok (record { session = session; posts = outcomes }))
    reflected_on before outcomes none asked shared outcomes_are = record {
      posts = go.posts;
      number = go.number;
      shares = shares_before tells parts.share links before net go.posts none.over shares_of;
      shared = shared;
      net = record { since = net; none = none; back = back_of };
      asked = back_of.asked ∙ (asked ∙ sym (with_more_none (tells.asked before)));
      outcomes = subst (AtEach (IsPost may) go.posts) (sym outcomes_are) go.outcomes;
      routed = go.routed;
      session = reflected_all;
    }

  -- what was reflected, once the session was closed with its last pass
  pub reflected_when : {Q : Type 0} (holds : Q → PlainSession → Type 0) (shut : Q → Type 0) (faults : Q → ℕ) (keeper : Q) (session : SessionState) (before : N) (outcomes : List PostOutcome)
      → HasOpened gives lead.opening lead → AtEach (λ r p. IsClosedWith p session) (room ∷ []) now.lead.seats.items → AtEach (λ r p. KeepsPlay holds shut faults r.shared.faults p.opening p.seen keeper) (room ∷ []) now.lead.seats.items
      → HasGivenNone tells before net → tells.asked net ≡ tells.asked before → parts.shared now.net ≡ parts.shared before → outcomes ≡ now.outcomes.items
      → ReflectsOn gives may id lead.opening (keeper_tells holds shut faults room.shared.faults lead.opening keeper) tells parts links [] count before now.net (Ok (record { session = session; posts = outcomes }))
  reflected_when holds shut faults keeper session before outcomes opened closed keeps none asked shared outcomes_are =
      reflected_on holds shut faults room.shared.faults keeper opened session
      (first_of (λ (r : Room K) (p : PassState). IsClosedWith p session) room last.0 now.lead.seats.items closed last.1)
      (first_of (λ (r : Room K) (p : PassState). KeepsPlay holds shut faults r.shared.faults p.opening p.seen keeper) room last.0 now.lead.seats.items keeps last.1)
      before outcomes none asked shared outcomes_are

-- ---- answers

module _ (gives : ℕ → Type 0) (may : Type 0) (id : SessionId) (opening : PlainSession) (kept : KeeperTells) {N S L : Type 0} (tells : NetTells N L) (parts : SharesTell N S L) (links : LinksTell L) (count : ℕ) where
  unopened_by : (calls : List NetCall) (why : CallFault) (net : N) → IsUnopened gives opening kept why → ReflectsOn gives may id opening kept tells parts links calls count net net (Err (unopened_fault why))
  unopened_by calls call_fault.WantOfMemory net none = record { net = hosts_want gives may [] false tells parts links count calls net; opened = inl none }
  unopened_by calls call_fault.Unkept net stopped = (refl, stopped)

  -- the session was not opened
  pub reflects_unopened : (calls : List NetCall) (why : CallFault) (answer : KeptFault) (net : N) → answer ≡ unopened_fault why → IsUnopened gives opening kept why → ReflectsOn gives may id opening kept tells parts links calls count net net (Err answer)
  reflects_unopened calls why answer net is unopened =
      subst (λ (f : KeptFault). ReflectsOn gives may id opening kept tells parts links calls count net net (Err f)) (sym is) (unopened_by calls why net unopened)

  unheard_by : {T : Type 0} (address : List ℕ) (fault : NetFault) (before now : N) → parts.shared now ≡ parts.shared before → Listens tells links {T = T} address (Err fault) before now → HasOnlyOpened gives opening kept
      → ReflectsOn gives may id opening kept tells parts links (Listen address ∷ []) count before now (Err (unheard fault))
  unheard_by {T} address Failed before now shared listens opened = record { net = hosts_unheard gives may [] false tells parts links count {T = T} address Failed ListenFault before now refl shared listens; opened = opened }
  unheard_by {T} address fault.WantOfMemory before now shared listens opened = record {
    net = hosts_unheard gives may [] false tells parts links count {T = T} address fault.WantOfMemory WantOfMemory before now refl shared listens;
    opened = inr opened;
  }

  -- the net did not listen
  pub reflects_unheard : {T : Type 0} (address : List ℕ) (fault : NetFault) (answer : KeptFault) (before now : N) → answer ≡ unheard fault → parts.shared now ≡ parts.shared before → Listens tells links {T = T} address (Err fault) before now
      → HasOnlyOpened gives opening kept → ReflectsOn gives may id opening kept tells parts links (Listen address ∷ []) count before now (Err answer)
  reflects_unheard {T} address fault answer before now is shared listens opened =
      subst (λ (f : KeptFault). ReflectsOn gives may id opening kept tells parts links (Listen address ∷ []) count before now (Err f)) (sym is) (unheard_by {T = T} address fault before now shared listens opened)

  unshared_by : (fault : NetFault) (before now : N) → parts.shared now ≡ parts.shared before → HasIdleBack tells links before now → tells.asked now ≡ tells.asked before → (fault ≡ Failed → Rose (tells.faults before) (tells.faults now))
      → HasOnlyOpened gives opening kept → ReflectsOn gives may id opening kept tells parts links [] count before now (Err (unheard fault))
  unshared_by Failed before now shared back asked rose opened = record { net = hosts_unshared gives may [] false tells parts links count Failed ListenFault before now refl shared back asked rose; opened = opened }
  unshared_by fault.WantOfMemory before now shared back asked rose opened = record {
    net = hosts_unshared gives may [] false tells parts links count fault.WantOfMemory WantOfMemory before now refl shared back asked rose;
    opened = inr opened;
  }

  -- it gave too few shares
  pub reflects_unshared : (fault : NetFault) (answer : KeptFault) (before now : N) → answer ≡ unheard fault → parts.shared now ≡ parts.shared before → HasIdleBack tells links before now → tells.asked now ≡ tells.asked before
      → (fault ≡ Failed → Rose (tells.faults before) (tells.faults now)) → HasOnlyOpened gives opening kept → ReflectsOn gives may id opening kept tells parts links [] count before now (Err answer)
  reflects_unshared fault answer before now is shared back asked rose opened =
      subst (λ (f : KeptFault). ReflectsOn gives may id opening kept tells parts links [] count before now (Err f)) (sym is) (unshared_by fault before now shared back asked rose opened)

  -- behind the call by which the net listened, nothing is Unkept
  pub reflects_behind : {T : Type 0} (address : List ℕ) (value : T) (before mid now : N) (result : Result ReflectedOn KeptFault) → result ≢ Err kept_fault.Unkept → parts.shared mid ≡ parts.shared before → Listens tells links address (Ok value) before mid
      → ReflectsOn gives may id opening kept tells parts links [] count mid now result → ReflectsOn gives may id opening kept tells parts links (Listen address ∷ []) count before now result
  reflects_behind address value before mid now (Ok reflected) never shared listens told = record {
    posts = told.posts;
    number = told.number;
    shares = shares_before tells parts.share links before mid told.posts listens.over told.shares;
    shared = told.shared ∙ shared;
    net = since_before gives may [] false tells parts links count before mid now told.posts (listened gives may [] false tells parts links count address (Ok value) before mid listens) told.net;
    asked = asked_since gives may [] false tells parts links count (Listen address ∷ []) before mid now listens.asked told.asked;
    outcomes = told.outcomes;
    routed = told.routed;
    session = told.session;
  }
  reflects_behind address value before mid now (Err kept_fault.ListenFault) never shared listens told = record {
    net = hosts_behind gives may [] false tells parts links count address value before mid now (Err ListenFault) shared listens told.net;
    opened = told.opened;
  }
  reflects_behind address value before mid now (Err kept_fault.WantOfMemory) never shared listens told = record {
    net = hosts_behind gives may [] false tells parts links count address value before mid now (Err WantOfMemory) shared listens told.net;
    opened = told.opened;
  }
  reflects_behind address value before mid now (Err kept_fault.Unkept) never shared listens told = absurd (never refl)

-- a fault of the net is not told as Unkept
pub never_unheard : (fault : NetFault) (answer : KeptFault) (result : Result ReflectedOn KeptFault) → answer ≡ unheard fault → result ≡ Err answer → result ≢ Err kept_fault.Unkept
never_unheard Failed answer result is told same = let so : answer ≡ kept_fault.ListenFault = is in absurd (cc (so, told, same))
never_unheard fault.WantOfMemory answer result is told same = let so : answer ≡ kept_fault.WantOfMemory = is in absurd (cc (so, told, same))

-- the same, said of the session that began, and of its keeper
pub reflects_of : {K : Type 0} (holds : K → PlainSession → Type 0) (shut : K → Type 0) (faults : K → ℕ) (keeper : K) (gives : ℕ → Type 0) (may : Type 0) (id : SessionId) (since begun first failed : ℕ) (opening session : PlainSession) {N S L : Type 0}
    (tells : NetTells N L) (parts : SharesTell N S L) (links : LinksTell L) (calls : List NetCall) (count : ℕ) (before now : N) (result : Result ReflectedOn KeptFault)
    → since ≡ begun → first ≡ failed → opening ≡ session → ReflectsOn (gives_later gives since) may id opening (keeper_tells holds shut faults first opening keeper) tells parts links calls count before now result
    → ReflectsOn (gives_later gives begun) may id session (keeper_tells holds shut faults failed session keeper) tells parts links calls count before now result
reflects_of holds shut faults keeper gives may id since begun first failed opening session tells parts links calls count before now result time counted is told =
    subst (λ (o : PlainSession). ReflectsOn (gives_later gives begun) may id o (keeper_tells holds shut faults failed o keeper) tells parts links calls count before now result) is
    (subst (λ (n : ℕ). ReflectsOn (gives_later gives begun) may id opening (keeper_tells holds shut faults n opening keeper) tells parts links calls count before now result) counted
    (subst (λ (n : ℕ). ReflectsOn (gives_later gives n) may id opening (keeper_tells holds shut faults first opening keeper) tells parts links calls count before now result) time told))

-- ---- without a keeper

module _ (gives : ℕ → Type 0) (may : Type 0) (id : SessionId) (opening : PlainSession) (kept : KeeperTells) (never : kept.failed → ⊥) {N S L : Type 0} (tells : NetTells N L) (parts : SharesTell N S L) (links : LinksTell L) (count : ℕ) where
  never_unkept : (connections : List (ServedConnection L)) → EndUnkeptIf kept.failed connections → EndUnkeptIf ⊥ connections
  never_unkept [] all = tt
  never_unkept (one ∷ rest) all = ((λ is. never (all.0 is)), never_unkept rest all.1)

  alone : (connections : List (ServedConnection L)) (session : PlainSession) → IsReflected gives id opening kept links connections session → IsReflected gives id opening no_keeper links connections session
  alone connections session told = record {
    history = told.history;
    opener = told.opener;
    talks = told.talks;
    plays = told.plays;
    served = told.served;
    ticks = told.ticks;
    stays = told.stays;
    keeps = tt;
    unkept = never_unkept connections told.unkept;
  }

  opened_only : HasOnlyOpened gives opening kept → HasOnlyOpened gives opening no_keeper
  opened_only opened = record { opener = opened.opener; views = opened.views; here = opened.here; history = opened.history; made = opened.made; keeps = tt }

  opened_most : HasOpenedAtMost gives opening kept → HasOpenedAtMost gives opening no_keeper
  opened_most (inl none) = inl tt
  opened_most (inr opened) = inr (opened_only opened)

  reflects_alone : (calls : List NetCall) (before now : N) (result : Result ReflectedOn ServeFault) → ReflectsOn gives may id opening kept tells parts links calls count before now (with_kept_fault result)
      → ReflectsUnkeptOn gives may id opening tells parts links calls count before now result
  reflects_alone calls before now (Ok reflected) told = record {
    posts = told.posts;
    number = told.number;
    shares = told.shares;
    shared = told.shared;
    net = told.net;
    asked = told.asked;
    outcomes = told.outcomes;
    routed = told.routed;
    session = alone (in_session 0 (hosted_in told.posts)) reflected.session.plain told.session;
  }
  reflects_alone calls before now (Err ListenFault) told = record { net = told.net; opened = opened_only told.opened }
  reflects_alone calls before now (Err WantOfMemory) told = record { net = told.net; opened = opened_most told.opened }

  -- no call of it fails
  pub is_kept : (calls : List NetCall) (before now : N) (result : Result ReflectedOn KeptFault) → ReflectsOn gives may id opening kept tells parts links calls count before now result → result ≢ Err kept_fault.Unkept
  is_kept calls before now result told is =
      let unkept : (now ≡ before) × HasNotOpened gives opening kept = subst (λ (r : Result ReflectedOn KeptFault). ReflectsOn gives may id opening kept tells parts links calls count before now r) is told in never unkept.1.failed

  pub reflects_without : (calls : List NetCall) (before now : N) (answer : Result ReflectedOn KeptFault) (result : Result ReflectedOn ServeFault) → with_kept_fault result ≡ answer
      → ReflectsOn gives may id opening kept tells parts links calls count before now answer → ReflectsUnkeptOn gives may id opening tells parts links calls count before now result
  reflects_without calls before now answer result is told =
      reflects_alone calls before now result (subst (λ (r : Result ReflectedOn KeptFault). ReflectsOn gives may id opening kept tells parts links calls count before now r) (sym is) told)
