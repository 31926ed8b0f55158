-- What comes of a host, from what was accepted, given back and closed.
use Rattle.std.proofs.Common.{◌≡◌, ◌⊎◌, inl, ℕ, ◌≤◌, Bool, true, false, All, List, [], ◌∷◌, ◌++◌, append_assoc, get_or, length, map, reverse, take, vec_len, Option, Some, Ok, Err, refl, sym, ap, ◌∙◌, subst, append-nil, arith}
use Rattle.std.specs.List.{Any, Contains, slice_get}
use Rattle.std.specs.List.{AllByRecursion}
use Rattle.std.proofs.lemmas.List.{length-map, length-reverse, reverse-append, reverse-reverse}
use Rattle.std.proofs.lemmas.Option.{slice_get_within}
use Rattle.atomic_table.specs.Seated.{TableId}
use Rattle.tea_base.specs.declared.entry.SessionId.{SessionId}
use Rattle.tea_io.specs.Told.{with_more}
use Rattle.tea_io.specs.Links.{Counts}
use Rattle.tea_io.specs.Nets.{plus}
use Rattle.tea_io.specs.declared.net.NetCall.{NetCall}
use Rattle.tea_io.specs.declared.net.NetCall.TheVariants.{Listen}
use Rattle.tea_io.specs.declared.net.NetFault.{NetFault}
use Rattle.tea_io.specs.declared.net.NetFault.TheVariants.{Failed, WantOfMemory}
use Rattle.run_steps.specs.Outside.{LinksTell, NetTells}
use Rattle.reflector_core.specs.PlainSession.{PlainSession}
use Rattle.reflector_core.specs.SessionState.{SessionState}
use Rattle.reflector_core.specs.Play.{first_session}
use Rattle.id_claims.specs.Passes.{ClaimsState, Closes}
use Rattle.id_claims.specs.Passes as claims
use Rattle.session_lock.specs.declared.knowledge.Item.{Item}
use Rattle.session_lock.specs.History.{IsSoundThrough, play_from}
use Rattle.session_lock.specs.Passes.{PassState, first_pass}
use Rattle.connection.proofs.Talking.{with_more_twice}
use Rattle.connection.proofs.TalkLines.{talk_served, talk_told}
use Rattle.reflect_server.specs.Connections.{ServedConnection, HasTalk, AreServed, AreToldWithin, accepted_links, callers_of}
use Rattle.reflect_server.specs.Opening.{HasOpened}
use Rattle.reflect_server.specs.Passes.{Gathers, Keeps}
use Rattle.reflect_server.specs.Reflects.{Plays}
use Rattle.reflect_server.specs.Rounds.{CountsStop, links_of, served_back, served_of, with_links}
use Rattle.reflect_server.specs.Views.{StaysByMiss}
use Rattle.reflect_server.specs.declared.accepting.ServedLink.{ServedLink}
use Rattle.reflect_server.specs.declared.reflection.ServeFault.{ServeFault}
use Rattle.reflect_server.proofs.OpeningLaws.{opened_still}
use Rattle.reflect_server.proofs.PassLaws.{keeps_itself}
use Rattle.reflect_server.proofs.Reflections.{IsClosedBy, Returns, gives_back, history_of, none_else}
use Rattle.reflect_server.proofs.StayingViews.{stays_by_miss}
use Rattle.host_server.specs.Claiming.{Adds, GathersClaims, InTheEnd, IsBegunClaim, MayBeAll}
use Rattle.host_server.specs.Hosts.{AreAlone, AreMade, Hosts, IsAlone, WantsMemory}
use Rattle.host_server.specs.Links.{HasMade, HostedLink, connections_of, ends_of, in_session}
use Rattle.host_server.specs.Prepares.{AreClosed, IsBegun, IsClosedWith, bare_all, unheard}
use Rattle.host_server.specs.Rounds.{GoesAround, bare, end_in, ends_in, roomed_back, roomed_of}
use Rattle.host_server.specs.Rows.{AtEach, IsOf, IsWhole, rooms_for}
use Rattle.host_server.specs.declared.accepting.HostRound.{HostRound}
use Rattle.host_server.specs.declared.hosting.HostEnd.{HostEnd}
use Rattle.host_server.specs.declared.hosting.Hosted.{Hosted}
use Rattle.host_server.specs.declared.rooms.Room.{Room}
use Rattle.host_server.specs.declared.serving.RoomedLink.{RoomedLink}
use Rattle.host_server.proofs.NetLaws.{Listens, asked_at_most, asked_behind, asks_for, counted_behind, nothing_back, returns_behind}
use Rattle.host_server.proofs.Places.{at_all, element_at, get_take, take_get, take_long}

-- ---- a session

-- nobody is here in a new session
new_opened : (gives : ℕ → Type 0) (table : TableId) → HasOpened gives first_session (first_pass table first_session)
new_opened gives table = record { one = refl; views = []; here = λ view above. refl; made = tt }

-- each connection was sent what the log serves it, and no TICK is above the horizon
module _ (gives : ℕ → Type 0) (id : SessionId) {L : Type 0} (links : LinksTell L) (history : List Item) (sound : IsSoundThrough first_session history) where
  all_served : (connections : List (ServedConnection L)) → AllByRecursion (HasTalk gives id first_session links history) connections → AreServed (play_from first_session history).log connections
  all_served [] talks = tt
  all_served (one ∷ rest) talks = (talk_served gives id first_session history one.caller one.heard one.sent one.ended sound talks.0.talk, all_served rest talks.1)

  all_told : (connections : List (ServedConnection L)) → AllByRecursion (HasTalk gives id first_session links history) connections → AreToldWithin (play_from first_session history).horizon connections
  all_told [] talks = tt
  all_told (one ∷ rest) talks = (talk_told gives id first_session history one.caller one.heard one.sent one.ended sound talks.0.talk, all_told rest talks.1)

-- the session was closed with this pass, which knows how it began
closed_by : (lead : PassState) (session : SessionState) → lead.opening ≡ first_session → IsClosedWith lead session → IsClosedBy first_session lead session.plain
closed_by lead session is closed = record {
  plays = subst (λ (o : PlainSession). Plays o lead.seen session.plain) is (record { play = closed.play; sound = closed.sound; events = closed.events });
  calls = closed.calls;
  numbers = closed.numbers;
}

module _ (gives : ℕ → Type 0) (id : SessionId) {L : Type 0} (links : LinksTell L) (table : TableId) (count : ℕ) (lead last : PassState) (connections : List (ServedConnection L)) (session : SessionState)
    (kept : lead ≡ record (first_pass table first_session) { spare = lead.spare }) (gathers : Gathers gives id links lead count connections last) (closed : IsClosedWith last session) where
  gathered : Gathers gives id links (record (first_pass table first_session) { spare = lead.spare }) count connections last
  gathered = subst (λ (p : PassState). Gathers gives id links p count connections last) kept gathers

  pub alone_by : IsAlone gives id links connections session.plain
  alone_by =
      let all = gathered in
      let opened = opened_still gives first_session (first_pass table first_session) (record (first_pass table first_session) { spare = lead.spare }) refl (new_opened gives table) in
      let ended = closed_by last session all.opening closed in
      let history = history_of gives id links (record (first_pass table first_session) { spare = lead.spare }) last session.plain count connections opened all ended in
      let served = all_served gives id links last.seen ended.plays.sound connections all.talks in
      let told = all_told gives id links last.seen ended.plays.sound connections all.talks in
      let stays = stays_by_miss gives id first_session links last.seen 0 connections tt history.leaves all.talks (λ n other. none_else (0 ∷ callers_of connections) last.seen n history.whole other) in
      record {
        history = last.seen;
        opener = 0;
        talks = history;
        plays = ended.plays;
        served = subst (λ (s : PlainSession). AreServed s.log connections) (sym ended.plays.play) served;
        ticks = subst (λ (s : PlainSession). AreToldWithin s.horizon connections) (sym ended.plays.play) told;
        stays = subst (λ (s : PlainSession). StaysByMiss first_session 0 (callers_of connections) last.seen s.log) (sym ended.plays.play) stays;
      }

-- ---- the ids in the end

none_of : (ids : List SessionId) → All (Contains []) ids → ids ≡ []
none_of [] all = refl
none_of (id ∷ ids) all = let one = all 0 id (omega arith) in absurd (let below = one.1 in omega (arith, below))

added_all : (holds : SessionId → Type 0) (before now : List SessionId) → Adds holds before now → before ≡ [] → All holds now
added_all holds before now adds none = subst (All holds) (sym (ap (λ (l : List SessionId). l ++ adds.more) none) ∙ adds.are) adds.each

contained : (holds : SessionId → Type 0) (ids : List SessionId) (id : SessionId) → All holds ids → Contains ids id → holds id
contained holds ids id all (k, below, is) = subst holds is (all k id below)

-- all that were claimed are so
pub later_all : (holds : SessionId → Type 0) (listed ids : List SessionId) (lead last : claims.PassState) → lead.made ≡ [] → Adds holds lead.made last.made → (closes : Closes listed last ids) → All holds closes.later
later_all holds listed ids lead last none adds closes k d below =
    contained holds last.made (get_or closes.later k d) (added_all holds lead.made last.made adds none) (closes.asked k d below)

-- and where none was claimed, there are none
pub later_none : (listed ids : List SessionId) (last : claims.PassState) → last.made ≡ [] → (closes : Closes listed last ids) → closes.later ≡ []
later_none listed ids last none closes = none_of closes.later (subst (λ (l : List SessionId). All (Contains l) closes.later) none closes.asked)

-- the ids with which the claims were closed
pub all_in_end : (on_demand : Bool) (listed ids : List SessionId) (count : ℕ) (whole : ClaimsState) (lead last : claims.PassState) → IsBegunClaim count whole lead → GathersClaims on_demand count lead last → Closes listed last ids
    → MayBeAll on_demand listed last.seen ids
all_in_end on_demand listed ids count whole lead last begun gathers closes = record {
  begins = (closes.later, closes.grows);
  grows = ([], append-nil last.seen ∙ closes.seen);
  few = closes.few;
  still = λ still.
      sym closes.grows ∙ (ap (λ (l : List SessionId). listed ++ l) (later_none listed ids last (gathers.none still ∙ begun.made) closes) ∙ append-nil listed);
}

-- there is a room for each of them
pub all_fit : {K : Type 0} (on_demand : Bool) (listed seen ids : List SessionId) (rooms : List (Room K)) → MayBeAll on_demand listed seen ids → length rooms ≡ rooms_for on_demand listed → length ids ≤ length rooms
all_fit true listed seen ids rooms all many = let few = all.few in omega (arith, few, many)
all_fit false listed seen ids rooms all many = let same : length ids ≡ length listed = ap length (all.still refl) in omega (arith, same, many)

pub are_made : (on_demand : Bool) {L : Type 0} (links : LinksTell L) (hosted : List (HostedLink L)) (listed ids : List SessionId) (count : ℕ) (whole : ClaimsState) (lead last : claims.PassState)
    → IsBegunClaim count whole lead → GathersClaims on_demand count lead last → Closes listed last ids → Adds (λ id. Any (HasMade ids links id) hosted) lead.made last.made → AreMade listed on_demand links hosted ids
are_made on_demand links hosted listed ids count whole lead last begun gathers closes adds = record {
  others = closes.later;
  are = closes.grows;
  new = closes.new;
  made = later_all (λ id. Any (HasMade ids links id) hosted) listed ids lead last begun.made adds closes;
  none = λ still. later_none listed ids last (gathers.none still ∙ begun.made) closes;
  few = closes.few;
}

-- ---- all sessions

module _ (gives : ℕ → Type 0) (ids : List SessionId) (on_demand : Bool) {N L K : Type 0} (tells : NetTells N L) (links : LinksTell L) (rooms : List (Room K)) (count : ℕ) (before mid : HostRound N L K)
    (leads : AtEach (IsBegun count) rooms before.lead.seats.items) (round : GoesAround gives ids on_demand tells links rooms count before mid) (fits : length ids ≤ length rooms) where
  many_mid : length ids ≤ length mid.lead.seats.items
  many_mid = let many = round.passes.as_many in omega (arith, many, fits)

  -- the passes of the sessions that were made have all numbers again
  pub whole_again : AtEach IsWhole (take (length ids) rooms) (take (length ids) mid.lead.seats.items)
  whole_again = record {
    as_long = take_long (length ids) rooms fits ∙ sym (take_long (length ids) mid.lead.seats.items many_mid);
    each = λ place room last in_rooms in_mid.
        let below = slice_get_within (take (length ids) rooms) place room in_rooms in
        let long = take_long (length ids) rooms fits in
        let id = element_at ids place (omega (arith, below, long)) in
        at place id.0 room last id.1 (take_get (length ids) rooms place room in_rooms) (take_get (length ids) mid.lead.seats.items place last in_mid);
  }
    where
      at : (place : ℕ) (id : SessionId) (room : Room K) (last : PassState) → slice_get ids place ≡ Some id → slice_get rooms place ≡ Some room → slice_get mid.lead.seats.items place ≡ Some last → IsWhole room last
      at place id room last in_ids in_rooms in_mid =
          let within = slice_get_within rooms place room in_rooms in
          let lead = element_at before.lead.seats.items place (let long = leads.as_long in omega (arith, long, within)) in
          let one = leads.each place room lead.0 in_rooms lead.1 in
          let gathers = round.passes.each place room lead.0 last in_rooms lead.1 in_mid id in_ids in
          let given = one.given.numbers in
          let numbers = gathers.numbers in
          (gathers.session ∙ ap (λ (p : PassState). p.session) one.given.kept, numbers ∙ given)

  pub all_alone : (sessions : List SessionState) → AreClosed (take (length ids) mid.lead.seats.items) sessions → AreAlone gives ids links round.hosted sessions
  all_alone sessions closed = record {
    as_many = sym closed.as_long ∙ take_long (length ids) mid.lead.seats.items many_mid;
    each = λ place id session in_ids in_sessions.
        let below = slice_get_within ids place id in_ids in
        let room = element_at rooms place (omega (arith, below, fits)) in
        at place room.0 session room.1 in_sessions id in_ids;
  }
    where
      at : (place : ℕ) (room : Room K) (session : SessionState) → slice_get rooms place ≡ Some room → slice_get sessions place ≡ Some session → (id : SessionId) → slice_get ids place ≡ Some id
          → IsAlone gives id links (in_session place round.hosted) session.plain
      at place room session in_rooms in_sessions id in_ids =
          let within = slice_get_within rooms place room in_rooms in
          let lead = element_at before.lead.seats.items place (let long = leads.as_long in omega (arith, long, within)) in
          let last = element_at mid.lead.seats.items place (let long = round.passes.as_many in omega (arith, long, within)) in
          let one = leads.each place room lead.0 in_rooms lead.1 in
          let gathers = round.passes.each place room lead.0 last.0 in_rooms lead.1 last.1 id in_ids in
          alone_by gives id links room.shared.session count lead.0 last.0 (in_session place round.hosted) session one.given.kept gathers
          (closed.each place last.0 session (get_take (length ids) mid.lead.seats.items place last.0 (slice_get_within ids place id in_ids) last.1) in_sessions)

-- ---- links

map_map : {A B C : Type 0} (f : A → B) (h : B → C) (xs : List A) → map h (map f xs) ≡ map (λ x. h (f x)) xs
map_map f h [] = refl
map_map f h (x ∷ xs) = ap (λ l. h (f x) ∷ l) (map_map f h xs)

map_push : {A B : Type 0} (f : A → B) (xs : List A) (y : A) → map f (xs ++ y ∷ []) ≡ map f xs ++ f y ∷ []
map_push f [] y = refl
map_push f (x ∷ xs) y = ap (λ l. f x ∷ l) (map_push f xs y)

map_reverse : {A B : Type 0} (f : A → B) (xs : List A) → map f (reverse xs) ≡ reverse (map f xs)
map_reverse f [] = refl
map_reverse f (x ∷ xs) =
    ap (map f) (reverse-append (x ∷ []) xs) ∙ (map_push f (reverse xs) x ∙ (ap (λ l. l ++ f x ∷ []) (map_reverse f xs) ∙ sym (reverse-append (f x ∷ []) (map f xs))))

bare_back : {L : Type 0} (hosted : List (HostedLink L)) → bare_all (roomed_back hosted) ≡ served_back (connections_of hosted)
bare_back hosted =
    map_reverse bare (map roomed_of hosted)
    ∙ ap reverse (map_map roomed_of bare hosted ∙ sym (map_map (λ one. one.connection) served_of hosted))

ends_back : {L : Type 0} (hosted : List (HostedLink L)) → ends_in (roomed_back hosted) ≡ ends_of hosted
ends_back hosted = ap (map end_in) (reverse-reverse (map roomed_of hosted)) ∙ map_map roomed_of end_in hosted

-- the links that were served are out
pub served_lent : (gives : ℕ → Type 0) (ids : List SessionId) (on_demand : Bool) {N L K : Type 0} (tells : NetTells N L) (links : LinksTell L) (rooms : List (Room K)) (count : ℕ) (before mid : HostRound N L K)
    → GoesAround gives ids on_demand tells links rooms count before mid → length mid.served.items ≤ tells.lent mid.net
served_lent gives ids on_demand tells links rooms count before mid round =
    let lent = round.net.lent in
    let served = ap length round.served ∙ (length-reverse (map roomed_of round.hosted) ∙ length-map round.hosted roomed_of) in
    let accepted = length-map (connections_of round.hosted) (λ one. one.accepted) ∙ length-map round.hosted (λ one. one.connection) in
    omega (arith, lent, served, accepted)

-- all links were served, and these are the ids in the end
pub record IsOver (gives : ℕ → Type 0) (listed ids : List SessionId) (on_demand : Bool) {N L K : Type 0} (tells : NetTells N L) (links : LinksTell L) (rooms : List (Room K)) (count : ℕ) (before mid : HostRound N L K) : Type 0 where
  pub round : GoesAround gives ids on_demand tells links rooms count before mid
  pub fits : length ids ≤ length rooms
  pub made : AreMade listed on_demand links round.hosted ids

pub over_by : (gives : ℕ → Type 0) (listed ids : List SessionId) (on_demand : Bool) {N L K : Type 0} (tells : NetTells N L) (links : LinksTell L) (rooms : List (Room K)) (count : ℕ) (before mid : HostRound N L K)
    → (n : ℕ) (whole : ClaimsState) (closed : List SessionId) → n ≡ count → whole.listed ≡ listed → ids ≡ closed → length rooms ≡ rooms_for on_demand listed → IsBegunClaim count whole before.lead.claim
    → GathersClaims on_demand n before.lead.claim mid.lead.claim → Closes whole.listed mid.lead.claim closed
    → InTheEnd on_demand listed mid.lead.claim.seen (λ all. GoesAround gives all on_demand tells links rooms n before mid) → IsOver gives listed ids on_demand tells links rooms count before mid
over_by gives listed ids on_demand tells links rooms count before mid n whole closed count_is listed_is ids_are many begun gathered closes ended =
    let closes_so : Closes listed mid.lead.claim ids =
    subst (Closes listed mid.lead.claim) (sym ids_are) (subst (λ (l : List SessionId). Closes l mid.lead.claim closed) listed_is closes) in
    let gathers : GathersClaims on_demand count before.lead.claim mid.lead.claim =
    subst (λ (m : ℕ). GathersClaims on_demand m before.lead.claim mid.lead.claim) count_is gathered in
    let all = all_in_end on_demand listed ids count whole before.lead.claim mid.lead.claim begun gathers closes_so in
    let round : GoesAround gives ids on_demand tells links rooms count before mid =
    subst (λ (m : ℕ). GoesAround gives ids on_demand tells links rooms m before mid) count_is (ended ids all) in
    record {
      round = round;
      fits = all_fit on_demand listed mid.lead.claim.seen ids rooms all many;
      made = are_made on_demand links round.hosted listed ids count whole before.lead.claim mid.lead.claim begun gathers closes_so round.made;
    }

module _ (gives : ℕ → Type 0) (listed ids : List SessionId) (on_demand : Bool) {N L K : Type 0} (tells : NetTells N L) (links : LinksTell L) (rooms : List (Room K)) (count : ℕ) (before mid : HostRound N L K) (now : N)
    (leads : AtEach (IsBegun count) rooms before.lead.seats.items) (over : IsOver gives listed ids on_demand tells links rooms count before mid) where
  abbrev round : GoesAround gives ids on_demand tells links rooms count before mid
  round = over.round

  pub hosted_all : (sessions : List SessionState) (ends : List HostEnd) → Returns tells links mid.net now (bare_all mid.served.items) (vec_len mid.served) → vec_len mid.served ≡ length mid.served.items
      → ends ≡ ends_in mid.served.items → AreClosed (take (length ids) mid.lead.seats.items) sessions
      → Hosts gives listed on_demand tells links [] count before.net now (Ok (record { ids = ids; sessions = sessions; ends = ends; stopped = mid.stopped }))
  hosted_all sessions ends returns long ends_are closed = record {
    hosted = round.hosted;
    net =
        gives_back tells links before.net mid.net now (bare_all mid.served.items) (connections_of round.hosted) mid.stopped round.net (ap bare_all round.served ∙ bare_back round.hosted)
        (subst (Returns tells links mid.net now (bare_all mid.served.items)) (long ∙ sym (length-map mid.served.items bare)) returns);
    asked =
        asks_for (tells.asked before.net) (tells.asked mid.net) (tells.asked now) (accepted_links (connections_of round.hosted)) mid.stopped returns.asked round.net.asked;
    faults = subst (λ (n : ℕ). CountsStop (tells.faults before.net) n mid.stopped) (sym returns.faults) round.net.faults;
    number = round.number;
    ends = ends_are ∙ (ap ends_in round.served ∙ ends_back round.hosted);
    ids = over.made;
    routed = round.routed;
    met = round.met;
    sessions = all_alone gives ids on_demand tells links rooms count before mid leads round over.fits sessions closed;
  }

-- ---- the net that was to listen

module _ (gives : ℕ → Type 0) (listed : List SessionId) (on_demand : Bool) {N L : Type 0} (tells : NetTells N L) (links : LinksTell L) (count : ℕ) where
  pub hosts_behind : {T : Type 0} (address : List ℕ) (value : T) (before mid now : N) (result : Hosted) → Listens tells links address (Ok value) before mid
      → Hosts gives listed on_demand tells links [] count mid now (Ok result) → Hosts gives listed on_demand tells links (Listen address ∷ []) count before now (Ok result)
  hosts_behind address value before mid now result listens told = record {
    hosted = told.hosted;
    net = returns_behind tells links address value before mid now listens (connections_of told.hosted) told.net;
    asked = asked_behind tells links address value before mid now listens (accepted_links (connections_of told.hosted)) result.stopped told.asked;
    faults = counted_behind tells links address value before mid now listens result.stopped told.faults;
    number = told.number;
    ends = told.ends;
    ids = told.ids;
    routed = told.routed;
    met = told.met;
    sessions = told.sessions;
  }

  wants_by : (calls : List NetCall) (before now : N) → (tells.asked now ≡ tells.asked before) ⊎ (tells.asked now ≡ with_more (tells.asked before) calls) → tells.coming now ≡ tells.coming before → tells.over now ≡ tells.over before
      → tells.lent now ≡ tells.lent before → tells.link_counts now ≡ tells.link_counts before → tells.faults before ≤ tells.faults now → WantsMemory tells links calls before now
  wants_by calls before now asked coming over lent counts faults = record {
    net = nothing_back tells links before now coming over lent counts;
    asked = asked;
    faults = faults;
  }

  unheard_by : {T : Type 0} (address : List ℕ) (fault : NetFault) (before now : N) → Listens tells links {T = T} address (Err fault) before now → Hosts gives listed on_demand tells links (Listen address ∷ []) count before now (Err (unheard fault))
  unheard_by {T} address Failed before now listens = record {
    net = nothing_back tells links before now listens.coming listens.over listens.lent listens.counts;
    asked = listens.asked;
    faults = listens.cause.failed refl;
  }
  unheard_by {T} address WantOfMemory before now listens =
      wants_by (Listen address ∷ []) before now (asked_at_most tells links {T = T} address (Err WantOfMemory) before now listens) listens.coming listens.over listens.lent listens.counts listens.cause.later

  pub hosts_unheard : {T : Type 0} (address : List ℕ) (fault : NetFault) (answer : ServeFault) (before now : N) → answer ≡ unheard fault → Listens tells links {T = T} address (Err fault) before now
      → Hosts gives listed on_demand tells links (Listen address ∷ []) count before now (Err answer)
  hosts_unheard {T} address fault answer before now is listens =
      subst (λ (f : ServeFault). Hosts gives listed on_demand tells links (Listen address ∷ []) count before now (Err f)) (sym is) (unheard_by {T = T} address fault before now listens)

  -- no memory was found, and the net was asked nothing
  pub hosts_want : (calls : List NetCall) (net : N) → WantsMemory tells links calls net net
  hosts_want calls net = wants_by calls net net (inl refl) refl refl refl refl (omega arith)

-- ---- links that go back, the last one first

last_first : {A B : Type 0} (f : A → B) (rest : List A) (last : A) → map f (reverse (rest ++ last ∷ [])) ≡ f last ∷ map f (reverse rest)
last_first f rest last = ap (map f) (reverse-append rest (last ∷ []))

module _ {L : Type 0} (all rest : List (RoomedLink L)) (one : RoomedLink L) (is : all ≡ rest ++ one ∷ []) where
  first_link : links_of (bare_all all) ≡ one.link ∷ links_of (bare_all rest)
  first_link = ap links_of (ap bare_all is ∙ map_push bare rest one) ∙ last_first (λ (s : ServedLink L). s.link) (bare_all rest) (bare one)

  first_end : ends_in all ≡ end_in one ∷ ends_in rest
  first_end = ap ends_in is ∙ last_first end_in rest one

  pub ends_next : (before now : List HostEnd) → now ≡ before ++ end_in one ∷ [] → now ++ ends_in rest ≡ before ++ ends_in all
  ends_next before now more =
      ap (λ (l : List HostEnd). l ++ ends_in rest) more ∙ (append_assoc before (end_in one ∷ []) (ends_in rest) ∙ ap (λ (l : List HostEnd). before ++ l) (sym first_end))

  pub over_next : (before now : Option (List L)) → now ≡ with_more before (one.link ∷ []) → with_more now (links_of (bare_all rest)) ≡ with_more before (links_of (bare_all all))
  over_next before now more =
      ap (λ (o : Option (List L)). with_more o (links_of (bare_all rest))) more ∙ (with_more_twice before (one.link ∷ []) (links_of (bare_all rest)) ∙ ap (with_more before) (sym first_link))

  pub counts_next : (counts : L → Counts) (before now : Counts) → now ≡ plus before (counts one.link) → with_links counts now (links_of (bare_all rest)) ≡ with_links counts before (links_of (bare_all all))
  counts_next counts before now more = ap (λ (c : Counts). with_links counts c (links_of (bare_all rest))) more ∙ ap (with_links counts before) (sym first_link)

-- ---- what was prepared

pub begun_of : {K : Type 0} (count : ℕ) (rooms : List (Room K)) (leads : List PassState) → AtEach (IsBegun count) rooms leads → AtEach IsOf rooms leads
begun_of count rooms leads begun = record { as_long = begun.as_long; each = λ place room lead in_rooms in_leads. ap (λ (p : PassState). p.session) (begun.each place room lead in_rooms in_leads).given.kept }

one_alone : {K : Type 0} (count : ℕ) (room : Room K) (lead : PassState) → IsBegun count room lead → Keeps lead lead
one_alone count room lead begun = keeps_itself lead (opened_still (λ time. Unit {0}) first_session (first_pass room.shared.session first_session) lead begun.given.kept (new_opened (λ time. Unit {0}) room.shared.session)).one

pub begun_keeps : {K : Type 0} (count : ℕ) (rooms : List (Room K)) (leads : List PassState) → AtEach (IsBegun count) rooms leads → All (λ lead. Keeps lead lead) leads
begun_keeps count rooms leads begun =
    at_all (λ (p : PassState). Keeps p p) leads
    (λ place lead in_leads.
    let within = slice_get_within leads place lead in_leads in
    let room = element_at rooms place (let long = begun.as_long in omega (arith, long, within)) in
    one_alone count room.0 lead (begun.each place room.0 lead room.1 in_leads))
