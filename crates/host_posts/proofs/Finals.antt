-- What comes of posts in the end, once the ids and the sessions are closed.
use Rattle.std.proofs.Common.{◌≡◌, ◌⊎◌, inl, inr, ℕ, ◌*◌, ◌≤◌, Bool, List, [], ◌∷◌, length, replicate, take, Some, Result, Ok, Err, refl, sym, ap, ◌∙◌, subst, arith}
use Rattle.std.specs.List.{slice_get}
use Rattle.std.proofs.lemmas.Option.{slice_get_within}
use Rattle.tea_base.specs.declared.entry.SessionId.{SessionId}
use Rattle.tea_io.specs.Told.{Rose, with_more}
use Rattle.tea_io.specs.declared.net.NetCall.{NetCall}
use Rattle.tea_io.specs.declared.net.NetCall.TheVariants.{Listen}
use Rattle.tea_io.specs.declared.net.NetFault.{NetFault}
use Rattle.tea_io.specs.declared.net.NetFault.TheVariants.{Failed}
use Rattle.tea_io.specs.declared.net.NetFault.TheVariants as fault
use Rattle.reflect_server.specs.declared.reflection.ServeFault.{ServeFault}
use Rattle.reflect_server.specs.declared.reflection.ServeFault.TheVariants.{ListenFault, WantOfMemory}
use Rattle.run_steps.specs.Outside.{LinksTell, NetTells}
use Rattle.reflector_core.specs.SessionState.{SessionState}
use Rattle.session_lock.specs.Passes.{PassState}
use Rattle.id_claims.specs.Passes.{ClaimsState, Closes}
use Rattle.host_server.specs.Claiming.{GathersClaims, InTheEnd, IsBegunClaim}
use Rattle.host_server.specs.Hosts.{AreAlone, AreMade, IsAlone}
use Rattle.host_server.specs.Links.{in_session}
use Rattle.host_server.specs.Prepares.{AreClosed, IsBegun, unheard}
use Rattle.host_server.specs.Rows.{AtEach, IsWhole, rooms_for}
use Rattle.host_server.specs.declared.rooms.Room.{Room}
use Rattle.connection.proofs.Talking.{with_more_none}
use Rattle.host_server.proofs.Finals.{all_fit, all_in_end, alone_by, are_made}
use Rattle.host_server.proofs.NetLaws.{Listens}
use Rattle.host_server.proofs.Places.{element_at, get_take, take_get, take_long}
use Rattle.host_posts.specs.Hosts.{HasGivenNone, HasIdleBack, HasSharesSince, HostsOn, idle_post}
use Rattle.host_posts.specs.Posts.{IsPost, PostHistory, hosted_in, post_numbers}
use Rattle.host_posts.specs.Rounds.{PostsGo}
use Rattle.host_posts.specs.Shares.{SharesTell}
use Rattle.host_posts.specs.declared.posting.HostedOn.{HostedOn}
use Rattle.host_posts.specs.declared.posting.PostOutcome.{PostOutcome}
use Rattle.host_posts.specs.declared.running.PostRound.{PostRound}
use Rattle.host_posts.proofs.RoundLaws.{shares_none}
use Rattle.host_posts.proofs.ShareLaws.{given_more, given_none, shares_before}

-- ---- the ids and the sessions in the end

-- all posts have ended, and these are the ids in the end
pub record IsOver (gives : ℕ → Type 0) (may : Type 0) (listed ids : List SessionId) (on_demand : Bool) {N S L K : Type 0} (tells : NetTells N L) (parts : SharesTell N S L) (links : LinksTell L) (rooms : List (Room K)) (count : ℕ) (before mid : PostRound N K) : Type 0 where
  pub go : PostsGo gives may ids on_demand tells parts.share links rooms count before mid
  pub fits : length ids ≤ length rooms
  pub made : AreMade listed on_demand links (hosted_in go.posts) ids

pub over_by : (gives : ℕ → Type 0) (may : Type 0) (listed ids : List SessionId) (on_demand : Bool) {N S L K : Type 0} (tells : NetTells N L) (parts : SharesTell N S L) (links : LinksTell L) (rooms : List (Room K)) (count : ℕ) (before mid : PostRound N K)
    → (n : ℕ) (whole : ClaimsState) (closed : List SessionId) → n ≡ count → whole.listed ≡ listed → ids ≡ closed → length rooms ≡ rooms_for on_demand listed → IsBegunClaim count whole before.lead.claim
    → GathersClaims on_demand n before.lead.claim mid.lead.claim → Closes whole.listed mid.lead.claim closed
    → InTheEnd on_demand listed mid.lead.claim.seen (λ all. PostsGo gives may all on_demand tells parts.share links rooms n before mid) → IsOver gives may listed ids on_demand tells parts links rooms count before mid
over_by gives may listed ids on_demand tells parts links rooms count before mid n whole closed count_is listed_is ids_are many begun gathered closes ended =
    let closes_so : Closes listed mid.lead.claim ids =
    subst (Closes listed mid.lead.claim) (sym ids_are) (subst (λ (l : List SessionId). Closes l mid.lead.claim closed) listed_is closes) in
    let gathers : GathersClaims on_demand count before.lead.claim mid.lead.claim =
    subst (λ (m : ℕ). GathersClaims on_demand m before.lead.claim mid.lead.claim) count_is gathered in
    let all = all_in_end on_demand listed ids count whole before.lead.claim mid.lead.claim begun gathers closes_so in
    let go : PostsGo gives may ids on_demand tells parts.share links rooms count before mid =
    subst (λ (m : ℕ). PostsGo gives may ids on_demand tells parts.share links rooms m before mid) count_is (ended ids all) in
    record {
      go = go;
      fits = all_fit on_demand listed mid.lead.claim.seen ids rooms all many;
      made = are_made on_demand links (hosted_in go.posts) listed ids count whole before.lead.claim mid.lead.claim begun gathers closes_so go.made;
    }

module _ (gives : ℕ → Type 0) (may : Type 0) (listed ids : List SessionId) (on_demand : Bool) {N S L K : Type 0} (tells : NetTells N L) (parts : SharesTell N S L) (links : LinksTell L) (rooms : List (Room K)) (count : ℕ) (before mid : PostRound N K)
    (leads : AtEach (IsBegun (count * post_numbers)) rooms before.lead.seats.items) (over : IsOver gives may listed ids on_demand tells parts links rooms count before mid) where
  abbrev go : PostsGo gives may ids on_demand tells parts.share links rooms count before mid
  go = over.go

  many_mid : length ids ≤ length mid.lead.seats.items
  many_mid = let many = go.passes.as_many in let fits = over.fits in omega (arith, many, fits)

  whole_at : (place : ℕ) (id : SessionId) (room : Room K) (last : PassState) → slice_get ids place ≡ Some id → slice_get rooms place ≡ Some room → slice_get mid.lead.seats.items place ≡ Some last → IsWhole room last
  whole_at place id room last in_ids in_rooms in_mid =
      let within = slice_get_within rooms place room in_rooms in
      let lead = element_at before.lead.seats.items place (let long = leads.as_long in omega (arith, long, within)) in
      let one = leads.each place room lead.0 in_rooms lead.1 in
      let gathers = go.passes.each place room lead.0 last in_rooms lead.1 in_mid id in_ids in
      let given = one.given.numbers in
      let numbers = gathers.numbers in
      (gathers.session ∙ ap (λ (p : PassState). p.session) one.given.kept, numbers ∙ given)

  -- the passes of the sessions that were made have all numbers again
  pub whole_again : AtEach IsWhole (take (length ids) rooms) (take (length ids) mid.lead.seats.items)
  whole_again = record {
    as_long = take_long (length ids) rooms over.fits ∙ sym (take_long (length ids) mid.lead.seats.items many_mid);
    each = λ place room last in_rooms in_mid.
        let below = slice_get_within (take (length ids) rooms) place room in_rooms in
        let long = take_long (length ids) rooms over.fits in
        let id = element_at ids place (omega (arith, below, long)) in
        whole_at place id.0 room last id.1 (take_get (length ids) rooms place room in_rooms) (take_get (length ids) mid.lead.seats.items place last in_mid);
  }

  alone_at : (sessions : List SessionState) → AreClosed (take (length ids) mid.lead.seats.items) sessions → (place : ℕ) (room : Room K) (session : SessionState) → slice_get rooms place ≡ Some room
      → slice_get sessions place ≡ Some session → (id : SessionId) → slice_get ids place ≡ Some id → IsAlone gives id links (in_session place (hosted_in go.posts)) session.plain
  alone_at sessions closed place room session in_rooms in_sessions id in_ids =
      let within = slice_get_within rooms place room in_rooms in
      let lead = element_at before.lead.seats.items place (let long = leads.as_long in omega (arith, long, within)) in
      let last = element_at mid.lead.seats.items place (let long = go.passes.as_many in omega (arith, long, within)) in
      let one = leads.each place room lead.0 in_rooms lead.1 in
      let gathers = go.passes.each place room lead.0 last.0 in_rooms lead.1 last.1 id in_ids in
      alone_by gives id links room.shared.session (count * post_numbers) lead.0 last.0 (in_session place (hosted_in go.posts)) session one.given.kept gathers
      (closed.each place last.0 session (get_take (length ids) mid.lead.seats.items place last.0 (slice_get_within ids place id in_ids) last.1) in_sessions)

  all_alone : (sessions : List SessionState) → AreClosed (take (length ids) mid.lead.seats.items) sessions → AreAlone gives ids links (hosted_in go.posts) sessions
  all_alone sessions closed = record {
    as_many = sym closed.as_long ∙ take_long (length ids) mid.lead.seats.items many_mid;
    each = λ place id session in_ids in_sessions.
        let below = slice_get_within ids place id in_ids in
        let room = element_at rooms place (let fits = over.fits in omega (arith, below, fits)) in
        alone_at sessions closed place room.0 session room.1 in_sessions id in_ids;
  }

  pub hosted_all : (net : N) (sessions : List SessionState) (outcomes : List PostOutcome) → HasGivenNone tells net before.net → tells.asked before.net ≡ tells.asked net → parts.shared mid.net ≡ parts.shared net
      → AreClosed (take (length ids) mid.lead.seats.items) sessions → outcomes ≡ mid.outcomes.items
      → HostsOn gives may listed on_demand tells parts links [] count net mid.net (Ok (record { ids = ids; sessions = sessions; posts = outcomes }))
  hosted_all net sessions outcomes none asked shared closed outcomes_are = record {
    posts = go.posts;
    number = go.number;
    shares = shares_before tells parts.share links net before.net go.posts none.over go.own;
    shared = shared;
    net = record { since = before.net; none = none; back = go.net };
    asked = go.net.asked ∙ (asked ∙ sym (with_more_none (tells.asked net)));
    outcomes = subst (AtEach (IsPost may) go.posts) (sym outcomes_are) go.outcomes;
    ids = over.made;
    routed = go.routed;
    met = go.met;
    sessions = all_alone sessions closed;
  }

-- ---- answers

module _ (gives : ℕ → Type 0) (may : Type 0) (listed : List SessionId) (on_demand : Bool) {N S L : Type 0} (tells : NetTells N L) (parts : SharesTell N S L) (links : LinksTell L) (count : ℕ) where
  pub since_none : (before since : N) → HasGivenNone tells before since → HasIdleBack tells links before since
  since_none before since none = record { shares = 0; net = record { since = since; none = none; back = shares_none tells links since } }

  -- memory was wanted before the net was asked
  pub hosts_want : (calls : List NetCall) (net : N) → HostsOn gives may listed on_demand tells parts links calls count net net (Err WantOfMemory)
  hosts_want calls net = record { shared = refl; idle = since_none net net (given_none tells net); asked = inl refl }

  pub listened : {T : Type 0} (address : List ℕ) (result : Result T NetFault) (before now : N) → Listens tells links address result before now → HasGivenNone tells before now
  listened address result before now listens = record {
    coming = listens.coming;
    over = listens.over;
    lent = listens.lent;
    counts = listens.counts;
    faults = listens.cause.later;
  }

  unheard_by : {T : Type 0} (address : List ℕ) (fault : NetFault) (before now : N) → parts.shared now ≡ parts.shared before → Listens tells links {T = T} address (Err fault) before now
      → HostsOn gives may listed on_demand tells parts links (Listen address ∷ []) count before now (Err (unheard fault))
  unheard_by address Failed before now shared listens = record {
    shared = shared;
    idle = since_none before now (listened address _ before now listens);
    asked = listens.asked;
    faults = listens.cause.failed refl;
  }
  unheard_by address fault.WantOfMemory before now shared listens = record {
    shared = shared;
    idle = since_none before now (listened address _ before now listens);
    asked = listens.asked;
  }

  -- the net did not listen
  pub hosts_unheard : {T : Type 0} (address : List ℕ) (fault : NetFault) (answer : ServeFault) (before now : N) → answer ≡ unheard fault → parts.shared now ≡ parts.shared before → Listens tells links {T = T} address (Err fault) before now
      → HostsOn gives may listed on_demand tells parts links (Listen address ∷ []) count before now (Err answer)
  hosts_unheard address fault answer before now is shared listens =
      subst (λ (f : ServeFault). HostsOn gives may listed on_demand tells parts links (Listen address ∷ []) count before now (Err f)) (sym is) (unheard_by address fault before now shared listens)

  unshared_by : (fault : NetFault) (before now : N) → parts.shared now ≡ parts.shared before → HasIdleBack tells links before now → tells.asked now ≡ tells.asked before → (fault ≡ Failed → Rose (tells.faults before) (tells.faults now))
      → HostsOn gives may listed on_demand tells parts links [] count before now (Err (unheard fault))
  unshared_by Failed before now shared back asked rose = record { shared = shared; idle = back; asked = asked ∙ sym (with_more_none (tells.asked before)); faults = rose refl }
  unshared_by fault.WantOfMemory before now shared back asked rose = record { shared = shared; idle = back; asked = inl asked }

  -- it gave too few shares
  pub hosts_unshared : (fault : NetFault) (answer : ServeFault) (before now : N) → answer ≡ unheard fault → parts.shared now ≡ parts.shared before → HasIdleBack tells links before now → tells.asked now ≡ tells.asked before
      → (fault ≡ Failed → Rose (tells.faults before) (tells.faults now)) → HostsOn gives may listed on_demand tells parts links [] count before now (Err answer)
  hosts_unshared fault answer before now is shared back asked rose =
      subst (λ (f : ServeFault). HostsOn gives may listed on_demand tells parts links [] count before now (Err f)) (sym is) (unshared_by fault before now shared back asked rose)

  pub since_before : (before mid now : N) (posts : List (PostHistory L)) → HasGivenNone tells before mid → HasSharesSince tells links mid now posts → HasSharesSince tells links before now posts
  since_before before mid now posts none since = record { since = since.since; none = given_more tells before mid since.since none since.none; back = since.back }

  pub idle_before : (before mid now : N) → HasGivenNone tells before mid → HasIdleBack tells links mid now → HasIdleBack tells links before now
  idle_before before mid now none idle = record { shares = idle.shares; net = since_before before mid now (replicate idle.shares idle_post) none idle.net }

  pub asked_since : (calls : List NetCall) (before mid now : N) → tells.asked mid ≡ with_more (tells.asked before) calls → tells.asked now ≡ with_more (tells.asked mid) [] → tells.asked now ≡ with_more (tells.asked before) calls
  asked_since calls before mid now first then = then ∙ (with_more_none (tells.asked mid) ∙ first)

  rose_since : (before mid now : ℕ) → before ≤ mid → Rose mid now → Rose before now
  rose_since before mid now later rose = omega (arith, later, rose)

  -- behind the call by which the net listened
  pub hosts_behind : {T : Type 0} (address : List ℕ) (value : T) (before mid now : N) (result : Result HostedOn ServeFault) → parts.shared mid ≡ parts.shared before → Listens tells links address (Ok value) before mid
      → HostsOn gives may listed on_demand tells parts links [] count mid now result → HostsOn gives may listed on_demand tells parts links (Listen address ∷ []) count before now result
  hosts_behind address value before mid now (Ok hosted) shared listens told = record {
    posts = told.posts;
    number = told.number;
    shares = shares_before tells parts.share links before mid told.posts listens.over told.shares;
    shared = told.shared ∙ shared;
    net = since_before before mid now told.posts (listened address (Ok value) before mid listens) told.net;
    asked = asked_since (Listen address ∷ []) before mid now listens.asked told.asked;
    outcomes = told.outcomes;
    ids = told.ids;
    routed = told.routed;
    met = told.met;
    sessions = told.sessions;
  }
  hosts_behind address value before mid now (Err ListenFault) shared listens told = record {
    shared = told.shared ∙ shared;
    idle = idle_before before mid now (listened address (Ok value) before mid listens) told.idle;
    asked = asked_since (Listen address ∷ []) before mid now listens.asked told.asked;
    faults = let later = listens.cause.later in let rose = told.faults in rose_since (tells.faults before) (tells.faults mid) (tells.faults now) later rose;
  }
  hosts_behind address value before mid now (Err WantOfMemory) shared listens told = record {
    shared = told.shared ∙ shared;
    idle = idle_before before mid now (listened address (Ok value) before mid listens) told.idle;
    asked = inr (asked_by told.asked);
  }
    where
      asked_by : (tells.asked now ≡ tells.asked mid) ⊎ (tells.asked now ≡ with_more (tells.asked mid) []) → tells.asked now ≡ with_more (tells.asked before) (Listen address ∷ [])
      asked_by (inl same) = same ∙ listens.asked
      asked_by (inr more) = asked_since (Listen address ∷ []) before mid now listens.asked more
