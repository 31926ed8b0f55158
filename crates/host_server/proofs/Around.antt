-- Rounds of a host: none that is left, one that is stopped, and one link more.
use Rattle.std.proofs.Common.{◌≡◌, ℕ, suc, ◌+◌, ◌<◌, Bool, All, List, [], ◌∷◌, ◌++◌, append_assoc, get_or, length, map, Option, Some, None, refl, sym, ap, ◌∙◌, subst, arith}
use Rattle.std.specs.List.{Any, slice_get}
use Rattle.std.proofs.lemmas.List.{reverse-append}
use Rattle.std.proofs.lemmas.List.Elements.{All-append}
use Rattle.std.proofs.lemmas.Option.{slice_get_within}
use Rattle.tea_base.specs.declared.entry.SessionId.{SessionId}
use Rattle.tea_io.specs.declared.net.NetFault.{NetFault}
use Rattle.run_steps.specs.Outside.{LinksTell, NetTells}
use Rattle.id_claims.specs.Passes as claims
use Rattle.session_lock.specs.Passes.{PassState}
use Rattle.connection.specs.declared.ending.Ended.{Ended}
use Rattle.reflect_server.specs.Connections.{accepted_links}
use Rattle.reflect_server.specs.Passes.{Gathers, IsFresh, Keeps}
use Rattle.reflect_server.specs.Rounds.{Accepts, CountsLinks}
use Rattle.host_server.specs.Claiming.{Adds, HasKeptClaims, OfId}
use Rattle.host_server.specs.Links.{HasMade, HostedLink, connections_of, in_session, is_at}
use Rattle.host_server.specs.Rounds.{GoesAround, ServesRow, roomed_of, roomed_back}
use Rattle.host_server.specs.Rows.{AtAll, AtEach, HasKept, IsFreshRow, IsIdle, IsOf, TakesIn}
use Rattle.host_server.specs.declared.accepting.HostRound.{HostRound}
use Rattle.host_server.specs.declared.rooms.Room.{Room}
use Rattle.host_server.specs.declared.rooms.Row.{Row}
use Rattle.host_server.specs.declared.serving.RoomedLink.{RoomedLink}
use Rattle.host_server.proofs.ClaimLaws.{made_merged}
use Rattle.host_server.proofs.Gathering.{gathers_either, gathers_none}
use Rattle.host_server.proofs.NetLaws.{Gave, Missed, accepts_none, gave_accepts, links_more, missed_accepts}
use Rattle.host_server.proofs.Places.{all_at, element_at, same_element}
use Rattle.host_server.proofs.Targets.{adds_none}

abbrev roomed : {L : Type 0} → Option ℕ → L → Ended → RoomedLink L
roomed session link ended = record { session = session; link = link; ended = ended }

same_link : {L : Type 0} (session : Option ℕ) (a b : L) (e f : Ended) → a ≡ b → e ≡ f → roomed session a e ≡ roomed session b f
same_link session a b e f links ends = ap (λ l. roomed session l e) links ∙ ap (roomed session b) ends

-- a row of fresh passes is idle
pub idle_of : {K : Type 0} (rooms : List (Room K)) (leads row : List PassState) → AtEach IsOf rooms leads → AtEach IsFresh leads row → AtEach IsIdle rooms row
idle_of rooms leads row of fresh = record {
  as_long = of.as_long ∙ fresh.as_long;
  each = λ at room y in_rooms b.
      let within = slice_get_within rooms at room in_rooms in
      let lead = element_at leads at (let long = of.as_long in omega (arith, long, within)) in
      let one = fresh.each at lead.0 y lead.1 b in
      (one.session ∙ of.each at room lead.0 in_rooms lead.1, one.calls);
}

-- the passes are of the same sessions after a row was merged into them
pub merged_of : {K : Type 0} (rooms : List (Room K)) (leads row now : List PassState) → AtEach IsOf rooms leads → AtAll (λ _ before other last. TakesIn before other last) leads row now → AtEach IsOf rooms now
merged_of rooms leads row now of merged = record {
  as_long = of.as_long ∙ merged.as_many;
  each = λ at room last in_rooms in_now.
      let within = slice_get_within rooms at room in_rooms in
      let long = of.as_long in
      let many = merged.as_long in
      let lead = element_at leads at (omega (arith, long, within)) in
      let pass = element_at row at (omega (arith, long, many, within)) in
      session_kept lead.0 pass.0 last (merged.each at lead.0 pass.0 last lead.1 pass.1 in_now) ∙ of.each at room lead.0 in_rooms lead.1;
}
  where
    session_kept : (lead pass last : PassState) → TakesIn lead pass last → last.session ≡ lead.session
    session_kept lead pass last takes = ap (λ (p : PassState). p.session) takes.merged.same

pub served_none : {N L K : Type 0} (before now : HostRound N L K) → now.served ≡ before.served → before.served.items ≡ [] → length now.served.items ≡ 0
served_none before now same none = ap (λ v. length v.items) same ∙ ap length none

-- ---- ids that were added

any_first : {A : Type 0} (P : A → Type 0) (x : A) (xs : List A) → P x → Any P (x ∷ xs)
any_first P x xs is = (0, x, omega arith, refl, is)

any_behind : {A : Type 0} (P : A → Type 0) (x : A) (xs : List A) → Any P xs → Any P (x ∷ xs)
any_behind P x xs (k, y, below, there, is) = (suc k, y, omega (arith, below), there, is)

module _ {L : Type 0} (links : LinksTell L) (ids : List SessionId) (first : HostedLink L) (hosted : List (HostedLink L)) where
  abbrev by_one : SessionId → Type 0
  by_one id = HasMade ids links id first

  abbrev by_rest : SessionId → Type 0
  by_rest id = Any (HasMade ids links id) hosted

  abbrev by_any : SessionId → Type 0
  by_any id = Any (HasMade ids links id) (first ∷ hosted)

  -- those that the first link added stand behind those of the rest
  pub adds_more : (before rest own after now : List SessionId) → own ≡ [] → Adds by_one own after → Adds by_rest before rest → now ≡ rest ++ after → Adds by_any before now
  adds_more before rest own after now none one others is = record {
    more = others.more ++ one.more;
    are = sym (append_assoc before others.more one.more) ∙ (ap (λ (l : List SessionId). l ++ one.more) others.are ∙ (ap (λ (l : List SessionId). rest ++ l) after_is ∙ sym is));
    each =
        All-append by_any others.more one.more
        (λ k d below. any_behind (HasMade ids links (get_or others.more k d)) first hosted (others.each k d below))
        (λ k d below. any_first (HasMade ids links (get_or one.more k d)) first hosted (one.each k d below));
  }
    where
      after_is : one.more ≡ after
      after_is = sym (ap (λ (l : List SessionId). l ++ one.more) none) ∙ one.are

module _ (gives : ℕ → Type 0) (ids : List SessionId) (on_demand : Bool) {N L K : Type 0} (tells : NetTells N L) (links : LinksTell L) (rooms : List (Room K)) where
  -- no row is left
  pub around_none : (round : HostRound N L K) (count : ℕ) → AtEach IsOf rooms round.lead.seats.items → All (λ lead. Keeps lead lead) round.lead.seats.items → round.served.items ≡ []
      → round.stopped ≡ None → count ≡ 0 → GoesAround gives ids on_demand tells links rooms count round round
  around_none round count leads kept empty going none = record {
    hosted = [];
    net = subst (Accepts tells round.net round.net []) (sym going) (accepts_none tells links round.net);
    passes = record {
      as_long = leads.as_long;
      as_many = leads.as_long;
      each = λ place room lead now in_rooms in_leads in_now id has.
          subst (λ (p : PassState). Gathers gives id links lead count [] p) (same_element round.lead.seats.items place lead now in_leads in_now)
          (gathers_none gives id links lead lead count (all_at (λ (p : PassState). Keeps p p) round.lead.seats.items place lead kept in_leads) (omega (arith, none)));
    };
    served = empty;
    number = subst (CountsLinks 0 count) (sym going) (sym none);
    routed = tt;
    met = tt;
    made = adds_none (λ id. Any (HasMade ids links id) []) round.lead.claim.made;
  }

  -- no link more is accepted
  pub around_stopped : (before now : HostRound N L K) (net : N) (count : ℕ) (fault : NetFault) → AtEach IsOf rooms before.lead.seats.items → before.served.items ≡ [] → 0 < count
      → Missed tells links before.net net fault → AtEach (HasKept count) before.lead.seats.items now.lead.seats.items → HasKeptClaims count before.lead.claim now.lead.claim
      → now.net ≡ net → now.served ≡ before.served → now.stopped ≡ Some fault → GoesAround gives ids on_demand tells links rooms count before now
  around_stopped before now net count fault leads empty some missed kept claim net_is served_is stopped_is = record {
    hosted = [];
    net =
        subst (λ (n : N). Accepts tells before.net n [] now.stopped) (sym net_is)
        (subst (Accepts tells before.net net []) (sym stopped_is) (missed_accepts tells links before.net net fault missed));
    passes = record {
      as_long = leads.as_long;
      as_many = leads.as_long ∙ kept.as_long;
      each = λ place room lead last in_rooms in_leads in_now id at.
          let has = kept.each place lead last in_leads in_now in
          gathers_none gives id links lead last count has.keeps has.numbers;
    };
    served = ap (λ v. v.items) served_is ∙ empty;
    number = subst (CountsLinks 0 count) (sym stopped_is) some;
    routed = tt;
    met = tt;
    made =
        subst (Adds (λ id. Any (HasMade ids links id) []) before.lead.claim.made) (sym claim.made)
        (adds_none (λ id. Any (HasMade ids links id) []) before.lead.claim.made);
  }

  -- one link more was accepted, and served beside the rest
  pub around_more : (before between rest now : HostRound N L K) (row after : Row K) (count more : ℕ) (link : L) (one : RoomedLink L) → IsFreshRow between.lead row
      → between.lead ≡ before.lead → more ≡ count + 1 → Gave tells links before.net between.net link
      → ServesRow gives ids on_demand links rooms link row after one → GoesAround gives ids on_demand tells links rooms count between rest
      → AtAll (λ _ lead other last. TakesIn lead other last) rest.lead.seats.items after.seats.items now.lead.seats.items → claims.Merged rest.lead.claim after.claim now.lead.claim
      → now.served.items ≡ rest.served.items ++ one ∷ [] → now.net ≡ rest.net → now.stopped ≡ rest.stopped → GoesAround gives ids on_demand tells links rooms more before now
  around_more before between rest now row after count more link one fresh lead_is more_is gave serves round merged claim served_is net_is stopped_is = record {
    hosted = first ∷ round.hosted;
    net =
        subst (λ (n : N). Accepts tells before.net n (serves.connection.accepted ∷ accepted_links (connections_of round.hosted)) now.stopped) (sym net_is)
        (subst (Accepts tells before.net rest.net (serves.connection.accepted ∷ accepted_links (connections_of round.hosted))) (sym stopped_is)
        (subst (λ (l : L). Accepts tells before.net rest.net (l ∷ accepted_links (connections_of round.hosted)) rest.stopped) (sym serves.accepted)
        (gave_accepts tells links before.net between.net rest.net link (accepted_links (connections_of round.hosted)) rest.stopped gave round.net)));
    passes =
        subst (λ (l : List PassState). AtAll (λ place room lead last. OfId ids place (λ id. Gathers gives id links lead more (in_session place (first ∷ round.hosted)) last)) rooms l now.lead.seats.items)
        (ap (λ (r : Row K). r.seats.items) lead_is)
        (record {
          as_long = round.passes.as_long;
          as_many = round.passes.as_many ∙ merged.as_many;
          each = λ place room lead last in_rooms in_leads in_now. at_place place room lead last in_rooms in_leads in_now;
        });
    served =
        served_is
        ∙ (ap (λ (l : List (RoomedLink L)). l ++ one ∷ []) round.served
        ∙ (ap (λ (r : RoomedLink L). roomed_back round.hosted ++ r ∷ []) one_is
        ∙ sym (reverse-append (roomed_of first ∷ []) (map roomed_of round.hosted))));
    number =
        subst (CountsLinks (length (first ∷ round.hosted)) more) (sym stopped_is)
        (links_more (length round.hosted) (length (first ∷ round.hosted)) count more rest.stopped (omega arith) more_is round.number);
    routed = (serves.routed, round.routed);
    met = (serves.met, round.met);
    made =
        subst (λ (l : List SessionId). Adds (λ id. Any (HasMade ids links id) (first ∷ round.hosted)) l now.lead.claim.made) (ap (λ (r : Row K). r.claim.made) lead_is)
        (adds_more links ids first round.hosted between.lead.claim.made rest.lead.claim.made row.claim.made after.claim.made now.lead.claim.made fresh.claim.made serves.made round.made
        (made_merged rest.lead.claim after.claim now.lead.claim claim));
  }
    where
      first : HostedLink L
      first = record { session = one.session; connection = serves.connection }

      one_is : one ≡ roomed_of first
      one_is = sym (same_link one.session serves.connection.returned one.link serves.connection.ended one.ended serves.returned serves.ended)

      at_place : (place : ℕ) (room : Room K) (lead last : PassState) → slice_get rooms place ≡ Some room → slice_get between.lead.seats.items place ≡ Some lead → slice_get now.lead.seats.items place ≡ Some last
          → OfId ids place (λ id. Gathers gives id links lead more (in_session place (first ∷ round.hosted)) last)
      at_place place room lead last in_rooms in_leads in_now id has =
          let within : place < length rooms = slice_get_within rooms place room in_rooms in
          let idle = element_at row.seats.items place (let long = serves.seats.as_long in omega (arith, within, long)) in
          let pass = element_at after.seats.items place (let long = serves.seats.as_many in omega (arith, within, long)) in
          let kept = element_at rest.lead.seats.items place (let long = round.passes.as_many in omega (arith, within, long)) in
          subst (λ (n : ℕ). Gathers gives id links lead n (in_session place (first ∷ round.hosted)) last) (sym more_is)
          (gathers_either gives id links lead kept.0 idle.0 pass.0 last count (in_session place round.hosted)
          (fresh.seats.each place lead idle.0 in_leads idle.1) (round.passes.each place room lead kept.0 in_rooms in_leads kept.1 id has) (merged.each place kept.0 pass.0 last kept.1 pass.1 in_now)
          serves.connection (is_at place one.session) (serves.seats.each place room idle.0 pass.0 in_rooms idle.1 pass.1 id has))
