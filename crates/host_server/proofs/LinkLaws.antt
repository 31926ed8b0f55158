-- A link that is served by one pass of a row, or by none.
use Rattle.std.proofs.Common.{◌≡◌, ◌≢◌, ◌⊎◌, inl, inr, ℕ, ◌<◌, ◌==◌, Bool, true, false, List, [], ◌∷◌, get_or, length, replicate, set, Option, Some, None, refl, sym, ap, ◌∙◌, subst, arith}
use Rattle.std.specs.List.{slice_get}
use Rattle.std.proofs.lemmas.Bool.{cases_eq, eq-eqb, ne_eqb}
use Rattle.std.proofs.lemmas.List.{length-set}
use Rattle.std.proofs.lemmas.Option.{same_Some, slice_get_read, slice_get_within}
use Rattle.tea_base.specs.declared.entry.SessionId.{SessionId}
use Rattle.tea_io.specs.Told.{with_more}
use Rattle.tea_io.specs.Links.{Counts, NoneFalls, no_counts}
use Rattle.tea_io.specs.declared.link.Heard.{Heard}
use Rattle.tea_io.specs.declared.link.Heard.TheVariants.{Frame, Quiet}
use Rattle.run_steps.specs.Outside.{LinksTell}
use Rattle.reflector_core.specs.PlainSession.{PlainSession}
use Rattle.reflector_core.specs.Play.{first_session}
use Rattle.session_lock.specs.History.{calls_of}
use Rattle.session_lock.specs.Passes.{PassState, caller}
use Rattle.connection.specs.declared.ending.Ended.{Ended}
use Rattle.connection.specs.Causes.{IsCauseCounted}
use Rattle.connection.specs.Talk.{LinkAccount, Talk}
use Rattle.connection.proofs.Endings.{talk_ends}
use Rattle.connection.proofs.Talking.{with_more_none}
use Rattle.reflect_server.specs.Connections.{ServedConnection, HasTalk, account_in}
use Rattle.host_server.specs.Hearing.{GivesFirst, GivesNone, untimed}
use Rattle.id_claims.specs.Passes as claims
use Rattle.host_server.specs.Claiming.{ClaimsFor, GathersClaims, IsTarget, OfId}
use Rattle.host_server.specs.Links.{HasMade, IsMetOnDemand, IsSilent}
use Rattle.host_server.specs.Peeking.{TalksAgain, but_last}
use Rattle.host_server.specs.Rounds.{HasServedBy, IsUsed, ServesRow, hosted_by}
use Rattle.host_server.specs.Routing.{BeginsWithJoin, IsJoinOf, first_frame, place_of}
use Rattle.host_server.specs.Rows.{AtAll, AtEach, IsIdle, IsOf, IsOfPlace}
use Rattle.host_server.specs.declared.rooms.Room.{Room}
use Rattle.host_server.specs.declared.rooms.Row.{Row}
use Rattle.host_server.specs.declared.serving.RoomedLink.{RoomedLink}
use Rattle.host_server.proofs.Places.{element_at, same_element, set_here, set_there}
use Rattle.host_server.proofs.Quiets.{caused_before}
use Rattle.host_server.proofs.Targets.{adds_map, adds_none}
use Rattle.host_server.proofs.WholeLinks.{TalksWhole, before_frame, whole_link}

-- ---- what was told before the frame

pub told_before : (old new : LinkAccount) (first : List ℕ) → (gave : GivesFirst old new first) → but_last new.heard ≡ with_more old.heard (replicate gave.quiets Quiet)
told_before old new first gave = ap but_last gave.heard ∙ before_frame (with_more old.heard (replicate gave.quiets Quiet)) first

pub told_first : (old new : LinkAccount) (first : List ℕ) → GivesFirst old new first → new.heard ≡ with_more (but_last new.heard) (Frame first ∷ [])
told_first old new first gave = gave.heard ∙ ap (λ (o : Option (List Heard)). with_more o (Frame first ∷ [])) (sym (told_before old new first gave))

-- ---- no frame

module _ (gives : ℕ → Type 0) {L K : Type 0} (links : LinksTell L) (rooms : List (Room K)) (link returned : L) (row : Row K) (idle : AtEach IsIdle rooms row.seats.items) (new : links.counts link ≡ no_counts) where
  timed : (id : SessionId) (heard : List Heard) (how : Ended) → Talk untimed id first_session [] 0 heard [] how → Talk gives id first_session [] 0 heard [] how
  timed id heard how talk = record { events = talk.events; ends = talk.ends; asked = talk.asked; said = talk.said; told = talk.told; spelled = talk.spelled; timely = tt }

  abbrev silent : List Heard → Ended → ServedConnection L
  silent heard how = record { accepted = link; returned = returned; caller = 0; heard = heard; sent = []; ended = how }

  is_silent : (how : Ended) (none : GivesNone (account_in links link) (account_in links returned) how) (id : SessionId) → IsSilent gives id links (silent none.heard how)
  is_silent how none id =
      let talk = timed id none.heard how (none.talk id) in
      record {
        talk = record {
          talk = talk;
          heard = none.tells_heard;
          sent = none.sent ∙ sym (with_more_none (links.sent link));
          exactly = talk_ends gives id first_session [] 0 none.heard [] how talk;
          new = new;
          cause = subst (λ (counts : Counts). IsCauseCounted counts (links.counts returned) how) new none.cause;
        };
        frameless = none.frameless;
        unsent = refl;
      }

  no_join : {P : Type 0} (heard : List Heard) (id : SessionId) → first_frame heard ≡ None → BeginsWithJoin heard id → P
  no_join heard id none (bytes, is, joins) = let some : None ≡ Some bytes = sym none ∙ is in absurd (cc (some))

  pub serves_none : (ids : List SessionId) (on_demand : Bool) (how : Ended) → GivesNone (account_in links link) (account_in links returned) how
      → ServesRow gives ids on_demand links rooms link row row (record { session = None; link = returned; ended = how })
  serves_none ids on_demand how none = record {
    connection = silent none.heard how;
    accepted = refl;
    returned = refl;
    ended = refl;
    routed = is_silent how none;
    met = λ demand known id joins. no_join none.heard id none.frameless joins;
    made = adds_none (λ id. HasMade ids links id (hosted_by (record { session = None; link = returned; ended = how }) (silent none.heard how))) row.claim.made;
    seats = record {
      as_long = idle.as_long;
      as_many = idle.as_long;
      each = λ place room fresh pass in_rooms in_row in_after id at. sym (same_element row.seats.items place fresh pass in_row in_after);
    };
  }

-- a row that has served no link is of its sessions
pub idle_of_rooms : {K : Type 0} (rooms : List (Room K)) (row : List PassState) → AtEach IsIdle rooms row → AtEach IsOf rooms row
idle_of_rooms rooms row idle = record { as_long = idle.as_long; each = λ place room pass in_rooms in_row. (idle.each place room pass in_rooms in_row).0 }

-- a pass of claims that has claimed for one link, or for none
pub gathers_claimed : (on_demand : Bool) (first : List ℕ) (before after : claims.PassState) → ClaimsFor on_demand first before after → GathersClaims on_demand 0 before after
gathers_claimed on_demand first before after done = record { claims = done.claims; parts = let same = done.parts in omega (arith, same); none = done.none }

-- ---- a frame

module _ (gives : ℕ → Type 0) (id : SessionId) {L : Type 0} (links : LinksTell L) (link mid returned : L) (fresh pass : PassState) (first : List ℕ) (how : Ended) (new : links.counts link ≡ no_counts)
    (kept : pass ≡ record fresh { seen = pass.seen }) (gave : GivesFirst (account_in links link) (account_in links mid) first)
    (again : TalksAgain gives id pass (but_last (links.heard mid)) first (account_in links mid) (account_in links returned) how)
    (cause : IsCauseCounted (links.counts mid) (links.counts returned) how) where
  whole : TalksWhole gives id pass first (account_in links link) (account_in links returned) how
  whole =
      whole_link gives id pass (but_last (links.heard mid)) first (account_in links link) (account_in links mid) (account_in links returned) how gave again
      (told_before (account_in links link) (account_in links mid) first gave) (links.heard link) refl

  -- the link from the time when it was accepted
  pub first_served : ServedConnection L
  first_served = record { accepted = link; returned = returned; caller = caller pass; heard = whole.heard; sent = whole.sent; ended = how }

  pub first_link : first_served.accepted ≡ link
  unfolding first_served
  first_link = refl

  pub first_returned : first_served.returned ≡ returned
  unfolding first_served
  first_returned = refl

  pub first_ended : first_served.ended ≡ how
  unfolding first_served
  first_ended = refl

  -- it begins with its first frame
  pub first_begins : links.heard first_served.accepted ≢ None → first_frame first_served.heard ≡ Some first
  unfolding first_served
  first_begins = whole.begins

  -- and the pass has served it
  pub first_by : HasServedBy gives id links fresh pass first_served
  unfolding first_served
  first_by = record {
    kept = kept;
    mine = refl;
    talk = subst (λ (o : PlainSession). HasTalk gives id o links pass.seen first_served) (ap (λ (p : PassState). p.opening) kept) (record {
      talk = whole.talk;
      heard = whole.tells_heard;
      sent = whole.tells_sent;
      exactly = talk_ends gives id pass.opening pass.seen (caller pass) whole.heard whole.sent how whole.talk;
      new = new;
      cause = caused_before no_counts (links.counts mid) (links.counts returned) how (subst (λ (counts : Counts). NoneFalls counts (links.counts mid)) new gave.later) cause;
    });
  }

module _ (gives : ℕ → Type 0) (ids : List SessionId) (on_demand : Bool) {L K : Type 0} (links : LinksTell L) (rooms : List (Room K)) (link mid returned : L) (row after : Row K) (place : ℕ) (id : SessionId) (fresh pass : PassState) (first : List ℕ) (how : Ended)
    (idle : AtEach IsIdle rooms row.seats.items) (new : links.counts link ≡ no_counts) (in_row : slice_get row.seats.items place ≡ Some fresh) (kept : pass ≡ record fresh { seen = pass.seen })
    (after_is : after.seats.items ≡ set row.seats.items place pass)
    (gave : GivesFirst (account_in links link) (account_in links mid) first)
    (again : TalksAgain gives id pass (but_last (links.heard mid)) first (account_in links mid) (account_in links returned) how)
    (cause : IsCauseCounted (links.counts mid) (links.counts returned) how) (claimed : ClaimsFor on_demand first row.claim after.claim) (target : IsTarget on_demand ids first place id) where
  abbrev connection : ServedConnection L
  connection = first_served gives id links link mid returned fresh pass first how new kept gave again cause

  abbrev served : HasServedBy gives id links fresh pass connection
  served = first_by gives id links link mid returned fresh pass first how new kept gave again cause

  abbrev begins : links.heard connection.accepted ≢ None → first_frame connection.heard ≡ Some first
  begins = first_begins gives id links link mid returned fresh pass first how new kept gave again cause

  abbrev roomed : RoomedLink L
  roomed = record { session = Some place; link = returned; ended = how }

  used : (at : ℕ) (x y : PassState) → slice_get row.seats.items at ≡ Some x → slice_get (set row.seats.items place pass) at ≡ Some y → (at ≡ place) ⊎ (at ≢ place)
      → OfId ids at (λ own. IsUsed gives own links (place == at) connection x y)
  used at x y b c (inl is) own has =
      let id_is : id ≡ own = same_Some id own (sym target.has ∙ (ap (slice_get ids) (sym is) ∙ has)) in
      let fresh_is : fresh ≡ x = same_Some fresh x (sym in_row ∙ (ap (slice_get row.seats.items) (sym is) ∙ b)) in
      let pass_is : pass ≡ y = same_Some pass y (sym (set_here row.seats.items place pass (slice_get_within row.seats.items place fresh in_row)) ∙ (ap (slice_get (set row.seats.items place pass)) (sym is) ∙ c)) in
      let here : (place == at) ≡ true = eq-eqb place at (sym is) in
      subst (λ (b : Bool). IsUsed gives own links b connection x y) (sym here)
      (subst (λ (i : SessionId). HasServedBy gives i links x y connection) id_is
      (subst (λ (p : PassState). HasServedBy gives id links p y connection) fresh_is
      (subst (λ (p : PassState). HasServedBy gives id links fresh p connection) pass_is served)))
  used at x y b c (inr other) own has =
      let there : (place == at) ≡ false = ne_eqb place at (λ is. other (sym is)) in
      subst (λ (b : Bool). IsUsed gives own links b connection x y) (sym there)
      (same_Some y x (sym c ∙ (set_there row.seats.items place at pass other ∙ b)))

  has_made : (own : SessionId) → IsJoinOf first own → HasMade ids links own (hosted_by roomed connection)
  has_made own joins = record {
    session = ap Some (sym target.goes ∙ ap (place_of ids) joins);
    named = λ known. (first, begins known, joins);
  }

  is_met : IsMetOnDemand on_demand ids links connection
  is_met demand known own (bytes, is, joins) =
      let same : bytes ≡ first = same_Some bytes first (sym is ∙ begins known) in
      target.met demand own (subst (λ (l : List ℕ). IsJoinOf l own) same joins)

  pub serves_some : ServesRow gives ids on_demand links rooms link row after roomed
  serves_some = record {
    connection = connection;
    accepted = first_link gives id links link mid returned fresh pass first how new kept gave again cause;
    returned = first_returned gives id links link mid returned fresh pass first how new kept gave again cause;
    ended = first_ended gives id links link mid returned fresh pass first how new kept gave again cause;
    routed = (slice_get_within ids place id target.has, λ known. (first, begins known, target.goes));
    met = is_met;
    made = adds_map (IsJoinOf first) (λ own. HasMade ids links own (hosted_by roomed connection)) row.claim.made after.claim.made has_made claimed.made;
    seats =
        subst (λ (l : List PassState). AtAll (λ at room x y. OfId ids at (λ own. IsUsed gives own links (place == at) connection x y)) rooms row.seats.items l) (sym after_is)
        (record {
          as_long = idle.as_long;
          as_many = idle.as_long ∙ sym (length-set row.seats.items place pass);
          each = λ at room x y a b c. used at x y b c (cases_eq at place);
        });
  }

-- ---- what is read of a row at a place

-- a row in which one pass has made calls is of its sessions
pub set_of_rooms : {K : Type 0} (rooms : List (Room K)) (row : List PassState) (place : ℕ) (fresh pass : PassState) → AtEach IsIdle rooms row → slice_get row place ≡ Some fresh → pass ≡ record fresh { seen = pass.seen } → AtEach IsOf rooms (set row place pass)
set_of_rooms {K} rooms row place fresh pass idle in_row kept = record {
  as_long = idle.as_long ∙ sym (length-set row place pass);
  each = λ at room y in_rooms c. by at room y in_rooms c (cases_eq at place);
}
  where
    by : (at : ℕ) (room : Room K) (y : PassState) → slice_get rooms at ≡ Some room → slice_get (set row place pass) at ≡ Some y → (at ≡ place) ⊎ (at ≢ place) → IsOf room y
    by at room y in_rooms c (inl is) =
        let pass_is : pass ≡ y = same_Some pass y (sym (set_here row place pass (slice_get_within row place fresh in_row)) ∙ (ap (slice_get (set row place pass)) (sym is) ∙ c)) in
        ap (λ (p : PassState). p.session) (sym pass_is ∙ kept) ∙ (idle.each at room fresh in_rooms (ap (slice_get row) is ∙ in_row)).0
    by at room y in_rooms c (inr other) = (idle.each at room y in_rooms (sym (set_there row place at pass other) ∙ c)).0

-- the pass at a place is of the session there, and has made no call
pub idle_there : {K : Type 0} (rooms : List (Room K)) (row : List PassState) (place : ℕ) (pass : PassState) → AtEach IsIdle rooms row → place < length rooms → pass ≡ get_or row place pass → IsOfPlace rooms place pass
idle_there rooms row place pass idle within pass_is room in_rooms =
    let long = idle.as_long in
    (idle.each place room pass in_rooms (slice_get_read row (length row) place pass refl (omega (arith, within, long)) pass_is)).0

pub still_idle : {K : Type 0} (rooms : List (Room K)) (row : List PassState) (place : ℕ) (pass : PassState) → AtEach IsIdle rooms row → place < length rooms → pass ≡ get_or row place pass → calls_of (caller pass ∷ []) pass.seen ≡ []
still_idle rooms row place pass idle within pass_is =
    let long = idle.as_long in
    let room = element_at rooms place within in
    (idle.each place room.0 pass room.1 (slice_get_read row (length row) place pass refl (omega (arith, within, long)) pass_is)).1
