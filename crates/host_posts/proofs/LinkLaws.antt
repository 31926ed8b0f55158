-- A link that a post serves: by a new caller of its session, or by nobody.
use Rattle.std.proofs.Common.{◌≡◌, ◌≢◌, ◌⊎◌, inl, inr, ℕ, ◌==◌, Bool, true, false, List, [], length, set, Some, None, append-nil, refl, sym, ap, ◌∙◌, subst, arith}
use Rattle.std.specs.List.{slice_get}
use Rattle.std.proofs.lemmas.Bool.{cases_eq, eq-eqb, ne_eqb}
use Rattle.std.proofs.lemmas.List.{length-set}
use Rattle.std.proofs.lemmas.Option.{same_Some, slice_get_within}
use Rattle.tea_base.specs.declared.entry.SessionId.{SessionId}
use Rattle.tea_io.specs.Links.{Counts, NoneFalls, no_counts}
use Rattle.tea_io.specs.declared.link.Heard.{Heard}
use Rattle.run_steps.specs.Outside.{LinksTell}
use Rattle.reflector_core.specs.PlainSession.{PlainSession}
use Rattle.reflector_core.specs.Play.{first_session}
use Rattle.session_lock.specs.Passes.{PassState, caller}
use Rattle.connection.specs.declared.ending.Ended.{Ended}
use Rattle.connection.specs.Causes.{IsCauseCounted}
use Rattle.connection.specs.Talk.{Talk}
use Rattle.connection.proofs.Endings.{talk_ends}
use Rattle.connection.proofs.Talking.{with_more_none}
use Rattle.reflect_server.specs.Connections.{ServedConnection, HasTalk, account_in}
use Rattle.host_server.specs.Claiming.{ClaimsFor, IsTarget}
use Rattle.host_server.specs.Hearing.{GivesFirst, GivesNone, untimed}
use Rattle.host_server.specs.Links.{HasMade, IsMetOnDemand, IsSilent}
use Rattle.host_server.specs.Peeking.{TalksAgain, but_last}
use Rattle.host_server.specs.Rounds.{HasServedBy, hosted_by}
use Rattle.host_server.specs.Routing.{BeginsWithJoin, IsJoinOf, first_frame, place_of}
use Rattle.host_server.specs.Rows.{AtEach, IsOf}
use Rattle.host_server.specs.declared.rooms.Room.{Room}
use Rattle.host_server.specs.declared.rooms.Row.{Row}
use Rattle.host_server.proofs.LinkLaws.{told_before}
use Rattle.host_server.proofs.Places.{same_element, set_here, set_there}
use Rattle.host_server.proofs.Quiets.{caused_before}
use Rattle.host_server.proofs.WholeLinks.{TalksWhole, whole_link}
use Rattle.host_posts.specs.Passes.{MayServe, ServesBy, ServesOne, ServesPost}

-- ---- no frame

module _ (gives : ℕ → Type 0) {L : Type 0} (links : LinksTell L) (link returned : L) (new : links.counts link ≡ no_counts) where
  timed : (id : SessionId) (heard : List Heard) (how : Ended) → Talk untimed id first_session [] 0 heard [] how → Talk gives id first_session [] 0 heard [] how
  timed id heard how talk = record { events = talk.events; ends = talk.ends; asked = talk.asked; said = talk.said; told = talk.told; spelled = talk.spelled; timely = tt }

  abbrev silent : List Heard → Ended → ServedConnection L
  silent heard how = record { accepted = link; returned = returned; caller = 0; heard = heard; sent = []; ended = how }

  is_silent : (how : Ended) (none : GivesNone (account_in links link) (account_in links returned) how) (id : SessionId) → IsSilent gives id links (silent none.heard how)
  is_silent how none id =
      let talk = timed id none.heard how (none.talk id) in
      record {
        talk = record {
          talk = talk;
          heard = none.tells_heard;
          sent = none.sent ∙ sym (with_more_none (links.sent link));
          exactly = talk_ends gives id first_session [] 0 none.heard [] how talk;
          new = new;
          cause = subst (λ (counts : Counts). IsCauseCounted counts (links.counts returned) how) new none.cause;
        };
        frameless = none.frameless;
        unsent = refl;
      }

  names_none : (heard : List Heard) (id : SessionId) → first_frame heard ≡ None → BeginsWithJoin heard id → ⊥
  names_none heard id none begins = let both : None ≡ Some begins.0 = sym none ∙ begins.1 in cc (both)

  pub serves_none : (ids : List SessionId) (on_demand : Bool) {K : Type 0} (rooms : List (Room K)) (row : Row K) (how : Ended) → AtEach IsOf rooms row.seats.items
      → GivesNone (account_in links link) (account_in links returned) how
      → ServesPost gives ids on_demand links rooms link row row (record { session = None; link = returned; ended = how })
  serves_none ids on_demand rooms row how of none = record {
    connection = silent none.heard how;
    accepted = refl;
    returned = refl;
    ended = refl;
    routed = is_silent how none;
    met = λ on known id begins missing. absurd (names_none none.heard id none.frameless begins);
    made = record { more = []; are = append-nil row.claim.made; each = λ place d within. absurd (omega (arith, within)) };
    seats = record {
      as_long = of.as_long;
      as_many = of.as_long;
      each = λ place room pass now in_rooms in_row in_now id at. sym (same_element row.seats.items place pass now in_row in_now);
    };
  }

-- ---- a frame

module _ (gives : ℕ → Type 0) {L : Type 0} (links : LinksTell L) (link mid returned : L) (id : SessionId) (fresh pass : PassState) (first : List ℕ) (how : Ended)
    (new : links.counts link ≡ no_counts) (kept : pass ≡ record fresh { seen = pass.seen }) (gave : GivesFirst (account_in links link) (account_in links mid) first)
    (again : TalksAgain gives id pass (but_last (links.heard mid)) first (account_in links mid) (account_in links returned) how)
    (cause : IsCauseCounted (links.counts mid) (links.counts returned) how) where
  whole : TalksWhole gives id pass first (account_in links link) (account_in links returned) how
  whole =
      whole_link gives id pass (but_last (links.heard mid)) first (account_in links link) (account_in links mid) (account_in links returned) how gave again
      (told_before (account_in links link) (account_in links mid) first gave) (links.heard link) refl

  connection : ServedConnection L
  connection = record { accepted = link; returned = returned; caller = caller pass; heard = whole.heard; sent = whole.sent; ended = how }

  served : HasServedBy gives id links fresh pass connection
  unfolding connection
  served = record {
    kept = kept;
    mine = refl;
    talk = subst (λ (o : PlainSession). HasTalk gives id o links pass.seen connection) (ap (λ (p : PassState). p.opening) kept) (record {
      talk = whole.talk;
      heard = whole.tells_heard;
      sent = whole.tells_sent;
      exactly = talk_ends gives id pass.opening pass.seen (caller pass) whole.heard whole.sent how whole.talk;
      new = new;
      cause = caused_before no_counts (links.counts mid) (links.counts returned) how (subst (λ (counts : Counts). NoneFalls counts (links.counts mid)) new gave.later) cause;
    });
  }

  -- it was served by the session at this place, with this id
  module _ {K : Type 0} (ids : List SessionId) (on_demand : Bool) (rooms : List (Room K)) (before after : Row K) (place : ℕ) (old left now : PassState)
      (of : AtEach IsOf rooms before.seats.items) (in_row : slice_get before.seats.items place ≡ Some old) (seats_are : after.seats.items ≡ set before.seats.items place now)
      (claims : ClaimsFor on_demand first before.claim after.claim) (target : IsTarget on_demand ids first place id) (serves : ServesOne gives id links old now connection) where
    begins : links.heard link ≢ None → first_frame connection.heard ≡ Some first
    unfolding connection
    begins known = whole.begins known

    met : IsMetOnDemand on_demand ids links connection
    unfolding connection
    met on known named joins missing =
        let same : joins.0 ≡ first = same_Some joins.0 first (sym joins.1 ∙ whole.begins known) in
        target.met on named (subst (λ (bytes : List ℕ). IsJoinOf bytes named) same joins.2) missing

    made_one : (other : SessionId) → IsJoinOf first other → HasMade ids links other (hosted_by (record { session = Some place; link = returned; ended = how }) connection)
    unfolding connection
    made_one other joins = record {
      session = ap (λ (n : ℕ). Some n) (sym target.goes ∙ ap (place_of ids) joins);
      named = λ known. (first, whole.begins known, joins);
    }

    used : (at : ℕ) (room : Room K) (x y : PassState) (other : SessionId) → slice_get before.seats.items at ≡ Some x → slice_get after.seats.items at ≡ Some y → slice_get ids at ≡ Some other → (at ≡ place) ⊎ (at ≢ place)
        → MayServe gives other links (place == at) connection x y
    used at room x y other a b c (inl is) =
        let old_is : old ≡ x = same_Some old x (sym in_row ∙ (ap (slice_get before.seats.items) (sym is) ∙ a)) in
        let now_is : now ≡ y =
        same_Some now y
        (sym (set_here before.seats.items place now (slice_get_within before.seats.items place old in_row))
        ∙ (ap (λ (l : List PassState). slice_get l place) (sym seats_are) ∙ (ap (slice_get after.seats.items) (sym is) ∙ b))) in
        let id_is : id ≡ other = same_Some id other (sym target.has ∙ (ap (slice_get ids) (sym is) ∙ c)) in
        let here : (place == at) ≡ true = eq-eqb place at (sym is) in
        subst (λ (b : Bool). MayServe gives other links b connection x y) (sym here)
        (subst (λ (i : SessionId). ServesOne gives i links x y connection) id_is
        (subst (λ (p : PassState). ServesOne gives id links p y connection) old_is
        (subst (λ (p : PassState). ServesOne gives id links old p connection) now_is serves)))
    used at room x y other a b c (inr apart) =
        let there : (place == at) ≡ false = ne_eqb place at (λ is. apart (sym is)) in
        subst (λ (b : Bool). MayServe gives other links b connection x y) (sym there)
        (same_Some y x (sym b ∙ (ap (λ (l : List PassState). slice_get l at) seats_are ∙ (set_there before.seats.items place at now apart ∙ a))))

    serves_at : ServesPost gives ids on_demand links rooms link before after (record { session = Some place; link = returned; ended = how })
    unfolding connection
    serves_at = record {
      connection = connection;
      accepted = refl;
      returned = refl;
      ended = refl;
      routed = (slice_get_within ids place id target.has, λ known. (first, begins known, target.goes));
      met = met;
      made = record { more = claims.made.more; are = claims.made.are; each = λ at d within. made_one _ (claims.made.each at d within) };
      seats = record {
        as_long = of.as_long;
        as_many = of.as_long ∙ (sym (length-set before.seats.items place now) ∙ ap length (sym seats_are));
        each = λ at room x y a b c other d. used at room x y other b c d (cases_eq at place);
      };
    }

module _ (gives : ℕ → Type 0) {L : Type 0} (links : LinksTell L) (link mid returned : L) (id : SessionId) (first : List ℕ) (how : Ended) (old now : PassState)
    (new : links.counts link ≡ no_counts) (gave : GivesFirst (account_in links link) (account_in links mid) first)
    (by : ServesBy gives id old now (but_last (links.heard mid)) first (account_in links mid) (account_in links returned) how)
    (cause : IsCauseCounted (links.counts mid) (links.counts returned) how) where
  pub serves_some : {K : Type 0} (ids : List SessionId) (on_demand : Bool) (rooms : List (Room K)) (before after : Row K) (place : ℕ) → AtEach IsOf rooms before.seats.items → slice_get before.seats.items place ≡ Some old
      → after.seats.items ≡ set before.seats.items place now → ClaimsFor on_demand first before.claim after.claim → IsTarget on_demand ids first place id
      → ServesPost gives ids on_demand links rooms link before after (record { session = Some place; link = returned; ended = how })
  serves_some ids on_demand rooms before after place of in_row seats_are claims target =
      serves_at gives links link mid returned id by.fresh by.pass first how new by.kept gave by.talk cause ids on_demand rooms before after place old by.left now of in_row seats_are claims target
      (record {
        left = by.left;
        fresh = by.fresh;
        pass = by.pass;
        split = by.split;
        served = served gives links link mid returned id by.fresh by.pass first how new by.kept gave by.talk cause;
        takes = by.takes;
      })
