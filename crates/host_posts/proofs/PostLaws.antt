-- What a post has done: nothing yet, one link more, and all in the end.
use Rattle.std.proofs.Common.{◌≡◌, ◌+◌, ◌≤◌, ◌<◌, ℕ, Bool, true, false, All, Any, if◌then◌else◌, List, [], ◌∷◌, ◌++◌, length, Option, Some, None, append-nil, append_assoc, length-append, refl, sym, ap, ◌∙◌, subst, arith}
use Rattle.std.specs.List.{slice_get}
use Rattle.std.proofs.lemmas.List.{get_or_append_left, get_or-append-add, length_push, map-append}
use Rattle.std.proofs.lemmas.List.Elements.{All-append}
use Rattle.std.proofs.lemmas.Option.{slice_get_within}
use Rattle.tea_base.specs.declared.entry.SessionId.{SessionId}
use Rattle.tea_io.specs.Told.{TakesFirst, with_more}
use Rattle.tea_io.specs.Links.{Counts}
use Rattle.tea_io.specs.Nets.{plus}
use Rattle.run_steps.specs.Outside.{LinksTell, NetTells}
use Rattle.session_lock.specs.Numbers.{count_of}
use Rattle.session_lock.specs.Passes.{PassState}
use Rattle.connection.specs.declared.ending.Ended.{Ended}
use Rattle.connection.proofs.Talking.{with_more_twice}
use Rattle.reflect_server.specs.Connections.{ServedConnection, accepted_links, returned_links}
use Rattle.reflect_server.specs.Passes.{Gathers, Keeps}
use Rattle.reflect_server.specs.Reflects.{ReturnsLinks}
use Rattle.reflect_server.specs.Rounds.{TakesAll, with_links}
use Rattle.id_claims.specs.Passes.{PassState as ClaimState}
use Rattle.host_server.specs.Claiming.{Adds, GathersClaims}
use Rattle.host_server.specs.Links.{HasMade, HostedLink, IsMetOnDemand, IsRouted, connections_of, end_of, ends_of, in_session, is_at}
use Rattle.host_server.specs.Rounds.{end_in, hosted_by}
use Rattle.host_server.specs.Rows.{AtEach, IsOf}
use Rattle.host_server.specs.declared.hosting.HostEnd.{HostEnd}
use Rattle.host_server.specs.declared.rooms.Room.{Room}
use Rattle.host_server.proofs.Gathering.{gathers_none}
use Rattle.host_server.proofs.NetLaws.{nothing_back}
use Rattle.host_server.proofs.Places.{all_at, at_all, element_at, same_element}
use Rattle.host_posts.specs.Counts.{with_end, with_ends}
use Rattle.host_posts.specs.Passes.{HaveSpare, MayServe, UsesOneAtMost}
use Rattle.host_posts.specs.Posts.{EndsBy, most_links}
use Rattle.host_posts.specs.Rounds.{PostGoes, ServesNext}
use Rattle.host_posts.specs.Shares.{HasGivenLink, HasWaited}
use Rattle.host_posts.specs.declared.counting.EndCounts.{EndCounts}
use Rattle.host_posts.specs.declared.post.Post.{Post}
use Rattle.host_posts.specs.declared.posting.PostEnd.{PostEnd}
use Rattle.host_posts.proofs.Gatherings.{all_append, gathers_next}

-- ---- lists

pub any_left : {A : Type 0} (P : A → Type 0) (xs ys : List A) → Any P xs → Any P (xs ++ ys)
any_left P xs ys found =
    let long = length-append xs ys in let within = found.2 in
    (found.0, found.1, omega (arith, long, within), get_or_append_left xs ys found.1 found.0 within ∙ found.3, found.4)

pub any_right : {A : Type 0} (P : A → Type 0) (xs ys : List A) → Any P ys → Any P (xs ++ ys)
any_right P xs ys found =
    let long = length-append xs ys in let within = found.2 in
    (length xs + found.0, found.1, omega (arith, long, within), get_or-append-add xs ys found.0 found.1 ∙ found.3, found.4)

pub any_one : {A : Type 0} (P : A → Type 0) (x : A) → P x → Any P (x ∷ [])
any_one P x holds = (0, x, omega arith, refl, holds)

pub all_so : {A : Type 0} (P Q : A → Type 0) (xs : List A) → ((x : A) → P x → Q x) → All P xs → All Q xs
all_so P Q xs so all place d within = so _ (all place d within)

-- ids that came, and then some more
pub adds_both : (P Q R : SessionId → Type 0) (before mid after : List SessionId) → ((id : SessionId) → P id → R id) → ((id : SessionId) → Q id → R id) → Adds P before mid → Adds Q mid after → Adds R before after
adds_both P Q R before mid after first_so rest_so first rest = record {
  more = first.more ++ rest.more;
  are = sym (append_assoc before first.more rest.more) ∙ (ap (λ (l : List SessionId). l ++ rest.more) first.are ∙ rest.are);
  each = All-append R first.more rest.more (all_so P R first.more first_so first.each) (all_so Q R rest.more rest_so rest.each);
}

pub adds_none : (P : SessionId → Type 0) (ids : List SessionId) → Adds P ids ids
adds_none P ids = record { more = []; are = append-nil ids; each = λ place d within. absurd (omega (arith, within)) }

-- ---- links of a share

takes_push : {A : Type 0} (before mid given now : Option (List A)) (all : List A) (one : A) → TakesAll before mid all → TakesFirst mid given one → now ≡ given → TakesAll before now (all ++ one ∷ [])
takes_push None mid given now all one first next is =
    is ∙ subst (λ (o : Option _). TakesFirst o given one) first next
takes_push (Some told) mid given now all one first next is =
    let after : TakesFirst (Some first.0) given one = subst (λ (o : Option _). TakesFirst o given one) first.2 next in
    (after.0, first.1 ∙ (ap (λ (l : List _). all ++ l) after.1 ∙ sym (append_assoc all (one ∷ []) after.0)), is ∙ after.2)

links_push : {L : Type 0} (counts : L → Counts) (sum : Counts) (links : List L) (one : L) → with_links counts sum (links ++ one ∷ []) ≡ plus (with_links counts sum links) (counts one)
links_push counts sum [] one = refl
links_push counts sum (link ∷ links) one = links_push counts (plus sum (counts link)) links one

pub in_both : {L : Type 0} (place : ℕ) (first rest : List (HostedLink L)) → in_session place (first ++ rest) ≡ in_session place first ++ in_session place rest
in_both place [] rest = refl
in_both place (one ∷ first) rest = by (is_at place one.session) (in_both place first rest)
  where
    by : (b : Bool) → in_session place (first ++ rest) ≡ in_session place first ++ in_session place rest
        → (if b then one.connection ∷ in_session place (first ++ rest) else in_session place (first ++ rest))
        ≡ (if b then one.connection ∷ in_session place first else in_session place first) ++ in_session place rest
    by true same = ap (λ (l : List _). one.connection ∷ l) same
    by false same = same

ends_push : (counts : EndCounts) (ends : List HostEnd) (one : HostEnd) → with_ends counts (ends ++ one ∷ []) ≡ with_end (with_ends counts ends) one
ends_push counts [] one = refl
ends_push counts (end ∷ ends) one = ends_push (with_end counts end) ends one

-- a link more was given, served and given back
returns_more : {S L : Type 0} (tells : NetTells S L) (links : LinksTell L) (before mid given now : S) (link returned : L) (connections : List (ServedConnection L)) (one : ServedConnection L)
    → ReturnsLinks tells links before mid connections → HasGivenLink tells links mid given link → one.accepted ≡ link → one.returned ≡ returned
    → tells.lent now + 1 ≡ tells.lent given → tells.over now ≡ with_more (tells.over given) (returned ∷ []) → tells.link_counts now ≡ plus (tells.link_counts given) (links.counts returned)
    → tells.coming now ≡ tells.coming given → ReturnsLinks tells links before now (connections ++ one ∷ [])
returns_more {L = L} tells links before mid given now link returned connections one had gave accepted_is returned_is lent over counts coming = record {
  coming =
      subst (TakesAll (tells.coming before) (tells.coming now)) (sym (map-append (λ (c : ServedConnection L). c.accepted) connections (one ∷ [])))
      (takes_push (tells.coming before) (tells.coming mid) (tells.coming given) (tells.coming now) (accepted_links connections) one.accepted had.coming
      (subst (TakesFirst (tells.coming mid) (tells.coming given)) (sym accepted_is) gave.coming) coming);
  over =
      over
      ∙ (ap (λ (o : Option (List L)). with_more o (returned ∷ [])) (gave.over ∙ had.over)
      ∙ (with_more_twice (tells.over before) (returned_links connections) (returned ∷ [])
      ∙ ap (with_more (tells.over before)) (ap (λ (l : L). returned_links connections ++ l ∷ []) (sym returned_is) ∙ sym (map-append (λ (c : ServedConnection L). c.returned) connections (one ∷ [])))));
  lent = let had_lent = had.lent in let gave_lent = gave.lent in omega (arith, lent, had_lent, gave_lent);
  counts =
      counts
      ∙ (ap (λ (sum : Counts). plus sum (links.counts returned)) (gave.counts ∙ had.counts)
      ∙ (ap (λ (l : L). plus (with_links links.counts (tells.link_counts before) (returned_links connections)) (links.counts l)) (sym returned_is)
      ∙ (sym (links_push links.counts (tells.link_counts before) (returned_links connections) one.returned)
      ∙ ap (with_links links.counts (tells.link_counts before)) (sym (map-append (λ (c : ServedConnection L). c.returned) connections (one ∷ []))))));
}

abbrev end_with : Option ℕ → Ended → HostEnd
end_with session ended = record { session = session; ended = ended }

-- ---- a post

module _ (gives : ℕ → Type 0) (ids : List SessionId) (on_demand : Bool) {S L K : Type 0} (tells : NetTells S L) (links : LinksTell L) (rooms : List (Room K)) where
  pub post_none : (post : Post S K) → AtEach IsOf rooms post.row.seats.items → All (λ pass. Keeps pass pass) post.row.seats.items → PostGoes gives ids on_demand tells links rooms 0 post post
  post_none post of kept = record {
    hosted = [];
    number = refl;
    share = nothing_back tells links post.share post.share refl refl refl refl;
    passes = record {
      as_long = of.as_long;
      as_many = of.as_long;
      each = λ place room start now in_rooms in_start in_now id at.
          subst (λ (p : PassState). Gathers gives id links start 0 [] p) (same_element post.row.seats.items place start now in_start in_now)
          (gathers_none gives id links start start 0 (all_at (λ (p : PassState). Keeps p p) post.row.seats.items place start kept in_start) (omega arith));
    };
    counts = refl;
    routed = tt;
    met = tt;
    made = adds_none _ post.row.claim.made;
  }

  serves_either : (id : SessionId) (start pass now : PassState) (connections : List (ServedConnection L)) (one : ServedConnection L) (b : Bool) → Gathers gives id links start 0 connections pass → MayServe gives id links b one pass now
      → Gathers gives id links start 0 (connections ++ (if b then one ∷ [] else [])) now
  serves_either id start pass now connections one true gathers serves = gathers_next gives id links start pass now 0 connections one gathers serves
  serves_either id start pass now connections one false gathers same =
      subst (λ (l : List (ServedConnection L)). Gathers gives id links start 0 l now) (sym (append-nil connections)) (subst (Gathers gives id links start 0 connections) (sym same) gathers)

  -- one link more was given and served
  pub post_more : (count : ℕ) (before mid now : Post S K) (given : S) (link : L) → PostGoes gives ids on_demand tells links rooms count before mid → HasGivenLink tells links mid.share given link
      → ServesNext gives ids on_demand tells links rooms link (record mid { share = given }) now → PostGoes gives ids on_demand tells links rooms (count + 1) before now
  post_more count before mid now given link goes gave next = record {
    hosted = goes.hosted ++ one ∷ [];
    number = length_push goes.hosted one ∙ ap (λ (n : ℕ). n + 1) goes.number;
    share =
        subst (ReturnsLinks tells links before.share now.share) (sym (map-append (λ (h : HostedLink L). h.connection) goes.hosted (one ∷ [])))
        (returns_more tells links before.share mid.share given now.share link next.one.link (connections_of goes.hosted) next.served.connection goes.share gave next.served.accepted next.served.returned
        next.back.lent next.back.over next.back.counts next.back.coming);
    passes = record {
      as_long = goes.passes.as_long;
      as_many = next.served.seats.as_many;
      each = λ place room start last in_rooms in_start in_now id at. at_place place room start last in_rooms in_start in_now id at;
    };
    counts =
        next.counts
        ∙ (ap (λ (c : EndCounts). with_end c (end_in next.one)) goes.counts
        ∙ (sym (ends_push before.counts (ends_of goes.hosted) (end_in next.one))
        ∙ ap (with_ends before.counts) (ap (λ (e : HostEnd). ends_of goes.hosted ++ e ∷ []) end_is ∙ sym (map-append end_of goes.hosted (one ∷ [])))));
    routed = all_append (λ (h : HostedLink L). IsRouted gives ids links h.session h.connection) goes.hosted (one ∷ []) goes.routed (next.served.routed, tt);
    met = all_append (λ (h : HostedLink L). IsMetOnDemand on_demand ids links h.connection) goes.hosted (one ∷ []) goes.met (next.served.met, tt);
    made =
        adds_both (λ (id : SessionId). Any (HasMade ids links id) goes.hosted) (λ (id : SessionId). HasMade ids links id one) (λ (id : SessionId). Any (HasMade ids links id) (goes.hosted ++ one ∷ []))
        before.row.claim.made mid.row.claim.made now.row.claim.made (λ id has. any_left (HasMade ids links id) goes.hosted (one ∷ []) has)
        (λ id has. any_right (HasMade ids links id) goes.hosted (one ∷ []) (any_one (HasMade ids links id) one has)) goes.made next.served.made;
  }
    where
      one : HostedLink L
      one = hosted_by next.one next.served.connection

      end_is : end_in next.one ≡ end_of one
      end_is = ap (end_with next.one.session) (sym next.served.ended)

      in_last : (place : ℕ) → in_session place (one ∷ []) ≡ (if is_at place one.session then one.connection ∷ [] else [])
      in_last place = refl

      at_place : (place : ℕ) (room : Room K) (start last : PassState) → slice_get rooms place ≡ Some room → slice_get before.row.seats.items place ≡ Some start → slice_get now.row.seats.items place ≡ Some last → (id : SessionId)
          → slice_get ids place ≡ Some id → Gathers gives id links start 0 (in_session place (goes.hosted ++ one ∷ [])) last
      at_place place room start last in_rooms in_start in_now id at =
          let within : place < length rooms = slice_get_within rooms place room in_rooms in
          let pass = element_at mid.row.seats.items place (let long = goes.passes.as_many in omega (arith, within, long)) in
          subst (λ (l : List (ServedConnection L)). Gathers gives id links start 0 l last) (sym (in_both place goes.hosted (one ∷ [])))
          (serves_either id start pass.0 last (in_session place goes.hosted) one.connection (is_at place one.session)
          (goes.passes.each place room start pass.0 in_rooms in_start pass.1 id at) (next.served.seats.each place room pass.0 last in_rooms pass.1 in_now id at))

-- ---- spare numbers

-- while a link may still be served, each pass has a spare number
pub spare_left : (turn : ℕ) (passes : List PassState) → turn < most_links → HaveSpare turn passes → All (λ pass. 1 ≤ count_of pass.spare) passes
spare_left turn passes below spare =
    all_so (λ (p : PassState). most_links ≤ count_of p.spare + turn) (λ (p : PassState). 1 ≤ count_of p.spare) passes (λ pass enough. omega (arith, below, enough)) spare

pub spare_more : (turn : ℕ) (before now : List PassState) → HaveSpare turn before → AtEach UsesOneAtMost before now → HaveSpare (turn + 1) now
spare_more turn before now spare uses =
    at_all (λ (p : PassState). most_links ≤ count_of p.spare + (turn + 1)) now
    (λ place pass in_now.
    let old = element_at before place (let long = uses.as_long in let within = slice_get_within now place pass in_now in omega (arith, long, within)) in
    let enough = all_at (λ (p : PassState). most_links ≤ count_of p.spare + turn) before place old.0 spare old.1 in
    let one = uses.each place old.0 pass old.1 in_now in
    omega (arith, enough, one))

-- ---- a post that goes on, or has ended

pub claims_then : (on_demand : Bool) (before mid now : ClaimState) → GathersClaims on_demand 0 before mid → GathersClaims on_demand 0 mid now → GathersClaims on_demand 0 before now
claims_then on_demand before mid now first next = record {
  claims = next.claims ∙ first.claims;
  parts = let a = first.parts in let b = next.parts in omega (arith, a, b);
  none = λ still. next.none still ∙ first.none still;
}

-- its share has waited in vain
pub post_waited : (gives : ℕ → Type 0) (ids : List SessionId) (on_demand : Bool) {S L K : Type 0} (tells : NetTells S L) (links : LinksTell L) (rooms : List (Room K)) (count : ℕ) (before mid : Post S K) (given : S)
    → PostGoes gives ids on_demand tells links rooms count before mid → HasWaited tells mid.share given → PostGoes gives ids on_demand tells links rooms count before (record mid { share = given })
post_waited gives ids on_demand {L = L} tells links rooms count before mid given goes waited = record {
  hosted = goes.hosted;
  number = goes.number;
  share = record {
    coming = subst (λ (o : Option (List L)). TakesAll (tells.coming before.share) o (accepted_links (connections_of goes.hosted))) (sym waited.coming) goes.share.coming;
    over = waited.over ∙ goes.share.over;
    lent = waited.lent ∙ goes.share.lent;
    counts = waited.counts ∙ goes.share.counts;
  };
  passes = goes.passes;
  counts = goes.counts;
  routed = goes.routed;
  met = goes.met;
  made = goes.made;
}

-- a count of faults that was still as it had been before
pub ends_since : (may : Type 0) (links before mid now : ℕ) (end : PostEnd) → mid ≡ before → EndsBy may links mid now end → EndsBy may links before now end
ends_since may links before mid now end same ended = subst (λ (n : ℕ). EndsBy may links n now end) same ended
