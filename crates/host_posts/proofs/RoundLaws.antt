-- Posts that run beside each other: none, and one more.
use Rattle.std.proofs.Common.{◌≡◌, ℕ, ◌+◌, ◌*◌, ◌≤◌, ◌<◌, Bool, All, Any, List, [], ◌∷◌, ◌++◌, length, Option, Some, append-nil, refl, sym, ap, ◌∙◌, subst, arith}
use Rattle.std.specs.List.{AllByRecursion, slice_get}
use Rattle.std.proofs.lemmas.Grind.{flat_map-append}
use Rattle.std.specs.Option.{option_to_list}
use Rattle.std.proofs.lemmas.List.{length_push, map-append}
use Rattle.std.proofs.lemmas.List.Elements.{All-pop, All-push}
use Rattle.std.proofs.lemmas.Option.{slice_get_within}
use Rattle.atomic_table.specs.Seated.{TableId}
use Rattle.tea_base.specs.declared.entry.SessionId.{SessionId}
use Rattle.tea_io.specs.Told.{Rose, with_more}
use Rattle.tea_io.specs.Links.{Counts}
use Rattle.tea_io.specs.Nets.{plus, sum_of}
use Rattle.run_steps.specs.Outside.{LinksTell, NetTells}
use Rattle.session_lock.specs.Numbers.{count_of}
use Rattle.session_lock.specs.Passes.{PassState}
use Rattle.id_claims.specs.Passes.{Merged, PassState as ClaimState}
use Rattle.net_shares.specs.Shares.{none_of, with_all}
use Rattle.net_shares.proofs.Telling.{with_all_more}
use Rattle.connection.proofs.Talking.{with_more_none}
use Rattle.reflect_server.specs.Connections.{ServedConnection, returned_links}
use Rattle.reflect_server.specs.Passes.{Gathers, Keeps}
use Rattle.reflect_server.specs.Rounds.{with_links}
use Rattle.reflect_server.proofs.PassLaws.{keeps_itself}
use Rattle.host_server.specs.Claiming.{Adds}
use Rattle.host_server.specs.Links.{HasMade, HostedLink, IsMetOnDemand, IsRouted, connections_of, ends_of, in_session}
use Rattle.host_server.specs.Rows.{AtAll, AtEach, IsOf, TakesIn}
use Rattle.host_server.specs.declared.rooms.Room.{Room}
use Rattle.host_server.specs.declared.rooms.Row.{Row}
use Rattle.host_server.proofs.ClaimLaws.{made_merged}
use Rattle.host_server.proofs.Openings.{each_push}
use Rattle.host_server.proofs.Gathering.{gathers_none}
use Rattle.host_server.proofs.Places.{all_at, at_all, element_at, same_element}
use Rattle.host_posts.specs.Counts.{with_ends}
use Rattle.host_posts.specs.Passes.{HaveSpare, IsPostRow}
use Rattle.host_posts.specs.Posts.{EndsBy, IsPost, PostHistory, hosted_in, most_links, post_numbers}
use Rattle.host_posts.specs.Rounds.{HasEnded, IsNewPost, IsReady, PostRuns, PostsGo, RunsPost, TakesShare}
use Rattle.host_posts.specs.Shares.{HasShares, IsShareOf, counts_in, with_faults, with_shares}
use Rattle.host_posts.specs.declared.counting.EndCounts.{EndCounts}
use Rattle.host_posts.specs.declared.post.Post.{Post}
use Rattle.host_posts.specs.declared.posting.PostEnd.{PostEnd}
use Rattle.host_posts.specs.declared.posting.PostEnd.TheVariants.{Stopped, Failed, WantOfMemory, Spent}
use Rattle.host_posts.specs.declared.posting.PostOutcome.{PostOutcome}
use Rattle.host_posts.specs.declared.running.EndedPost.{EndedPost}
use Rattle.host_posts.specs.declared.running.PostRound.{PostRound}
use Rattle.host_posts.proofs.Gatherings.{all_append, gathers_post}
use Rattle.host_posts.proofs.PostLaws.{adds_both, adds_none, any_left, any_right, in_both}

-- ---- lists

pub hosted_push : {L : Type 0} (posts : List (PostHistory L)) (post : PostHistory L) → hosted_in (posts ++ post ∷ []) ≡ hosted_in posts ++ post.hosted
hosted_push {L} posts post =
    flat_map-append (λ (p : PostHistory L). p.hosted) posts (post ∷ [])
    ∙ ap (λ (l : List (HostedLink L)). hosted_in posts ++ l) (append-nil post.hosted)

-- ---- the net

faults_push : {L : Type 0} (sum : ℕ) (posts : List (PostHistory L)) (post : PostHistory L) → with_faults sum (posts ++ post ∷ []) ≡ sum_of (with_faults sum posts) post.faults
faults_push sum [] post = refl
faults_push sum (one ∷ posts) post = faults_push (sum_of sum one.faults) posts post

shares_push : {L : Type 0} (counts : L → Counts) (sum : Counts) (posts : List (PostHistory L)) (post : PostHistory L)
    → with_shares counts sum (posts ++ post ∷ []) ≡ plus (with_shares counts sum posts) (counts_in counts post.hosted)
shares_push counts sum [] post = refl
shares_push counts sum (one ∷ posts) post = shares_push counts (plus sum (counts_in counts one.hosted)) posts post

module _ {N L : Type 0} (tells : NetTells N L) (links : LinksTell L) where
  pub shares_none : (net : N) → HasShares tells links net net []
  shares_none net = record {
    coming = refl;
    asked = refl;
    over = sym (with_more_none (tells.over net));
    lent = refl;
    counts = refl;
    faults = refl;
  }

  -- a share more came back, which had given these links
  pub shares_more : {S : Type 0} (shares : NetTells S L) (before mid now : N) (share : S) (posts : List (PostHistory L)) (hosted : List (HostedLink L)) → HasShares tells links before mid posts
      → TakesShare tells shares share mid now → shares.over share ≡ with_more (none_of (tells.over before)) (returned_links (connections_of hosted))
      → shares.link_counts share ≡ counts_in links.counts hosted
      → HasShares tells links before now (posts ++ record { hosted = hosted; faults = shares.faults share } ∷ [])
  shares_more shares before mid now share posts hosted had takes over counts =
      let post : PostHistory L = record { hosted = hosted; faults = shares.faults share } in
      let all : returned_links (connections_of (hosted_in posts)) ++ returned_links (connections_of hosted) ≡ returned_links (connections_of (hosted_in (posts ++ post ∷ []))) =
      sym (ap (λ (l : List (HostedLink L)). returned_links (connections_of l)) (hosted_push posts post)
      ∙ (ap returned_links (map-append (λ (h : HostedLink L). h.connection) (hosted_in posts) hosted)
      ∙ map-append (λ (c : ServedConnection L). c.returned) (connections_of (hosted_in posts)) (connections_of hosted))) in
      record {
        coming = takes.coming ∙ had.coming;
        asked = takes.asked ∙ had.asked;
        over =
            takes.over
            ∙ (ap (λ (o : Option (List L)). with_all o (shares.over share)) had.over
            ∙ (ap (with_all (with_more (tells.over before) (returned_links (connections_of (hosted_in posts))))) over
            ∙ (with_all_more (tells.over before) (returned_links (connections_of (hosted_in posts))) (returned_links (connections_of hosted))
            ∙ ap (with_more (tells.over before)) all)));
        lent = takes.lent ∙ had.lent;
        counts =
            takes.counts
            ∙ (ap (λ (sum : Counts). plus sum (shares.link_counts share)) had.counts
            ∙ (ap (plus (with_shares links.counts (tells.link_counts before) posts)) counts
            ∙ sym (shares_push links.counts (tells.link_counts before) posts post)));
        faults = takes.faults ∙ (ap (λ (sum : ℕ). sum_of sum (shares.faults share)) had.faults ∙ sym (faults_push (tells.faults before) posts post));
      }

-- ---- a post that has ended

ends_so : (may : Type 0) (links all before now : ℕ) (end : PostEnd) → links ≡ all → before ≡ 0 → EndsBy may links before now end → EndsBy may all 0 now end
ends_so may links all before now end same none ended = subst (λ (n : ℕ). EndsBy may all n now end) none (subst (λ (n : ℕ). EndsBy may n before now end) same ended)

-- what its pass of claims has made was made by its links
adds_merged : (P : SessionId → Type 0) (start done rest now : ClaimState) → start.made ≡ [] → Adds P start.made done.made → Merged rest done now → Adds P rest.made now.made
adds_merged P start done rest now none adds merged = record {
  more = adds.more;
  are = sym (made_merged rest done now merged ∙ ap (λ (l : List SessionId). rest.made ++ l) (sym adds.are ∙ ap (λ (l : List SessionId). l ++ adds.more) none));
  each = adds.each;
}

-- the passes of a new post are of the same sessions
pub new_of : {K : Type 0} (rooms : List (Room K)) (lead row : Row K) → AtEach IsOf rooms lead.seats.items → IsPostRow lead row → AtEach IsOf rooms row.seats.items
new_of rooms lead row of post = record {
  as_long = of.as_long ∙ post.seats.as_long;
  each = λ place room pass in_rooms in_row.
      let within = slice_get_within rooms place room in_rooms in
      let first = element_at lead.seats.items place (let long = of.as_long in omega (arith, long, within)) in
      (post.seats.each place first.0 pass first.1 in_row).session ∙ of.each place room first.0 in_rooms first.1;
}

-- each only added to itself
pub new_keeps : {K : Type 0} (lead row : Row K) → IsPostRow lead row → All (λ pass. Keeps pass pass) row.seats.items
new_keeps lead row post =
    at_all (λ (p : PassState). Keeps p p) row.seats.items
    (λ place pass in_row.
    let first = element_at lead.seats.items place (let long = post.seats.as_long in let within = slice_get_within row.seats.items place pass in_row in omega (arith, long, within)) in
    keeps_itself pass (post.seats.each place first.0 pass first.1 in_row).one)

pub new_spare : {K : Type 0} (lead row : Row K) → IsPostRow lead row → HaveSpare 0 row.seats.items
new_spare lead row post =
    at_all (λ (p : PassState). most_links ≤ count_of p.spare + 0) row.seats.items
    (λ place pass in_row.
    let first = element_at lead.seats.items place (let long = post.seats.as_long in let within = slice_get_within row.seats.items place pass in_row in omega (arith, long, within)) in
    let spare = (post.seats.each place first.0 pass first.1 in_row).spare in
    omega (arith, spare))

-- ---- rounds

module _ (gives : ℕ → Type 0) (may : Type 0) (ids : List SessionId) (on_demand : Bool) {N S L K : Type 0} (tells : NetTells N L) (shares : NetTells S L) (links : LinksTell L) (rooms : List (Room K)) where
  -- there is no post
  pub posts_none : (round : PostRound N K) (count : ℕ) → AtEach IsOf rooms round.lead.seats.items → All (λ lead. Keeps lead lead) round.lead.seats.items → round.outcomes.items ≡ [] → count ≡ 0
      → PostsGo gives may ids on_demand tells shares links rooms count round round
  posts_none round count of kept begins none = record {
    posts = [];
    number = sym none;
    own = λ place post within. absurd (omega (arith, within));
    net = shares_none tells links round.net;
    passes = record {
      as_long = of.as_long;
      as_many = of.as_long;
      each = λ place room lead now in_rooms in_lead in_now id at.
          subst (λ (p : PassState). Gathers gives id links lead (count * post_numbers) [] p) (same_element round.lead.seats.items place lead now in_lead in_now)
          (gathers_none gives id links lead lead (count * post_numbers) (all_at (λ (p : PassState). Keeps p p) round.lead.seats.items place lead kept in_lead) (omega (arith, none)));
    };
    outcomes = subst (AtEach (IsPost may) []) (sym begins) (record { as_long = refl; each = λ place x y in_none in_other. absurd (cc (in_none)) });
    routed = tt;
    met = tt;
    made = adds_none _ round.lead.claim.made;
  }

  -- one post more has ended
  pub posts_more : (before rest now : PostRound N K) (start done : Post S K) (end : PostEnd) (count more : ℕ) → more ≡ count + 1 → IsNewPost tells shares before.net before.lead start
      → PostRuns gives may ids on_demand shares links rooms start done end → PostsGo gives may ids on_demand tells shares links rooms count before rest
      → AtAll (λ _ lead other last. TakesIn lead other last) rest.lead.seats.items done.row.seats.items now.lead.seats.items → Merged rest.lead.claim done.row.claim now.lead.claim
      → TakesShare tells shares done.share rest.net now.net → now.outcomes.items ≡ rest.outcomes.items ++ record { end = end; counts = done.counts } ∷ []
      → PostsGo gives may ids on_demand tells shares links rooms more before now
  posts_more before rest now start done end count more more_is new runs go takes merged share outcomes_are = record {
    posts = go.posts ++ post ∷ [];
    number = length_push go.posts post ∙ (ap (λ (n : ℕ). n + 1) go.number ∙ sym more_is);
    own = All-push (IsShareOf tells shares links before.net) go.posts post go.own is_own;
    net =
        shares_more tells links shares before.net rest.net now.net done.share go.posts runs.goes.hosted go.net share
        (runs.goes.share.over ∙ ap (λ (o : Option (List L)). with_more o (returned_links (connections_of runs.goes.hosted))) new.share.over)
        (runs.goes.share.counts ∙ ap (λ (sum : Counts). with_links links.counts sum (returned_links (connections_of runs.goes.hosted))) new.share.counts);
    passes = record {
      as_long = go.passes.as_long;
      as_many = go.passes.as_many ∙ takes.as_many;
      each = λ place room lead last in_rooms in_lead in_now id at. at_place place room lead last in_rooms in_lead in_now id at;
    };
    outcomes = subst (AtEach (IsPost may) (go.posts ++ post ∷ [])) (sym outcomes_are) (each_push (IsPost may) go.posts rest.outcomes.items post outcome go.outcomes is_post);
    routed =
        subst (AllByRecursion (λ (h : HostedLink L). IsRouted gives ids links h.session h.connection)) (sym (hosted_push go.posts post))
        (all_append (λ (h : HostedLink L). IsRouted gives ids links h.session h.connection) (hosted_in go.posts) runs.goes.hosted go.routed runs.goes.routed);
    met =
        subst (AllByRecursion (λ (h : HostedLink L). IsMetOnDemand on_demand ids links h.connection)) (sym (hosted_push go.posts post))
        (all_append (λ (h : HostedLink L). IsMetOnDemand on_demand ids links h.connection) (hosted_in go.posts) runs.goes.hosted go.met runs.goes.met);
    made =
        subst (λ (l : List (HostedLink L)). Adds (λ (id : SessionId). Any (HasMade ids links id) l) before.lead.claim.made now.lead.claim.made) (sym (hosted_push go.posts post))
        (adds_both (λ (id : SessionId). Any (HasMade ids links id) (hosted_in go.posts)) (λ (id : SessionId). Any (HasMade ids links id) runs.goes.hosted)
        (λ (id : SessionId). Any (HasMade ids links id) (hosted_in go.posts ++ runs.goes.hosted)) before.lead.claim.made rest.lead.claim.made now.lead.claim.made (λ id has. any_left (HasMade ids links id) (hosted_in go.posts) runs.goes.hosted has)
        (λ id has. any_right (HasMade ids links id) (hosted_in go.posts) runs.goes.hosted has) go.made
        (adds_merged (λ (id : SessionId). Any (HasMade ids links id) runs.goes.hosted) start.row.claim done.row.claim rest.lead.claim now.lead.claim new.row.claim.made runs.goes.made merged));
  }
    where
      post : PostHistory L
      post = record { hosted = runs.goes.hosted; faults = shares.faults done.share }

      is_own : IsShareOf tells shares links before.net post
      is_own = record { start = start.share; last = done.share; unused = new.share; returned = runs.goes.share; faults = refl }

      outcome : PostOutcome
      outcome = record { end = end; counts = done.counts }

      is_post : IsPost may post outcome
      is_post = record {
        few = let number = runs.goes.number in let few = runs.few in omega (arith, number, few);
        ended = ends_so may runs.count (length runs.goes.hosted) (shares.faults start.share) (shares.faults done.share) end (sym runs.goes.number) new.share.faults runs.ended;
        counts = runs.goes.counts ∙ ap (λ (c : EndCounts). with_ends c (ends_of runs.goes.hosted)) new.ends;
      }

      at_place : (place : ℕ) (room : Room K) (lead last : PassState) → slice_get rooms place ≡ Some room → slice_get before.lead.seats.items place ≡ Some lead → slice_get now.lead.seats.items place ≡ Some last → (id : SessionId)
          → slice_get ids place ≡ Some id → Gathers gives id links lead (more * post_numbers) (in_session place (hosted_in (go.posts ++ post ∷ []))) last
      at_place place room lead last in_rooms in_lead in_now id at =
          let within : place < length rooms = slice_get_within rooms place room in_rooms in
          let kept = element_at rest.lead.seats.items place (let long = go.passes.as_many in omega (arith, within, long)) in
          let first = element_at start.row.seats.items place (let long = runs.goes.passes.as_long in omega (arith, within, long)) in
          let pass = element_at done.row.seats.items place (let long = runs.goes.passes.as_many in omega (arith, within, long)) in
          let count_is : count * post_numbers + post_numbers ≡ more * post_numbers = omega (arith, more_is) in
          let list_is : in_session place (hosted_in go.posts) ++ in_session place runs.goes.hosted ≡ in_session place (hosted_in (go.posts ++ post ∷ [])) =
          sym (ap (in_session place) (hosted_push go.posts post) ∙ in_both place (hosted_in go.posts) runs.goes.hosted) in
          subst (λ (n : ℕ). Gathers gives id links lead n (in_session place (hosted_in (go.posts ++ post ∷ []))) last) count_is
          (subst (λ (l : List (ServedConnection L)). Gathers gives id links lead (count * post_numbers + post_numbers) l last) list_is
          (gathers_post gives id links lead kept.0 first.0 pass.0 last (count * post_numbers) (in_session place (hosted_in go.posts)) (in_session place runs.goes.hosted)
          (go.passes.each place room lead kept.0 in_rooms in_lead kept.1 id at) (new.row.seats.each place lead first.0 in_lead first.1)
          (runs.goes.passes.each place room first.0 pass.0 in_rooms first.1 pass.1 id at) (takes.each place kept.0 pass.0 last kept.1 pass.1 in_now)))

-- ---- posts that are ready, and that have ended

pub each_none : {A B : Type 0} (holds : A → B → Type 0) (xs : List A) (ys : List B) → length xs ≡ 0 → length ys ≡ 0 → AtEach holds xs ys
each_none holds xs ys none_first none_rest = record {
  as_long = none_first ∙ sym none_rest;
  each = λ place x y in_xs in_ys. absurd (let within = slice_get_within xs place x in_xs in omega (arith, within, none_first));
}

module _ {N S L K : Type 0} (tells : NetTells N L) (shares : NetTells S L) (rooms : List (Room K)) (table : TableId) (net : N) (lead : Row K) (of : AtEach IsOf rooms lead.seats.items) (claims : lead.claim.claims ≡ table) where
  ready_post : (post : Post S K) → IsNewPost tells shares net lead post → IsReady rooms table post
  ready_post post new = record {
    seats = new_of rooms lead post.row of new.row;
    claim = new.row.claim.claims ∙ claims;
    spare = new_spare lead post.row new.row;
    kept = new_keeps lead post.row new.row;
  }

  pub ready_all : (posts : List (Post S K)) → All (IsNewPost tells shares net lead) posts → All (IsReady rooms table) posts
  ready_all posts new place post within = ready_post _ (new place post within)

-- new posts that have run have ended
pub ended_all : (gives : ℕ → Type 0) (may : Type 0) (listed : List SessionId) (on_demand : Bool) {N S L K : Type 0} (tells : NetTells N L) (shares : NetTells S L) (links : LinksTell L) (rooms : List (Room K)) (net : N) (lead : Row K)
    (posts : List (Post S K)) (ended : List (EndedPost S K)) → All (IsNewPost tells shares net lead) posts → AtEach (λ post one. RunsPost gives may listed on_demand shares links rooms post one.post one.end) posts ended
    → All (λ one. HasEnded gives may listed on_demand tells shares links rooms net lead one.post one.end) ended
ended_all gives may listed on_demand {K = K} tells shares links rooms net lead posts ended new ran =
    at_all (λ (one : EndedPost _ K). HasEnded gives may listed on_demand tells shares links rooms net lead one.post one.end) ended
    (λ place one in_ended.
    let within = slice_get_within ended place one in_ended in
    let start = element_at posts place (let long = ran.as_long in omega (arith, long, within)) in
    record {
      start = start.0;
      new = all_at (IsNewPost tells shares net lead) posts place start.0 new start.1;
      ran = ran.each place start.0 one start.1 in_ended;
    })

-- one more post that was run has ended
pub ran_push : (gives : ℕ → Type 0) (may : Type 0) (listed : List SessionId) (on_demand : Bool) {S L K : Type 0} (shares : NetTells S L) (links : LinksTell L) (rooms : List (Room K)) (all posts : List (Post S K)) (ended now : List (EndedPost S K))
    (post : Post S K) (one : EndedPost S K) → all ≡ posts ++ post ∷ [] → now ≡ ended ++ one ∷ [] → AtEach (λ start done. RunsPost gives may listed on_demand shares links rooms start done.post done.end) posts ended
    → RunsPost gives may listed on_demand shares links rooms post one.post one.end → AtEach (λ start done. RunsPost gives may listed on_demand shares links rooms start done.post done.end) all now
ran_push gives may listed on_demand {S = S} {K = K} shares links rooms all posts ended now post one all_is now_is each ran =
    let runs = λ (start : Post S K) (done : EndedPost S K). RunsPost gives may listed on_demand shares links rooms start done.post done.end in
    subst (λ (l : List (Post S K)). AtEach runs l now) (sym all_is)
    (subst (AtEach runs (posts ++ post ∷ [])) (sym now_is) (each_push runs posts ended post one each ran))

pub ran_none : (gives : ℕ → Type 0) (may : Type 0) (listed : List SessionId) (on_demand : Bool) {S L K : Type 0} (shares : NetTells S L) (links : LinksTell L) (rooms : List (Room K)) (posts : List (Post S K)) (ended : List (EndedPost S K))
    → length posts ≡ 0 → ended ≡ [] → AtEach (λ start done. RunsPost gives may listed on_demand shares links rooms start done.post done.end) posts ended
ran_none gives may listed on_demand {S = S} {K = K} shares links rooms posts ended none begins =
    each_none (λ (start : Post S K) (done : EndedPost S K). RunsPost gives may listed on_demand shares links rooms start done.post done.end) posts ended none (ap length begins)

-- the last of those that have ended
pub pop_ended : (gives : ℕ → Type 0) (may : Type 0) (listed : List SessionId) (on_demand : Bool) {N S L K : Type 0} (tells : NetTells N L) (shares : NetTells S L) (links : LinksTell L) (rooms : List (Room K)) (net : N) (lead : Row K)
    (ended rest : List (EndedPost S K)) (one : EndedPost S K) → ended ≡ rest ++ option_to_list (Some one) → All (λ e. HasEnded gives may listed on_demand tells shares links rooms net lead e.post e.end) ended
    → All (λ e. HasEnded gives may listed on_demand tells shares links rooms net lead e.post e.end) rest × HasEnded gives may listed on_demand tells shares links rooms net lead one.post one.end
pop_ended gives may listed on_demand {S = S} {K = K} tells shares links rooms net lead ended rest one is all =
    All-pop (λ (e : EndedPost S K). HasEnded gives may listed on_demand tells shares links rooms net lead e.post e.end) ended rest (Some one) is all
