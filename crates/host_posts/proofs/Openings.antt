-- Rows for posts, behind the lead row that they were split off.
use Rattle.std.proofs.Common.{ℕ, All, List, sym, ap, ◌∙◌, subst, arith}
use Rattle.std.proofs.lemmas.Option.{slice_get_within}
use Rattle.session_lock.specs.Passes.{PassState}
use Rattle.host_server.specs.Claiming.{HasGivenClaims, IsFreshClaim}
use Rattle.host_server.specs.Rows.{AtEach, HasGiven}
use Rattle.host_server.specs.declared.rooms.Row.{Row}
use Rattle.host_server.proofs.Places.{all_at, at_all, element_at}
use Rattle.id_claims.specs.Passes.{PassState as ClaimState}
use Rattle.host_posts.specs.Passes.{HasGivenPosts, IsPostPass, IsPostRow}

pub passes_still : (count : ℕ) (leads now passes : List PassState) → AtEach (HasGiven count) leads now → AtEach IsPostPass leads passes → AtEach IsPostPass now passes
passes_still count leads now passes given posts = record {
  as_long = sym given.as_long ∙ posts.as_long;
  each = λ place last pass in_now in_passes.
      let within = slice_get_within now place last in_now in
      let lead = element_at leads place (let long = given.as_long in omega (arith, long, within)) in
      subst (λ (p : PassState). IsPostPass p pass) (sym (given.each place lead.0 last lead.1 in_now).kept) (posts.each place lead.0 pass lead.1 in_passes);
}

pub claim_still : (count : ℕ) (lead now fresh : ClaimState) → HasGivenClaims count lead now → IsFreshClaim lead fresh → IsFreshClaim now fresh
claim_still count lead now fresh given is = record {
  claims = is.claims ∙ sym (ap (λ (p : ClaimState). p.claims) given.kept);
  parts = is.parts;
  made = is.made;
}

-- rows that were split off a row are so of what it is after it has given numbers
pub rows_still : {K : Type 0} (count : ℕ) (before now : Row K) (rows : List (Row K)) → HasGivenPosts count before now → All (IsPostRow before) rows → All (IsPostRow now) rows
rows_still count before now rows given posts =
    at_all (IsPostRow now) rows
    (λ place row in_rows.
    let post = all_at (IsPostRow before) rows place row posts in_rows in
    record {
      seats = passes_still _ before.seats.items now.seats.items row.seats.items given.seats post.seats;
      claim = claim_still count before.claim now.claim row.claim given.claim post.claim;
    })
