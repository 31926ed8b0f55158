-- Sessions that are opened, one after the other, each with its lead pass.
use Rattle.std.proofs.Common.{◌≡◌, ℕ, suc, ◌≤◌, All, List, [], ◌∷◌, ◌++◌, refl, sym, ap, ◌∙◌, subst, arith}
use Rattle.std.proofs.lemmas.Option.{slice_get_within}
use Rattle.reflector_core.specs.PlainSession.{PlainSession}
use Rattle.reflector_core.specs.Play.{first_session}
use Rattle.id_claims.specs.Passes.{ClaimsState}
use Rattle.id_claims.specs.Passes as claims
use Rattle.session_lock.specs.Numbers.{count_of}
use Rattle.session_lock.specs.Passes.{PassState, first_pass}
use Rattle.reflect_server.specs.Passes.{IsFresh}
use Rattle.host_server.specs.Claiming.{HasGivenClaims, IsBegunClaim}
use Rattle.host_server.specs.Prepares.{IsBegun, IsNew}
use Rattle.host_server.specs.Rows.{AtEach, HasGiven, HasGivenRow, IsFreshRow, IsOf}
use Rattle.host_server.specs.declared.rooms.Room.{Room}
use Rattle.host_server.specs.declared.rooms.Row.{Row}
use Rattle.host_server.proofs.ClosingLaws.{both_more}
use Rattle.host_server.proofs.Places.{all_at, at_all, element_at}

-- one element more in each list
pub each_push : {A B : Type 0} (P : A → B → Type 0) (xs : List A) (ys : List B) (x : A) (y : B) → AtEach P xs ys → P x y → AtEach P (xs ++ x ∷ []) (ys ++ y ∷ [])
each_push P [] [] x y all one = both_more P x y [] [] one all
each_push P [] (b ∷ ys) x y all one = let long = all.as_long in absurd (omega (arith, long))
each_push P (a ∷ xs) [] x y all one = let long = all.as_long in absurd (omega (arith, long))
each_push P (a ∷ xs) (b ∷ ys) x y all one =
    let long = all.as_long in
    both_more P a b (xs ++ x ∷ []) (ys ++ y ∷ []) (all.each 0 a b refl refl)
    (each_push P xs ys x y (record { as_long = omega (arith, long); each = λ place u v in_xs in_ys. all.each (suc place) u v in_xs in_ys }) one)

-- a new session has a first pass of it
pub new_room : {K : Type 0} (room : Room K) (lead : PassState) (opening : PlainSession) → lead ≡ first_pass room.shared.session opening → opening ≡ first_session → IsNew room lead
new_room room lead opening is first = record { begins = is ∙ ap (first_pass room.shared.session) first }

-- one session more
pub new_more : {K : Type 0} (old new : List (Room K)) (leads now : List PassState) (room : Room K) (lead : PassState) → AtEach IsNew old leads → IsNew room lead → new ≡ old ++ room ∷ [] → now ≡ leads ++ lead ∷ [] → AtEach IsNew new now
new_more old new leads now room lead all one rooms_is leads_is =
    subst (λ (l : List (Room _)). AtEach IsNew l now) (sym rooms_is) (subst (AtEach IsNew (old ++ room ∷ [])) (sym leads_is) (each_push IsNew old leads room lead all one))

-- ---- the passes that are split off first ones

pub new_of : {K : Type 0} (rooms : List (Room K)) (leads : List PassState) → AtEach IsNew rooms leads → AtEach IsOf rooms leads
new_of rooms leads new = record {
  as_long = new.as_long;
  each = λ place room lead in_rooms in_leads. ap (λ (p : PassState). p.session) (new.each place room lead in_rooms in_leads).begins;
}

-- a first pass has all numbers but its own
first_enough : {K : Type 0} (count : ℕ) (room : Room K) (lead : PassState) → count ≤ 4294967295 → IsNew room lead → count ≤ count_of lead.spare
first_enough count room lead few new = subst (λ (p : PassState). count ≤ count_of p.spare) (sym new.begins) few

pub new_enough : {K : Type 0} (count : ℕ) (rooms : List (Room K)) (leads : List PassState) → count ≤ 4294967295 → AtEach IsNew rooms leads → All (λ lead. count ≤ count_of lead.spare) leads
new_enough count rooms leads few new =
    at_all (λ (lead : PassState). count ≤ count_of lead.spare) leads
    (λ place lead in_leads.
    let within = slice_get_within leads place lead in_leads in
    let room = element_at rooms place (let long = new.as_long in omega (arith, long, within)) in
    first_enough count room.0 lead few (new.each place room.0 lead room.1 in_leads))

pub begun_by : {K : Type 0} (count : ℕ) (rooms : List (Room K)) (leads now : List PassState) → AtEach IsNew rooms leads → AtEach (HasGiven count) leads now → AtEach (IsBegun count) rooms now
begun_by count rooms leads now new given = record {
  as_long = new.as_long ∙ given.as_long;
  each = λ place room last in_rooms in_now.
      let within = slice_get_within rooms place room in_rooms in
      let lead = element_at leads place (let long = new.as_long in omega (arith, long, within)) in
      record { given = subst (λ (p : PassState). HasGiven count p last) (new.each place room lead.0 in_rooms lead.1).begins (given.each place lead.0 last lead.1 in_now) };
}

-- a row that was fresh for passes is so for what they are after they have given numbers
row_still : (count : ℕ) (leads now row : List PassState) → AtEach (HasGiven count) leads now → AtEach IsFresh leads row → AtEach IsFresh now row
row_still count leads now row given fresh = record {
  as_long = sym given.as_long ∙ fresh.as_long;
  each = λ place last pass in_now in_row.
      let within = slice_get_within now place last in_now in
      let lead = element_at leads place (let long = given.as_long in omega (arith, long, within)) in
      subst (λ (p : PassState). IsFresh p pass) (sym (given.each place lead.0 last lead.1 in_now).kept) (fresh.each place lead.0 pass lead.1 in_row);
}

-- the same of all that such a row has
whole_row_still : {K : Type 0} (count : ℕ) (lead now row : Row K) → HasGivenRow count lead now → IsFreshRow lead row → IsFreshRow now row
whole_row_still count lead now row given fresh = record {
  seats = row_still count lead.seats.items now.seats.items row.seats.items given.seats fresh.seats;
  claim = record {
    claims = fresh.claim.claims ∙ sym (ap (λ (p : claims.PassState). p.claims) given.claim.kept);
    parts = fresh.claim.parts;
    made = fresh.claim.made;
  };
}

pub rows_still : {K : Type 0} (count : ℕ) (lead now : Row K) (rows : List (Row K)) → HasGivenRow count lead now → All (IsFreshRow lead) rows → All (IsFreshRow now) rows
rows_still {K} count lead now rows given fresh =
    at_all (IsFreshRow now) rows (λ place row in_rows. whole_row_still count lead now row given (all_at (IsFreshRow lead) rows place row fresh in_rows))

-- the first pass of claims, but for the parts that were split off
pub begun_claim : (count : ℕ) (whole : ClaimsState) (first now : claims.PassState) → first ≡ claims.first_pass whole → HasGivenClaims count first now → IsBegunClaim count whole now
begun_claim count whole first now is given = record {
  claims = ap (λ (p : claims.PassState). p.claims) given.kept ∙ ap (λ (p : claims.PassState). p.claims) is;
  parts = given.parts ∙ ap (λ (p : claims.PassState). p.parts) is;
  made = ap (λ (p : claims.PassState). p.made) given.kept ∙ ap (λ (p : claims.PassState). p.made) is;
}
