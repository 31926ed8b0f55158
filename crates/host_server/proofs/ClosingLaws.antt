-- Sessions that are closed, the last one first.
use Rattle.std.proofs.Common.{◌≡◌, ℕ, zero, suc, List, [], ◌∷◌, ◌++◌, length, reverse, Some, refl, sym, ap, ◌∙◌, subst, append_assoc, arith}
use Rattle.std.specs.List.{slice_get}
use Rattle.std.proofs.lemmas.List.{length_push, reverse-append}
use Rattle.std.proofs.lemmas.Option.{same_Some, slice_get_within}
use Rattle.reflector_core.specs.SessionState.{SessionState}
use Rattle.session_lock.specs.Passes.{PassState}
use Rattle.host_server.specs.Prepares.{AreClosed, IsClosedWith}
use Rattle.host_server.specs.Rows.{AtEach, IsWhole}
use Rattle.host_server.specs.declared.rooms.Room.{Room}
use Rattle.host_server.proofs.Places.{push_before, push_last}

-- the sessions after these were closed, and stand in falling order
pub record ClosedSoFar {K : Type 0} (rooms : List (Room K)) (leads all : List PassState) (sessions : List SessionState) : Type 0 where
  pub left : AtEach IsWhole rooms leads
  pub rest : List PassState
  pub front : all ≡ leads ++ rest
  pub closed : AtEach IsClosedWith rest (reverse sessions)

pub closed_none : {K : Type 0} (rooms : List (Room K)) (leads : List PassState) (sessions : List SessionState) → AtEach IsWhole rooms leads → sessions ≡ [] → ClosedSoFar rooms leads leads sessions
closed_none rooms leads sessions whole none = record {
  left = whole;
  rest = [];
  front = nothing_after leads;
  closed = subst (λ (l : List SessionState). AtEach IsClosedWith [] (reverse l)) (sym none) (record { as_long = refl; each = λ at x y a b. absurd (cc (a)) });
}
  where
    nothing_after : (xs : List PassState) → xs ≡ xs ++ []
    nothing_after [] = refl
    nothing_after (x ∷ xs) = ap (λ (l : List PassState). x ∷ l) (nothing_after xs)

pub both_more : {A B : Type 0} (P : A → B → Type 0) (x : A) (y : B) (xs : List A) (ys : List B) → P x y → AtEach P xs ys → AtEach P (x ∷ xs) (y ∷ ys)
both_more {A} {B} P x y xs ys one rest = record { as_long = ap suc rest.as_long; each = each }
  where
    each : (place : ℕ) (a : A) (b : B) → slice_get (x ∷ xs) place ≡ Some a → slice_get (y ∷ ys) place ≡ Some b → P a b
    each zero a b in_xs in_ys = subst (λ (v : A). P v b) (same_Some x a in_xs) (subst (P x) (same_Some y b in_ys) one)
    each (suc place) a b in_xs in_ys = rest.each place a b in_xs in_ys

pub last_of : {A B : Type 0} (P : A → B → Type 0) (xs : List A) (ys : List B) (x : A) (y : B) → AtEach P (xs ++ x ∷ []) (ys ++ y ∷ []) → P x y
last_of P xs ys x y all =
    let long = all.as_long in
    let one = length_push xs x in
    let other = length_push ys y in
    let same : length ys ≡ length xs = omega (arith, long, one, other) in
    all.each (length xs) x y (push_last xs x) (ap (slice_get (ys ++ y ∷ [])) (sym same) ∙ push_last ys y)

pub front_of : {A B : Type 0} (P : A → B → Type 0) (xs : List A) (ys : List B) (x : A) (y : B) → AtEach P (xs ++ x ∷ []) (ys ++ y ∷ []) → AtEach P xs ys
front_of P xs ys x y all = record {
  as_long = let long = all.as_long in let one = length_push xs x in let other = length_push ys y in omega (arith, long, one, other);
  each = λ place a b in_xs in_ys.
      all.each place a b (push_before xs x place (slice_get_within xs place a in_xs) ∙ in_xs) (push_before ys y place (slice_get_within ys place b in_ys) ∙ in_ys);
}

-- the last pass that is left has all numbers
pub last_whole : {K : Type 0} (rooms next_rooms : List (Room K)) (leads next_leads all : List PassState) (sessions : List SessionState) (room : Room K) (lead : PassState)
    → rooms ≡ next_rooms ++ room ∷ [] → leads ≡ next_leads ++ lead ∷ [] → ClosedSoFar rooms leads all sessions → IsWhole room lead
last_whole {K} rooms next_rooms leads next_leads all sessions room lead rooms_is leads_is so_far =
    last_of IsWhole next_rooms next_leads room lead (subst (λ (l : List (Room K)). AtEach IsWhole l (next_leads ++ lead ∷ [])) rooms_is (subst (AtEach IsWhole rooms) leads_is so_far.left))

-- one session more
pub closed_more : {K : Type 0} (rooms next_rooms : List (Room K)) (leads next_leads all : List PassState) (sessions more : List SessionState) (room : Room K) (lead : PassState) (session : SessionState)
    → rooms ≡ next_rooms ++ room ∷ [] → leads ≡ next_leads ++ lead ∷ [] → more ≡ sessions ++ session ∷ [] → IsClosedWith lead session → ClosedSoFar rooms leads all sessions → ClosedSoFar next_rooms next_leads all more
closed_more {K} rooms next_rooms leads next_leads all sessions more room lead session rooms_is leads_is more_is one so_far =
    let left : AtEach IsWhole (next_rooms ++ room ∷ []) (next_leads ++ lead ∷ []) =
    subst (λ (l : List (Room K)). AtEach IsWhole l (next_leads ++ lead ∷ [])) rooms_is (subst (AtEach IsWhole rooms) leads_is so_far.left) in
    record {
      left = front_of IsWhole next_rooms next_leads room lead left;
      rest = lead ∷ so_far.rest;
      front = so_far.front ∙ (ap (λ (l : List PassState). l ++ so_far.rest) leads_is ∙ append_assoc next_leads (lead ∷ []) so_far.rest);
      closed =
          subst (AtEach IsClosedWith (lead ∷ so_far.rest)) (sym (reverse-append sessions (session ∷ [])) ∙ ap reverse (sym more_is))
          (both_more IsClosedWith lead session so_far.rest (reverse sessions) one so_far.closed);
    }

pub closed_all : {K : Type 0} (rooms : List (Room K)) (leads all : List PassState) (sessions : List SessionState) → rooms ≡ [] → ClosedSoFar rooms leads all sessions → AreClosed all (reverse sessions)
closed_all {K} rooms leads all sessions none so_far =
    let empty : length leads ≡ 0 = sym so_far.left.as_long ∙ ap length none in
    subst (λ (l : List PassState). AtEach IsClosedWith l (reverse sessions)) (sym (so_far.front ∙ ap (λ (l : List PassState). l ++ so_far.rest) (nothing leads empty))) so_far.closed
  where
    nothing : (xs : List PassState) → length xs ≡ 0 → xs ≡ []
    nothing [] is = refl
    nothing (x ∷ xs) is = absurd (omega (arith, is))
