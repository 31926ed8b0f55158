-- Which session a first frame goes to, whichever ids there are in the end.
use Rattle.std.proofs.Common.{◌≡◌, ◌⊎◌, inl, inr, ℕ, zero, suc, ◌<◌, Bool, true, false, All, List, [], ◌∷◌, ◌++◌, length, get_or, Option, Some, None, refl, sym, ap, ◌∙◌, subst, append-nil, arith}
use Rattle.std.specs.Prelude.{position, unwrap_or}
use Rattle.std.specs.List.{slice_get}
use Rattle.std.proofs.lemmas.List.Quantifiers.{position-Some}
use Rattle.std.proofs.lemmas.Option.{same_Some, slice_get-get_or}
use Rattle.std.proofs.lemmas.Slice.Eq.{bytes_eq-Decides}
use Rattle.tea_base.specs.declared.entry.SessionId.{SessionId}
use Rattle.id_claims.specs.Ids.{Begins, HasPlace, is_id, most_ids}
use Rattle.id_claims.specs.Passes.{Claimed, PassState}
use Rattle.id_claims.proofs.Places.{answer_stays}
use Rattle.host_server.specs.Claiming.{Adds, ClaimsFor, InTheEnd, IsTarget, MayBeAll}
use Rattle.host_server.specs.Routing.{IsJoinOf, goes_to, named_in, place_of}
use Rattle.host_server.specs.Rows.{rooms_for}
use Rattle.host_server.proofs.Naming.{named_is}

-- ---- ids at places

same_id : (a b : SessionId) → a.0 ≡ b.0 → a ≡ b
same_id a b is = ap (λ (bytes : List ℕ). record { 0 = bytes }) is

append_get : (xs ys : List SessionId) (place : ℕ) (id : SessionId) → slice_get xs place ≡ Some id → slice_get (xs ++ ys) place ≡ Some id
append_get [] ys place id is = absurd (cc (is))
append_get (x ∷ xs) ys zero id is = is
append_get (x ∷ xs) ys (suc place) id is = append_get xs ys place id is

-- a list has the ids of one that begins it
pub begins_get : (first ids : List SessionId) (place : ℕ) (id : SessionId) → Begins first ids → slice_get first place ≡ Some id → slice_get ids place ≡ Some id
begins_get first ids place id (rest, are) is = subst (λ (l : List SessionId). slice_get l place ≡ Some id) are (append_get first rest place id is)

-- an id is at its place
place_has : (ids : List SessionId) (id : SessionId) (place : ℕ) → position (is_id id) ids ≡ Some place → slice_get ids place ≡ Some id
place_has ids id place is =
    let found = position-Some (is_id id) ids place id is in
    slice_get-get_or ids place id found.0 ∙ ap Some (same_id (get_or ids place id) id ((bytes_eq-Decides (get_or ids place id).0 id.0).0 found.1))

-- ---- a pass that claims nothing

pub adds_none : (holds : SessionId → Type 0) (made : List SessionId) → Adds holds made made
adds_none holds made = record { more = []; are = append-nil made; each = λ k d none. absurd (omega (arith, none)) }

pub adds_map : (P Q : SessionId → Type 0) (before after : List SessionId) → ((id : SessionId) → P id → Q id) → Adds P before after → Adds Q before after
adds_map P Q before after to adds = record { more = adds.more; are = adds.are; each = λ k d below. to (get_or adds.more k d) (adds.each k d below) }

pub claims_none : (on_demand : Bool) (first : List ℕ) (pass : PassState) → ClaimsFor on_demand first pass pass
claims_none on_demand first pass = record { claims = refl; parts = refl; made = adds_none (IsJoinOf first) pass.made; none = λ is. refl; grows = ([], append-nil pass.seen) }

-- ---- a pass that claims an id

one_each : (holds : SessionId → Type 0) (id : SessionId) → holds id → All holds (id ∷ [])
one_each holds id is zero d below = is
one_each holds id is (suc k) d below = absurd (omega (arith, below))

pub claims_one : (first : List ℕ) (id : SessionId) (place : Option ℕ) (before after : PassState) → IsJoinOf first id → Claimed before after id place → ClaimsFor true first before after
claims_one first id place before after named claimed = record {
  claims = ap (λ (p : PassState). p.claims) claimed.same;
  parts = ap (λ (p : PassState). p.parts) claimed.same;
  made = made_by claimed.made;
  none = λ is. absurd (cc (is));
  grows = claimed.grows;
}
  where
    made_by : (after.made ≡ before.made) ⊎ (after.made ≡ before.made ++ id ∷ []) → Adds (IsJoinOf first) before.made after.made
    made_by (inl same) = subst (Adds (IsJoinOf first) before.made) (sym same) (adds_none (IsJoinOf first) before.made)
    made_by (inr more) = record { more = id ∷ []; are = sym more; each = one_each (IsJoinOf first) id named }

-- ---- where a first frame goes

module _ (listed seen ids : List SessionId) (first : List ℕ) (id : SessionId) (all : MayBeAll true listed seen ids) (named : IsJoinOf first id) where
  goes_on : (place : Option ℕ) → HasPlace seen id place → goes_to ids first ≡ unwrap_or place 0
  goes_on place has = ap (place_of ids) named ∙ ap (λ o. unwrap_or o 0) (sym (answer_stays seen ids id place has all.grows all.few).found)

  met_on : (place : Option ℕ) → HasPlace seen id place → (other : SessionId) → IsJoinOf first other → position (is_id other) ids ≡ None → length ids ≡ most_ids
  met_on place has other is none =
      let stays = answer_stays seen ids id place has all.grows all.few in
      let same : id ≡ other = same_Some id other (sym named ∙ is) in
      stays.full (stays.found ∙ (ap (λ (i : SessionId). position (is_id i) ids) same ∙ none))

  pub target_claimed : (place : ℕ) → HasPlace seen id (Some place) → IsTarget true ids first place id
  target_claimed place has = record {
    goes = goes_on (Some place) has;
    has = place_has ids id place (sym (answer_stays seen ids id (Some place) has all.grows all.few).found);
    met = λ demand. met_on (Some place) has;
  }

  pub target_full : (place : ℕ) (front : SessionId) → (place ≡ 0) × (slice_get listed 0 ≡ Some front) → HasPlace seen id None → IsTarget true ids first place front
  target_full place front (zeroth, is) has = record {
    goes = goes_on None has ∙ sym zeroth;
    has = ap (slice_get ids) zeroth ∙ begins_get listed ids 0 front all.begins is;
    met = λ demand. met_on None has;
  }

pub target_unnamed : (listed seen ids : List SessionId) (first : List ℕ) (place : ℕ) (front : SessionId) → MayBeAll true listed seen ids → named_in first ≡ None → (place ≡ 0) × (slice_get listed 0 ≡ Some front)
    → IsTarget true ids first place front
target_unnamed listed seen ids first place front all none (zeroth, is) = record {
  goes = ap (place_of ids) (named_is first ∙ none) ∙ sym zeroth;
  has = ap (slice_get ids) zeroth ∙ begins_get listed ids 0 front all.begins is;
  met = λ demand other named. let some : None ≡ Some other = sym (named_is first ∙ none) ∙ named in absurd (cc (some));
}

-- ---- where none is made on demand, and where some are

pub target_still : (on_demand : Bool) (listed seen : List SessionId) (first : List ℕ) (place : ℕ) (id : SessionId) → on_demand ≡ false → IsTarget false listed first place id
    → InTheEnd on_demand listed seen (λ ids. IsTarget on_demand ids first place id)
target_still on_demand listed seen first place id none target ids all =
    subst (λ (l : List SessionId). IsTarget on_demand l first place id) (sym (all.still none))
    (subst (λ (b : Bool). IsTarget b listed first place id) (sym none) target)

pub target_made : (on_demand : Bool) (listed seen : List SessionId) (first : List ℕ) (place : ℕ) (id : SessionId) → on_demand ≡ true → InTheEnd true listed seen (λ ids. IsTarget true ids first place id)
    → InTheEnd on_demand listed seen (λ ids. IsTarget on_demand ids first place id)
target_made on_demand listed seen first place id some target =
    subst (λ (b : Bool). InTheEnd b listed seen (λ ids. IsTarget b ids first place id)) (sym some) target

pub claims_made : (on_demand : Bool) (first : List ℕ) (before after : PassState) → on_demand ≡ true → ClaimsFor true first before after → ClaimsFor on_demand first before after
claims_made on_demand first before after some claims = subst (λ (b : Bool). ClaimsFor b first before after) (sym some) claims

pub within_by : (on_demand other : Bool) (listed : List SessionId) (place : ℕ) → on_demand ≡ other → place < rooms_for other listed → place < rooms_for on_demand listed
within_by on_demand other listed place is within = subst (λ (b : Bool). place < rooms_for b listed) (sym is) within

-- a place that was claimed is one of those that there may be
pub within_most : (seen : List SessionId) (id : SessionId) (place : ℕ) → HasPlace seen id (Some place) → place < most_ids
within_most seen id place has =
    let within = (position-Some (is_id id) seen place id (sym has.found)).0 in
    let few = has.few in
    omega (arith, within, few)
