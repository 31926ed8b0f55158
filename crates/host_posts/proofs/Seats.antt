-- The passes of a row, of which one is used.
use Rattle.std.proofs.Common.{◌≡◌, ◌≢◌, ◌⊎◌, inl, inr, ℕ, ◌+◌, ◌<◌, List, get_or, length, set, Option, Some, refl, sym, ap, ◌∙◌, subst, arith}
use Rattle.std.specs.List.{slice_get}
use Rattle.std.proofs.lemmas.Bool.{cases_eq}
use Rattle.std.proofs.lemmas.List.{length-set}
use Rattle.std.proofs.lemmas.Option.{same_Some, slice_get_read, slice_get_within}
use Rattle.tea_base.specs.declared.entry.SessionId.{SessionId}
use Rattle.tea_io.specs.declared.link.Heard.{Heard}
use Rattle.session_lock.specs.Numbers.{count_of}
use Rattle.session_lock.specs.Passes.{PassState}
use Rattle.session_lock.proofs.Ranges.{count_append}
use Rattle.connection.specs.declared.ending.Ended.{Ended}
use Rattle.connection.specs.Talk.{LinkAccount}
use Rattle.host_server.specs.Rows.{AtEach, IsOf, IsOfPlace}
use Rattle.host_server.specs.declared.rooms.Room.{Room}
use Rattle.host_server.proofs.Places.{same_element, set_here, set_there}
use Rattle.host_posts.specs.Passes.{ServesBy, UsesOneAtMost}

-- what is read at a place of a row
pub seat_there : (row : List PassState) (place : ℕ) (pass : PassState) → place < length row → pass ≡ get_or row place pass → slice_get row place ≡ Some pass
seat_there row place pass within is = slice_get_read row (length row) place pass refl within is

pub of_there : {K : Type 0} (rooms : List (Room K)) (row : List PassState) (place : ℕ) (pass : PassState) → AtEach IsOf rooms row → place < length rooms → pass ≡ get_or row place pass → IsOfPlace rooms place pass
of_there rooms row place pass of within is room in_rooms =
    of.each place room pass in_rooms (seat_there row place pass (let long = of.as_long in omega (arith, within, long)) is)

-- ---- a row whose pass at one place has another state

pub set_of : {K : Type 0} (rooms : List (Room K)) (row : List PassState) (place : ℕ) (old now : PassState) → AtEach IsOf rooms row → slice_get row place ≡ Some old → now.session ≡ old.session → AtEach IsOf rooms (set row place now)
set_of rooms row place old now of in_row same = record {
  as_long = of.as_long ∙ sym (length-set row place now);
  each = λ at room pass in_rooms in_set. by at room pass in_rooms in_set (cases_eq at place);
}
  where
    by : (at : ℕ) (room : Room _) (pass : PassState) → slice_get rooms at ≡ Some room → slice_get (set row place now) at ≡ Some pass → (at ≡ place) ⊎ (at ≢ place) → IsOf room pass
    by at room pass in_rooms in_set (inl is) =
        let pass_is : now ≡ pass = same_Some now pass (sym (set_here row place now (slice_get_within row place old in_row)) ∙ (ap (slice_get (set row place now)) (sym is) ∙ in_set)) in
        ap (λ (p : PassState). p.session) (sym pass_is) ∙ (same ∙ of.each at room old in_rooms (ap (slice_get row) is ∙ in_row))
    by at room pass in_rooms in_set (inr other) = of.each at room pass in_rooms (sym (set_there row place at now other) ∙ in_set)

pub uses_same : (row : List PassState) → AtEach UsesOneAtMost row row
uses_same row = record {
  as_long = refl;
  each = λ place old pass in_row in_same. let same : count_of old.spare ≡ count_of pass.spare = ap (λ (p : PassState). count_of p.spare) (same_element row place old pass in_row in_same) in omega (arith, same);
}

pub uses_set : (row : List PassState) (place : ℕ) (old now : PassState) → slice_get row place ≡ Some old → UsesOneAtMost old now → AtEach UsesOneAtMost row (set row place now)
uses_set row place old now in_row uses = record {
  as_long = sym (length-set row place now);
  each = λ at first pass in_first in_set. by at first pass in_first in_set (cases_eq at place);
}
  where
    by : (at : ℕ) (first pass : PassState) → slice_get row at ≡ Some first → slice_get (set row place now) at ≡ Some pass → (at ≡ place) ⊎ (at ≢ place) → UsesOneAtMost first pass
    by at first pass in_first in_set (inl is) =
        let first_is : old ≡ first = same_Some old first (sym in_row ∙ (ap (slice_get row) (sym is) ∙ in_first)) in
        let pass_is : now ≡ pass = same_Some now pass (sym (set_here row place now (slice_get_within row place old in_row)) ∙ (ap (slice_get (set row place now)) (sym is) ∙ in_set)) in
        subst (λ (p : PassState). UsesOneAtMost p pass) first_is (subst (UsesOneAtMost old) pass_is uses)
    by at first pass in_first in_set (inr other) =
        let same : count_of first.spare ≡ count_of pass.spare = ap (λ (p : PassState). count_of p.spare) (same_Some first pass (sym in_first ∙ (sym (set_there row place at now other) ∙ in_set))) in
        omega (arith, same)

-- ---- a link that was served by a new caller

module _ (gives : ℕ → Type 0) (id : SessionId) (before after : PassState) (told : Option (List Heard)) (first : List ℕ) (old new : LinkAccount) (how : Ended)
    (serves : ServesBy gives id before after told first old new how) where
  pub by_session : after.session ≡ before.session
  by_session = ap (λ (p : PassState). p.session) serves.takes.merged.same ∙ ap (λ (p : PassState). p.session) serves.split.kept

  pub by_uses : UsesOneAtMost before after
  by_uses =
      let all : count_of after.spare ≡ count_of serves.left.spare + count_of serves.pass.spare =
      ap (λ (p : PassState). count_of p.spare) serves.takes.merged.same ∙ count_append serves.left.spare serves.pass.spare in
      let less = serves.split.spare in
      omega (arith, all, less)
