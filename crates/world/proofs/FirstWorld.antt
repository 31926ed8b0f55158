-- The first world is valid.
use Rattle.std.proofs.Common.{◌≡◌, ℕ, zero, suc, ◌+◌, ◌≤◌, Bool, true, false, if◌then◌else◌, List, [], ◌∷◌, length, replicate, Option, Some, None, refl, ap, ◌∙◌, subst, arith}
use Rattle.std.specs.Prelude.{slice_get, bytes_eq, is_some, encode_utf8_all}
use Rattle.std.proofs.lemmas.Bool.{le-leb}
use Rattle.std.proofs.lemmas.Option.{none-some, same_Some, slice_get-map}
use Rattle.model_value.specs.Plain.{PlainValue, nil, bool, int, text, ref, list, values_weight, most_weight, AllInBounds}
use Rattle.saved_value.specs.Saving.{CanBeSaved, saved_weight}
use Rattle.world_plain.specs.World.{object_weight, world_weight, most_world_weight}
use Rattle.world_plain.specs.Valid.{Valid}
use Rattle.model_tree.specs.Tree.{ClassTree, ProgramTree, root_name}
use Rattle.model_tree.specs.Bounds.{most_members, ClassesFit}
use Rattle.model_solved.specs.Methods.{method_named}
use Rattle.world_state.specs.Objects.{new_object, has_room_for, with_object}
use Rattle.model_eval.specs.Arguments.{takes_two}
use Rattle.model_eval.proofs.FieldBounds.{nil-in_bounds}
use Rattle.model_eval.proofs.ValueBounds.{one_or_both-in_bounds}
use Rattle.model_eval.proofs.ValidLaws.{valid-object, valid-known}
use Rattle.world.specs.Worlds.{Scene, Founding, init_arguments, empty_world, with_next_turn, with_root, root_from, field_counts, first_with, first_scene, after_method, init, model_root}
use Rattle.world.proofs.Running.{Fits, ran-keeps}

pub nils-fit : (n : ℕ) → AllInBounds (replicate n nil)
nils-fit zero = tt
nils-fit (suc n) = (nil-in_bounds, nils-fit n)

nils-weight : (n : ℕ) → values_weight (replicate n nil) ≡ n
nils-weight zero = refl
nils-weight (suc n) = omega (arith, nils-weight n)

pub name-bytes : length (encode_utf8_all model_root) ≡ 9
unfolding lib.Utf8.encode
name-bytes = refl

saved-light : (v : PlainValue) → CanBeSaved v → saved_weight v ≤ most_weight
saved-light nil fit = omega arith
saved-light (bool flag) fit = fit.0.0
saved-light (int number) fit = fit.0.0
saved-light (text characters) fit = fit.0.0
saved-light (ref object) fit = fit.0.0
saved-light (list items) fit = fit.0.0

-- a world with nothing in it but a saved value
empty-valid : (counts : List ℕ) (persisted : PlainValue) (id : List ℕ) → CanBeSaved persisted → Valid counts (with_next_turn (empty_world persisted id))
empty-valid counts persisted id fit = record {
  clock = record {
    time_fits = omega arith;
    turns_fit = omega arith;
  };
  views = record {
    rise = tt;
    few = omega arith;
  };
  objects = record {
    positive = omega arith;
    rise = tt;
    fit = tt;
    few = omega arith;
  };
  names = record {
    rise = tt;
    fit = tt;
  };
  subscriptions = record {
    differ = tt;
    fit = tt;
    few = omega arith;
  };
  messages = record {
    order = tt;
    differ = tt;
    fit = tt;
    few = omega arith;
  };
  saved = fit;
  weight = omega (arith, saved-light persisted fit);
}

-- the root is a new object, which is known by its name
pub rooted-valid : (counts : List ℕ) (number : ℕ) (class : ClassTree) (persisted : PlainValue) (id : List ℕ) → CanBeSaved persisted → slice_get counts number ≡ Some (length class.fields) → length class.fields ≤ most_members → Valid counts (with_root number class (with_next_turn (empty_world persisted id)))
rooted-valid counts number class persisted id fit at few =
    let light = saved-light persisted fit in
    let n = length class.fields in
    let w = with_next_turn (empty_world persisted id) in
    let o = new_object number n w in
    let room : has_room_for w o ≡ true = le-leb (world_weight w + object_weight o) most_world_weight (omega (arith, nils-weight n, few, light)) in
    valid-known counts model_root 1 (with_object w o) (omega (arith, name-bytes)) (o, refl) (omega (arith, nils-weight n, few, name-bytes, light))
    (valid-object counts number n w at room (empty-valid counts persisted id fit))

-- ---- the class Root

found_if : (is : Bool) (k n : ℕ) (c d : ClassTree) (cs : ProgramTree) → (root_from (k + 1) cs ≡ Some (n, d) → (j : ℕ) × (n ≡ k + 1 + j) × (slice_get cs j ≡ Some d)) → (if is then Some (k, c) else root_from (k + 1) cs) ≡ Some (n, d) → (j : ℕ) × (n ≡ k + j) × (slice_get (c ∷ cs) j ≡ Some d)
found_if true k n c d cs later h =
    let both : ◌≡◌ {A = ℕ × ClassTree} (k, c) (n, d) = same_Some (k, c) (n, d) h in
    let place : k ≡ n = ap (λ p. p.0) both in
    (0, omega (arith, place), ap (λ (p : ℕ × ClassTree). Some p.1) both)
found_if false k n c d cs later h =
    let l = later h in
    let place : n ≡ k + 1 + l.0 = l.1 in
    (suc l.0, omega (arith, place), l.2)

root_found : (k n : ℕ) (d : ClassTree) (cs : ProgramTree) → root_from k cs ≡ Some (n, d) → (j : ℕ) × (n ≡ k + j) × (slice_get cs j ≡ Some d)
root_found k n d [] h = absurd (none-some (n, d) h)
root_found k n d (c ∷ cs) h = found_if (bytes_eq c.name root_name) k n c d cs (root_found (k + 1) n d cs) h

pub few_fields : (j : ℕ) (cs : ProgramTree) (d : ClassTree) → ClassesFit cs → slice_get cs j ≡ Some d → length d.fields ≤ most_members
few_fields j [] d fit h = absurd (none-some d h)
few_fields zero (c ∷ cs) d fit h = subst (λ (k : ClassTree). length k.fields ≤ most_members) (same_Some c d h) fit.0.0
few_fields (suc j) (c ∷ cs) d fit h = few_fields j cs d fit.1 h

root-valid : (founding : Founding) (id : List ℕ) (n : ℕ) (c : ClassTree) → CanBeSaved founding.persisted → Fits (field_counts founding.tree) founding.tree → root_from 0 founding.tree ≡ Some (n, c)
    → Valid (field_counts founding.tree) (with_root n c (with_next_turn (empty_world founding.persisted id)))
root-valid founding id n c fit fits h =
    let program = founding.tree in
    let f = root_found 0 n c program h in
    let place : n ≡ 0 + f.0 = f.1 in
    let same : n ≡ f.0 = omega (arith, place) in
    let at : slice_get program n ≡ Some c = rw same f.2 in
    let counted : slice_get (field_counts program) n ≡ Some (length c.fields) = slice_get-map (λ (k : ClassTree). length k.fields) program n ∙ rw at refl in
    rooted-valid (field_counts program) n c founding.persisted id fit counted (few_fields n program c fits.classes at)

initialised_if : (has : Bool) (program : ProgramTree) (args : List PlainValue) (s : Scene) → Fits (field_counts program) program → AllInBounds args → Valid (field_counts program) s.world
    → Valid (field_counts program) (if has then after_method program 1 init args s else s).world
initialised_if true program args s fits bounds v = (ran-keeps (field_counts program) program 1 init args s fits).valid (v, bounds)
initialised_if false program args s fits bounds v = v

first_by : (founding : Founding) (id : List ℕ) (root : Option (ℕ × ClassTree)) → root_from 0 founding.tree ≡ root → CanBeSaved founding.persisted → Fits (field_counts founding.tree) founding.tree
    → Valid (field_counts founding.tree) (first_with founding root (with_next_turn (empty_world founding.persisted id))).world
first_by founding id None e fit fits = empty-valid (field_counts founding.tree) founding.persisted id fit
first_by founding id (Some r) e fit fits =
    let named = method_named init r.1.methods in
    initialised_if (is_some named) founding.tree (init_arguments founding.persisted r.1) (record { world = with_root r.0 r.1 (with_next_turn (empty_world founding.persisted id)); published = [] }) fits
    (one_or_both-in_bounds (takes_two named) nil founding.persisted nil-in_bounds fit.0) (root-valid founding id r.0 r.1 fit fits e)

pub first-valid : (founding : Founding) (id : List ℕ) → CanBeSaved founding.persisted → Fits (field_counts founding.tree) founding.tree → Valid (field_counts founding.tree) (first_scene founding id).world
first-valid founding id fit fits = first_by founding id (root_from 0 founding.tree) refl fit fits
