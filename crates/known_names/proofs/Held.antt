-- Names and their weight, with one more and with fewer.
use Rattle.std.proofs.Common.{◌≡◌, ◌≤◌, ℕ, Bool, List, [], ◌∷◌, length, refl, sym, ap, ◌∙◌, subst, arith}
use Rattle.std.specs.List.{filter}
use Rattle.std.proofs.lemmas.List.Sums.{count_by-le-length, length-filter}
use Rattle.world_plain.specs.World.{known_weight, total_weight, most_world_weight}
use Rattle.world_plain.specs.declared.world.Known.{Known}
use Rattle.known_names.specs.Names.{AreNames, IsWeighedNames, with_known}
use Rattle.known_names.proofs.KnownOrder.{if_either, KnownRise-with_known, KnownRise-filtered}
use Rattle.known_names.proofs.KnownWeights.{total-filtered}

pub with_one : (x : List ℕ) (object : ℕ) (ks new : List Known) (was held : ℕ) → IsWeighedNames was ks → total_weight known_weight (with_known x object ks) ≤ most_world_weight
    → new ≡ with_known x object ks → held ≡ total_weight known_weight (with_known x object ks) → IsWeighedNames held new
with_one x object ks new was held h light is weighs =
    let names : AreNames (with_known x object ks) = record { rise = KnownRise-with_known x object ks h.names.rise; light = light } in
    record { names = subst AreNames (sym is) names; weight = weighs ∙ ap (total_weight known_weight) (sym is) }

pub filtered : (keeps : Known → Bool) (ks new : List Known) → new ≡ filter keeps ks → AreNames ks → AreNames new
filtered keeps ks new is h =
    let names : AreNames (filter keeps ks) = record { rise = KnownRise-filtered keeps ks h.rise; light = omega (arith, total-filtered keeps ks, h.light) } in
    subst AreNames (sym is) names

all_kept : (keeps : Known → Bool) (ks : List Known) → length (filter keeps ks) ≡ length ks → filter keeps ks ≡ ks
all_kept keeps [] as_many = refl
all_kept keeps (k ∷ ks) as_many =
    if_either (λ l. length l ≡ length (k ∷ ks) → l ≡ k ∷ ks) (keeps k) (k ∷ filter keeps ks) (filter keeps ks) (λ _ e. ap (λ l. k ∷ l) (all_kept keeps ks (omega (arith, e))))
    (λ _ e. absurd (omega (arith, e, length-filter keeps ks, count_by-le-length keeps ks))) as_many

-- where as many are left, none is gone
pub none_gone : (keeps : Known → Bool) (ks new : List Known) → new ≡ filter keeps ks → length new ≡ length ks → new ≡ ks
none_gone keeps ks new is as_many = is ∙ all_kept keeps ks (ap length (sym is) ∙ as_many)
