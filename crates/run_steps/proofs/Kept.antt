-- Names that keep what they hold.
use Rattle.std.proofs.Common.{◌≡◌, ◌≢◌, ℕ, Bool, true, false, List, refl, sym, subst}
use Rattle.std.specs.Str.{bytes_eq}
use Rattle.std.proofs.lemmas.Slice.Eq.{bytes_eq-Decides}
use Rattle.tea_io.specs.Files.{Content}
use Rattle.run_steps.specs.Outside.{AreKept}

kept_by : (name other : List ℕ) (old new : List ℕ → Content) (same : Bool) → bytes_eq other name ≡ same → ((one : List ℕ) → one ≢ name → new one ≡ old one) → new name ≡ old name → new other ≡ old other
kept_by name other old new true is others kept =
    let named : other ≡ name = (bytes_eq-Decides other name).0 is in subst (λ (n : List ℕ). new n ≡ old n) (sym named) kept
kept_by name other old new false is others kept = others other (λ named. let yes = (bytes_eq-Decides other name).1 named in absurd cc)

-- this name and all others
pub all_kept : (name : List ℕ) (old new : List ℕ → Content) → ((other : List ℕ) → other ≢ name → new other ≡ old other) → new name ≡ old name → AreKept old new
all_kept name old new others kept other = kept_by name other old new (bytes_eq other name) refl others kept
