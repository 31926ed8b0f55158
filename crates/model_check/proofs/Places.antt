-- Where a name stands among names, and which builtin it names.
use Rattle.std.proofs.Common.{◌≡◌, ℕ, ◌+◌, Bool, true, false, cond, List, [], ◌∷◌, Option, Some, None, refl, sym, ap, ◌∙◌}
use Rattle.std.specs.Prelude.{◌||◌, bytes_eq, is_some, unwrap_or}
use Rattle.std.specs.List.{position_from}
use Rattle.std.proofs.lemmas.Option.{none-some}
use Rattle.model_tree.specs.Tree.{Name}
use Rattle.model_solved.specs.declared.builtin.Builtin.{Builtin}
use Rattle.model_solved.specs.declared.builtin.Builtin.TheVariants.{Now}
use Rattle.model_solved.specs.declared.fault.CheckFault.{CheckFault}
use Rattle.model_solved.specs.declared.fault.CheckFault.TheVariants.{NoName}
use Rattle.model_solved.specs.Builtins.{builtin_named}
use Rattle.model_solved.specs.Faults.{is_among, missing_from, faults_of_count, faults_of_builtin, first_of}
use Rattle.model_check.specs.Solving.{place_of, builtin_of}
use Rattle.model_solved.specs.Resolution.{IsPlace}

among_front : (is_here among : Bool) (n : ℕ) (place : Option ℕ) → among ≡ is_some place → (is_here || among) ≡ is_some (cond is_here (Some n) place)
among_front true among n place e = refl
among_front false among n place e = e

pub is_among-position : (x : Name) (n : ℕ) (ys : List Name) → is_among x ys ≡ is_some (position_from (bytes_eq x) n ys)
is_among-position x n [] = refl
is_among-position x n (y ∷ ys) = among_front (bytes_eq x y) (is_among x ys) n (position_from (bytes_eq x) (n + 1) ys) (is_among-position x (n + 1) ys)

fault_at : (names : List Name) (x : Name) (fault : CheckFault) (found : Option ℕ) → found ≡ position_from (bytes_eq x) 0 names → first_of (missing_from names x fault) ≡ first_of (cond (is_some found) [] (fault ∷ []))
fault_at names x fault found e =
    let among : is_among x names ≡ is_some found = cc (is_among-position x 0 names) in
    rw among refl

pub place_found : (names : List Name) (x : Name) (fault : CheckFault) (place : ℕ) → Some place ≡ position_from (bytes_eq x) 0 names → (first_of (missing_from names x fault) ≡ None) × (place ≡ place_of names x)
place_found names x fault place e = (fault_at names x fault (Some place) e, ap (λ (found : Option ℕ). unwrap_or found 0) e)

pub place_missing : (names : List Name) (x : Name) (fault : CheckFault) → None ≡ position_from (bytes_eq x) 0 names → first_of (missing_from names x fault) ≡ Some fault
place_missing names x fault e = fault_at names x fault None e

-- the fault tells a copy of the name
pub place_missing_told : (names : List Name) (x y : Name) (fault : Name → CheckFault) → None ≡ position_from (bytes_eq x) 0 names → y ≡ x → first_of (missing_from names x (fault x)) ≡ Some (fault y)
place_missing_told names x y fault e told = place_missing names x (fault x) e ∙ ap (λ (x : Name). Some (fault x)) (sym told)

placed_at : (names : List Name) (x : Name) (fault : CheckFault) (found : Option ℕ) → position_from (bytes_eq x) 0 names ≡ found → first_of (cond (is_some found) [] (fault ∷ [])) ≡ None → position_from (bytes_eq x) 0 names ≡ Some (unwrap_or found 0)
placed_at names x fault None e h = absurd (none-some fault (sym h))
placed_at names x fault (Some k) e h = e

pub placed : (names : List Name) (x : Name) (fault : CheckFault) → first_of (missing_from names x fault) ≡ None → IsPlace names x (place_of names x)
placed names x fault h = placed_at names x fault (position_from (bytes_eq x) 0 names) refl (sym (fault_at names x fault (position_from (bytes_eq x) 0 names) refl) ∙ h)

-- ---- builtins

counted_found : (found : Option Builtin) (x : Name) (given : ℕ) → first_of (faults_of_count found x given) ≡ None → found ≡ Some (unwrap_or found Now)
counted_found None x given h = absurd (none-some (NoName x) (sym h))
counted_found (Some b) x given h = refl

pub builtin_placed : (x : Name) (given : ℕ) → first_of (faults_of_builtin x given) ≡ None → builtin_named x ≡ Some (builtin_of x)
builtin_placed x given h = counted_found (builtin_named x) x given h
