-- How an opening ends, and what it founds.
use Rattle.std.proofs.Common.{arith, ◌≡◌, ◌∙◌, ◌<◌, ℕ, zero, suc, List, ◌++◌, refl, sym, ap, subst}
use Rattle.std.specs.Prelude.{Result, Err, IfErr}
use Rattle.std.specs.Str.{chars}
use Rattle.byte_fields.specs.Fields.{text_field}
use Rattle.sha2.specs.Sha256.{sha256}
use Rattle.model_value.specs.Plain.{PlainValue, nil}
use Rattle.model_solved.specs.Founding.{CheckedView, checked_tree, founding_of}
use Rattle.snapshot_codec.specs.Spelling.{persisted_bytes}
use Rattle.command_outcome.specs.ProgramEnd.{IsFaultless}
use Rattle.live_view.specs.Script.{first_state}
use Rattle.croquet_page.specs.declared.opening.OpenFault.{OpenFault}
use Rattle.croquet_page.specs.declared.page.Page.{Page}
use Rattle.croquet_page.specs.Opening.{IsFoundedFrom, Opens, Refuses, session_of}

pub not_zero : (view : ℕ) → (view ≡ 0 → ⊥) → 0 < view
not_zero zero never = absurd (never refl)
not_zero (suc n) never = omega arith

pub opens_not : (program name : List ℕ) (view : ℕ) (opening : Result Page OpenFault) (fault : OpenFault) → opening ≡ Err fault → Refuses program name view fault → Opens program name view opening
opens_not program name view opening fault is refuses = subst (λ (o : Result Page OpenFault). Opens program name view o) (sym is) refuses

pub refuses_program : {A : Type 0} (read : Result A OpenFault) (fault : OpenFault) (program name : List ℕ) (view : ℕ) → read ≡ Err fault → Refuses program name view fault → IfErr read (λ why. Refuses program name view why)
refuses_program {A} read fault program name view is refuses = subst (λ (r : Result A OpenFault). IfErr r (λ why. Refuses program name view why)) (sym is) refuses

pub founded_from : (program : List ℕ) (checked founded : CheckedView) → founded ≡ record checked { persisted = nil } → IsFaultless program (checked_tree checked) → IsFoundedFrom program founded
founded_from program checked founded is reads = subst (λ (c : CheckedView). IsFoundedFrom program c) (sym is) (record { reads = reads; without = refl })

-- the first state of a view of the session that is founded
pub first_founded : (program name title id : List ℕ) (view : ℕ) (founded : CheckedView) (address : List ℕ)
    → founded.persisted ≡ nil → title ≡ chars name → id ≡ sha256 (text_field title ++ program ++ persisted_bytes nil)
    → first_state (founding_of founded) id view address ≡ first_state (record { tree = checked_tree founded; persisted = nil }) (session_of program name) view address
first_founded program name title id view founded address without named drawn =
    ap (λ (v : PlainValue). first_state (record { tree = checked_tree founded; persisted = v }) id view address) without
    ∙ ap (λ (i : List ℕ). first_state (record { tree = checked_tree founded; persisted = nil }) i view address) (drawn ∙ ap (λ (t : List ℕ). sha256 (text_field t ++ program ++ persisted_bytes nil)) named)
