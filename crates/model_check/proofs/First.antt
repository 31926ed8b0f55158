-- The first of faults that follow each other.
use Rattle.std.proofs.Common.{◌≡◌, List, [], ◌∷◌, ◌++◌, Option, Some, None, refl, sym, ap, ◌∙◌, subst}
use Rattle.std.specs.Prelude.{Result, Err}
use Rattle.model_solved.specs.declared.fault.CheckFault.{CheckFault}
use Rattle.model_check.specs.Answer.{Solves, IsFirstFault}
use Rattle.model_solved.specs.Faults.{first_of}

abbrev pub else_first : Option CheckFault → Option CheckFault → Option CheckFault
else_first None other = other
else_first (Some f) other = Some f

pub first_of-append : (a b : List CheckFault) → first_of (a ++ b) ≡ else_first (first_of a) (first_of b)
first_of-append [] b = refl
first_of-append (f ∷ a) b = refl

pub first_of-three : (a b c : List CheckFault) → first_of (a ++ b ++ c) ≡ else_first (else_first (first_of a) (first_of b)) (first_of c)
first_of-three [] [] c = refl
first_of-three [] (f ∷ b) c = refl
first_of-three (f ∷ a) b c = refl

pub first_behind : (a b : List CheckFault) → first_of a ≡ None → first_of (a ++ b) ≡ first_of b
first_behind a b none = first_of-append a b ∙ ap (λ (f : Option CheckFault). else_first f (first_of b)) none

pub first_before : (f : CheckFault) (a b : List CheckFault) → first_of a ≡ Some f → first_of (a ++ b) ≡ Some f
first_before f a b is = first_of-append a b ∙ ap (λ (f : Option CheckFault). else_first f (first_of b)) is

pub refuses_before : (f : CheckFault) (a b : List CheckFault) → IsFirstFault f a → IsFirstFault f (a ++ b)
refuses_before f a b h = λ other. first_before f a b (h other)

pub refuses_behind : (f : CheckFault) (a b : List CheckFault) → first_of a ≡ None → IsFirstFault f b → IsFirstFault f (a ++ b)
refuses_behind f a b none h = λ other. first_behind a b none ∙ h other

-- a call that is refused
pub refused_is : {B : Type 0} (r : Result B CheckFault) (f : CheckFault) (a : List CheckFault) (q : B → Type 0) → r ≡ Err f → IsFirstFault f a → Solves r a q
refused_is {B} r f a q e h = subst (λ (s : Result B CheckFault). Solves s a q) (sym e) h

-- before what is not looked at
pub refused_before : {B : Type 0} (r : Result B CheckFault) (f : CheckFault) (a b : List CheckFault) (q : B → Type 0) → r ≡ Err f → IsFirstFault f a → Solves r (a ++ b) q
refused_before {B} r f a b q e h = refused_is r f (a ++ b) q e (refuses_before f a b h)

-- behind what has no fault
pub refused_behind : {B : Type 0} (r : Result B CheckFault) (f : CheckFault) (a b : List CheckFault) (q : B → Type 0) → r ≡ Err f → first_of a ≡ None → IsFirstFault f b → Solves r (a ++ b) q
refused_behind {B} r f a b q e none h = refused_is r f (a ++ b) q e (refuses_behind f a b none h)

pub ruleset by_first = (first_of-append, first_of-three)
