-- Where faults that follow each other are none, neither part has one.
use Rattle.std.proofs.Common.{◌≡◌, List, [], ◌∷◌, ◌++◌, None, refl, sym}
use Rattle.std.proofs.lemmas.Option.{none-some}
use Rattle.model_solved.specs.declared.fault.CheckFault.{CheckFault}
use Rattle.model_solved.specs.Faults.{first_of}

pub none-left : (a b : List CheckFault) → first_of (a ++ b) ≡ None → first_of a ≡ None
none-left [] b e = refl
none-left (f ∷ a) b e = e

pub none-right : (a b : List CheckFault) → first_of (a ++ b) ≡ None → first_of b ≡ None
none-right [] b e = e
none-right (f ∷ a) b e = absurd (none-some f (sym e))
