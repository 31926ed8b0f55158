-- Steps behind steps.
use Rattle.std.proofs.Common.{inl, inr, List, [], ◌∷◌, ◌++◌, Option, None, subst}
use Rattle.std.proofs.lemmas.Option.{none-some}
use Rattle.run_steps.specs.Steps.{Step}
use Rattle.run_steps.specs.Outside.{Outside, OutsideTells, Cut, Acts}

-- steps that were all done, and then those
pub acts_behind : {F W N L : Type 0} (tells : OutsideTells F W N L) (front back : List Step) (cut : Option Cut) (old mid new : Outside F W N L) → Acts tells front None old mid → Acts tells back cut mid new → Acts tells (front ++ back) cut old new
acts_behind tells [] back cut old mid new kept rest = subst (λ o. Acts tells back cut o new) kept rest
acts_behind tells (step ∷ front) back cut old mid new (inl (next, acts, more)) rest = inl (next, acts, acts_behind tells front back cut next mid new more rest)
acts_behind tells (step ∷ front) back cut old mid new (inr (inl (acts, is))) rest = absurd (none-some _ is)
acts_behind tells (step ∷ front) back cut old mid new (inr (inr (acts, is))) rest = absurd (none-some _ is)
