-- Values that take no memory, as plain values.
use Rattle.std.proofs.Common.{◌≡◌, ℕ, rules}
use Rattle.model_value.specs.Plain.{nil, ref}
use Rattle.model_value.specs.View.{plain}
use Rattle.model_value.specs.declared.value.Value.{the_lemmas}
use Rattle.model_value.specs.declared.value.Value.TheVariants.{Nil, Ref}

pub plain-Ref : (id : ℕ) → plain (Ref id) ≡ ref id
plain-Ref id = search (rules, the_lemmas)

pub plain-Nil : plain Nil ≡ nil
plain-Nil = search (rules, the_lemmas)
