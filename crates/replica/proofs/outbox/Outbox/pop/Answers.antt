use Rattle.std.proofs.Common.{◌≡◌, ℕ, ◌-◌, List, ◌∷◌, length, subst, sym, ap}
use Rattle.replica.specs.Outbox.{HoldsOutbox}
use Rattle.replica.proofs.Outboxes.{holds_rest}
use Rattle.replica.proofs.outbox.Outbox.pop.Goals as goal

pub invariant_of-self : goal.invariant_of-self
invariant_of-self c =
    let rest = c.pop_front.new.self.items in
    let bytes = c.self.inside.bytes in
    let holds : HoldsOutbox (c.in-Some.payload ∷ rest) bytes = subst (λ (all : List (List ℕ)). HoldsOutbox all bytes) c.in-Some.ensures.items c.self.invariant in
    subst (λ (payload : List ℕ). HoldsOutbox rest (bytes - length payload)) (sym c.bytes.ensures) (holds_rest c.in-Some.payload rest bytes holds)
