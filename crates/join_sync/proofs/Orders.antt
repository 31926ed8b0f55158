-- Entries in the order of their seqs.
use Rattle.std.proofs.Common.{ℕ, ◌+◌, ◌-◌, ◌≡◌, List, [], ◌∷◌, Some, length, slice_get, zero, suc, subst, arith}
use Rattle.tea_base.specs.declared.entry.Entry.{Entry}
use Rattle.join_sync.specs.Batches.{ComeAfter}

-- an entry has the seq of its place
seq_of_place : (after : ℕ) (entries : List Entry) (k : ℕ) (entry : Entry) → ComeAfter after entries → slice_get entries k ≡ Some entry → entry.seq ≡ after + k + 1
seq_of_place after [] k entry come at = absurd cc
seq_of_place after (first ∷ rest) zero entry come at =
    let same : first ≡ entry = cc in
    subst (λ (e : Entry). e.seq ≡ after + 0 + 1) same (omega (arith, come.0))
seq_of_place after (first ∷ rest) (suc k) entry come at = omega (arith, seq_of_place (after + 1) rest k entry come.1 at)

-- the last entry has the seq behind which the entries come, and one more for each entry
pub seq_of_last : (after : ℕ) (entries : List Entry) (entry : Entry) → ComeAfter after entries → slice_get entries (length entries - 1) ≡ Some entry → entry.seq ≡ after + length entries
seq_of_last after [] entry come at = absurd cc
seq_of_last after (first ∷ rest) entry come at = omega (arith, seq_of_place after (first ∷ rest) (length (first ∷ rest) - 1) entry come at)
