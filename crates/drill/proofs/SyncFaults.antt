-- What may be wrong with the answer to a Join.
use Rattle.std.proofs.Common.{◌≡◌, ◌<◌, ◌⊎◌, inl, inr, ℕ, Bool, true, false, cond, nat_lt, Option, Some, sym, ◌∙◌, subst, arith}
use Rattle.std.proofs.lemmas.Bool.Decides.{nat_tests}
use Rattle.std.proofs.lemmas.Option.{none-some, same_Some}
use Rattle.wire_frames.specs.declared.frame.ServerFrame.{ServerFrame}
use Rattle.wire_frames.specs.declared.frame.ServerFrame.TheVariants.{Sync, Recv, Tick, Done, Snapped, Refused, Alive}
use Rattle.replica_plain.specs.declared.how.How.{How}
use Rattle.replica_plain.specs.declared.fault.ReplicaFault.{ReplicaFault}
use Rattle.replica_plain.specs.declared.fault.ReplicaFault.TheVariants as cause
use Rattle.replica_plain.specs.PlainReplica.{PlainReplica, published_count}
use Rattle.replica_plain.specs.Taking.{Taken, begins_with, out_of_order, take_sync, taken}
use Rattle.replica.specs.View.{ReplicaView, worlds_of}
use Rattle.drill.specs.Taking.{IsFine, Miscounts}

abbrev pub IsOutOfOrder : ReplicaFault → Type 0
IsOutOfOrder (cause.OutOfOrder expected found) = Unit {0}
IsOutOfOrder other = ⊥

order_if
    : {W O : Type 0} (r : PlainReplica W O) (most least found : ℕ) (above below : Bool) (begins : Taken W O) (fault : ReplicaFault) → (above ≡ true) ⊎ (below ≡ true)
    → (cond above (out_of_order r most found) (cond below (out_of_order r least found) begins)).fault ≡ Some fault → IsOutOfOrder fault
order_if r most least found true below begins fault wrong is = subst IsOutOfOrder (same_Some (cause.OutOfOrder most found) fault is) tt
order_if r most least found false true begins fault wrong is = subst IsOutOfOrder (same_Some (cause.OutOfOrder least found) fault is) tt
order_if r most least found false false begins fault (inl wrong) is = absurd cc
order_if r most least found false false begins fault (inr wrong) is = absurd cc

wrong_count : (most least found : ℕ) → (most < found) ⊎ (found < least) → (nat_lt most found ≡ true) ⊎ (nat_lt found least ≡ true)
wrong_count most least found (inl above) = inl (grind (arith, nat_tests))
wrong_count most least found (inr below) = inr (grind (arith, nat_tests))

miscounted : (r : ReplicaView) (frame : ServerFrame) (how : How) (fault : ReplicaFault) → r.plain.awaited ≡ Some how → Miscounts r frame → (taken (worlds_of r) r.plain frame).fault ≡ Some fault → IsOutOfOrder fault
miscounted r (Sync joined last from base) how fault awaited miscounts is =
    order_if r.plain (published_count r.plain) r.plain.acknowledged last (nat_lt (published_count r.plain) last) (nat_lt last r.plain.acknowledged) (begins_with (worlds_of r) r.plain how from base) fault
    (wrong_count (published_count r.plain) r.plain.acknowledged last miscounts)
    (subst (λ (awaits : Option How). (take_sync (worlds_of r) r.plain awaits last from base).fault ≡ Some fault) awaited is)
miscounted r (Recv entry) how fault awaited miscounts is = absurd miscounts
miscounted r (Tick time) how fault awaited miscounts is = absurd miscounts
miscounted r (Done number seq time) how fault awaited miscounts is = absurd miscounts
miscounted r (Snapped time) how fault awaited miscounts is = absurd miscounts
miscounted r (Refused about code kept more) how fault awaited miscounts is = absurd miscounts
miscounted r Alive how fault awaited miscounts is = absurd miscounts

-- an answer that is fine or miscounts has no fault but one of order
pub sync_fault
    : (r : ReplicaView) (frame : ServerFrame) (fault : ReplicaFault) → (how : How) × (r.plain.awaited ≡ Some how) → IsFine r frame ⊎ Miscounts r frame
    → (taken (worlds_of r) r.plain frame).fault ≡ Some fault → IsOutOfOrder fault
sync_fault r frame fault awaited (inl fine) is = absurd (none-some fault (sym fine.none ∙ is))
sync_fault r frame fault awaited (inr miscounts) is = miscounted r frame awaited.0 fault awaited.1 miscounts is
